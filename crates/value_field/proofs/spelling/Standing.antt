-- How a number stands in its columns: what the strict rule reads has no blank behind it, so that both rules read it alike.
use Prim.Native.Nat.{ℕ, suc, ◌+◌, ◌≤◌, ◌<◌}
use native.Mathlib.Omega.{arith}
use mathlib.Core.Path.{◌≡◌, refl, sym, ap, subst, ◌∙◌}
use mathlib.Core.List.{List, [], ◌∷◌, ◌++◌, append-nil}
use mathlib.Core.Bool.{Bool, true, false, cond, ◌&&◌}
use lib.ListN.{length, take, drop, length-append, length-take, take-append-drop}
use lib.Seq.{take_all}
use lib.Dec.{eqb, ltb}
use borrow.Author.Tests.{eqb-true, ne_eqb, le-ltb, leb-true}
use Rattle.base_digits.specs.digits.Figures.{blanks, unpadded, is_digit, leading, behind}
use Rattle.base_digits.proofs.digits.Bools.{and_left, and_right}
use Rattle.base_digits.proofs.digits.Walk.{all-leading}
use Rattle.base_value.specs.declared.Decimal.{Decimal as DecimalOf}
use Rattle.base_value.specs.declared.Value.TheVariants.{Decimal}
use Rattle.value_number.specs.number.Reading.{all_digits, units_of, point_of, figures_of, held_of, sign_of, number_of}
use Rattle.value_number.proofs.number_entry.Agreed.{front_back}
use Rattle.value_text.specs.text.Texts.{text_end, text_of}
use Rattle.value_text.proofs.text.Agreed.{end_le}
use Rattle.value_field.specs.spelling.Reading.{number_in, pushed_left}
use Rattle.std.specs.Prelude.{Ok, Option, Some, None}
use Rattle.value_number.specs.declared.number.Figures.{Figures}
use Rattle.value_number.specs.number.Figures.{figures}

zero_one : ◌≡◌ {A = ℕ} 0 1 → ⊥
zero_one h = omega arith

-- columns that are filled to the last
abbrev Filled : List ℕ → Type 0
Filled s = text_end s ≡ length s

filled_byte : (b : ℕ) (s : List ℕ) → (b ≡ 32 → ⊥) → Filled s → Filled (b ∷ s)
unfolding text_end
filled_byte b s n h = rw (ne_eqb b 32 n) (go (eqb (text_end s) 0))
  where
    go : (t : Bool) → cond (t && false) 0 (suc (text_end s)) ≡ suc (length s)
    go true = ap suc h
    go false = ap suc h

-- whatever stands before them
filled_behind : (x s : List ℕ) → 0 < length s → Filled s → Filled (x ++ s)
unfolding text_end
filled_behind [] s some h = h
filled_behind (b ∷ x) s some h =
    let e = filled_behind x s some h in
    let l : text_end (x ++ s) ≡ 0 → ⊥ = λ z. omega (arith, e, z, length-append x s) in
    rw (ne_eqb (text_end (x ++ s)) 0 l) (ap suc e)

digits_filled : (s : List ℕ) → Filled (leading s)
unfolding leading text_end
digits_filled [] = refl
digits_filled (b ∷ s) = go (is_digit b) refl (digits_filled s)
  where
    go : (t : Bool) → is_digit b ≡ t → Filled (leading s) → Filled (cond t (b ∷ leading s) [])
    go true q h = filled_byte b (leading s) (λ e. omega (arith, leb-true 48 b (and_left _ _ q), e)) h
    go false q h = refl

-- an unsigned number fills its columns
record Figured (u : List ℕ) : Type 0 where
  some : 0 < length u
  full : Filled u

no_digit : (a : List ℕ) (m q n p : ℕ) → cond (eqb (length a + 0) 0) None (Some (figures m q)) ≡ Some (figures n p) → 0 < length a
no_digit [] m q n p h = absurd (zero_one cc)
no_digit (b ∷ a) m q n p h = omega arith

figures_filled : (point : Bool) (u : List ℕ) (n p : ℕ) → figures_of point u ≡ Some (figures n p) → Figured u
unfolding figures_of point_of
figures_filled point u n p e = go (behind u) refl e
  where
    pointed : (c : ℕ) (b : List ℕ) → behind u ≡ c ∷ b → eqb c 46 ≡ true → all_digits b ≡ true → Figured u
    pointed c b q point digits =
        let all : leading u ++ (c ∷ b) ≡ u = ap (λ (l : List ℕ). leading u ++ l) (sym q) ∙ front_back u in
        let d : b ≡ leading b = sym (all-leading b (eqb-true (length (leading b)) (length b) digits)) in
        let f : Filled (c ∷ b) = filled_byte c b (λ z. omega (arith, eqb-true c 46 point, z)) (rw d (digits_filled b)) in
        subst Figured all
        (record { some = omega (arith, length-append (leading u) (c ∷ b)); full = filled_behind (leading u) (c ∷ b) (omega arith) f })

    test : (c : ℕ) (b : List ℕ) → behind u ≡ c ∷ b → (t : Bool) → (point && (eqb c 46 && all_digits b)) ≡ t
        → cond t (units_of (leading u) b) None ≡ Some (figures n p) → Figured u
    test c b q true z h =
        let r = and_right point (eqb c 46 && all_digits b) z in
        pointed c b q (and_left (eqb c 46) (all_digits b) r) (and_right (eqb c 46) (all_digits b) r)
    test c b q false z h = absurd (zero_one cc)

    go : (r : List ℕ) → behind u ≡ r → point_of point (leading u) r ≡ Some (figures n p) → Figured u
    go [] q h =
        let all : leading u ≡ u = sym (append-nil (leading u)) ∙ ap (λ (l : List ℕ). leading u ++ l) (sym q) ∙ front_back u in
        subst Figured all (record { some = no_digit (leading u) _ _ n p h; full = digits_filled u })
    go (c ∷ b) q h = test c b q (point && (eqb c 46 && all_digits b)) refl h

-- with its sign too
held_filled : (minus point : Bool) (u : List ℕ) (d : DecimalOf) → held_of minus (figures_of point u) ≡ Ok (Decimal d) → Figured u
unfolding held_of
held_filled minus point u d e = go (figures_of point u) refl e
  where
    go : (f : Option Figures) → figures_of point u ≡ f → held_of minus f ≡ Ok (Decimal d) → Figured u
    go None q h = absurd (zero_one cc)
    go (Some f) q h = figures_filled point u f.units f.places q

sign_filled : (point : Bool) (v : List ℕ) (d : DecimalOf) → sign_of point v ≡ Ok (Decimal d) → Figured v
unfolding sign_of
sign_filled point [] d e = absurd (zero_one cc)
sign_filled point (b ∷ t) d e = go (eqb b 45) (eqb b 43) e
  where
    signed : Figured t → Figured (b ∷ t)
    signed f = record { some = omega arith; full = filled_behind (b ∷ []) t f.some f.full }

    go : (x y : Bool)
        → cond x (held_of true (figures_of point t)) (cond y (held_of false (figures_of point t)) (held_of false (figures_of point (b ∷ t)))) ≡ Ok (Decimal d)
        → Figured (b ∷ t)
    go true y h = signed (held_filled true point t d h)
    go false true h = signed (held_filled false point t d h)
    go false false h = held_filled false point (b ∷ t) d h

module _ (point : Bool) (s : List ℕ) (d : DecimalOf) (e : number_of point s ≡ Ok (Decimal d)) where
  -- a number that the strict rule reads fills its columns to the last
  pub number_filled : text_end s ≡ length s
  unfolding number_of unpadded
  number_filled =
      let f = sign_filled point (drop (blanks s) s) d e in
      let all = take-append-drop (blanks s) s in
      subst Filled all (filled_behind (take (blanks s) s) (drop (blanks s) s) f.some f.full)

  -- so it is not pushed left, and both rules read the same
  pub strict_placed : pushed_left s ≡ false
  unfolding pushed_left
  strict_placed = rw (number_filled, le-ltb (length s) (length s) (omega arith)) (and_false (ltb 0 (length s)))
    where
      and_false : (b : Bool) → (b && false) ≡ false
      and_false true = refl
      and_false false = refl

  pub strict_alike : number_in point s ≡ Ok (Decimal d)
  unfolding number_in text_of
  strict_alike = ap (number_of point) (take_all (text_end s) s (omega (arith, number_filled))) ∙ e

-- blank columns are not pushed left
pub blank_placed : (s : List ℕ) → text_end s ≡ 0 → pushed_left s ≡ false
unfolding pushed_left
blank_placed s h = rw (h, le-ltb 0 0 (omega arith))

-- what is read stands in no more columns than there are
pub stretch_le : (s : List ℕ) → length (text_of s) ≤ length s
unfolding text_of
stretch_le s = omega (arith, length-take (text_end s) s, end_le s)
