-- A walk over the digits at the front, and what is known where it ends.
use Prim.Native.Nat.{ℕ, ◌+◌, ◌<◌}
use native.Mathlib.Omega.{arith}
use mathlib.Core.Path.{◌≡◌, refl, sym, ap, ◌∙◌}
use mathlib.Core.List.{List, [], ◌∷◌}
use Rattle.std.specs.List.{prefix_len}
use mathlib.Core.Bool.{Bool, true, false, cond, not}
use lib.Dec.{eqb}
use lib.ListN.{length, get_or, drop}
use borrow.Author.Tests.{eq-eqb, ne_eqb}
use Rattle.base_digits.specs.digits.Figures.{is_digit, leading, run_of}
use Rattle.value_number.specs.number.Reading.{counted_of, figures_of}
use Rattle.value_number.proofs.number.Parsing.{figures_whole, figures_no_point_in_whole, figures_other-byte, figures_odd_places, figures_places}
use Rattle.value_number.specs.packed.Shapes.{is_units, mark_in}
use Rattle.std.specs.Prelude.{Some, None}
use Rattle.value_number.specs.number.Figures.{figures}

-- how many digits stand at the front, as an iterator takes them
pub leading_are : (s : List ℕ) → prefix_len is_digit s ≡ length (leading s)
unfolding leading
leading_are [] = refl
leading_are (b ∷ s) = go (is_digit b) (leading_are s)
  where
    go : (t : Bool) → prefix_len is_digit s ≡ length (leading s) → cond t (1 + prefix_len is_digit s) 0 ≡ length (cond t (b ∷ leading s) [])
    go true e = omega (arith, e)
    go false e = refl

-- a decimal, by how many digits stand before the point and behind it

counted_units : (c n p : ℕ) → not (eqb c 0) ≡ is_units (counted_of c n p)
counted_units c n p = go (eqb c 0)
  where
    go : (b : Bool) → not b ≡ is_units (cond b None (Some (figures n p)))
    go true = refl
    go false = refl

module _ (t : List ℕ) (a : ℕ) (e : a ≡ length (leading t)) where
  pub decimal-whole : a ≡ length t → not (eqb a 0) ≡ is_units (figures_of true t)
  decimal-whole h =
      ap (λ (c : ℕ). not (eqb c 0)) e ∙ counted_units (length (leading t)) (run_of 0 t).number 0
      ∙ ap is_units (figures_whole t (run_of 0 t) refl true (sym e ∙ h))

  module _ (more : a < length t) where
    goes_on_lem : length (leading t) < length t
    goes_on_lem = omega arith

    pub decimal-other : (get_or t a 0 ≡ 46 → ⊥) → false ≡ is_units (figures_of true t)
    decimal-other h =
        ap is_units (figures_other-byte t (run_of 0 t) refl goes_on_lem true (λ (q : get_or t (length (leading t)) 0 ≡ 46). h (ap (λ (k : ℕ). get_or t k 0) e ∙ q)))

    module _ (point : get_or t a 0 ≡ 46) (b : ℕ) (d : b ≡ length (leading (drop (a + 1) t))) where
      point_there : get_or t (length (leading t)) 0 ≡ 46
      point_there = ap (λ (k : ℕ). get_or t k 0) (sym e) ∙ point

      behind_it : b ≡ length (leading (drop (length (leading t) + 1) t))
      behind_it = d ∙ ap (λ (k : ℕ). length (leading (drop (k + 1) t))) e

      rest_is : length (drop (a + 1) t) ≡ length (drop (length (leading t) + 1) t)
      rest_is = ap (λ (k : ℕ). length (drop (k + 1) t)) e

      pub decimal_odd : (b ≡ length (drop (a + 1) t) → ⊥) → false ≡ is_units (figures_of true t)
      decimal_odd h =
          ap is_units
          (figures_odd_places t (run_of 0 t) refl goes_on_lem (run_of (run_of 0 t).number (drop (length (leading t) + 1) t)) refl point_there true refl
          (λ (q : length (leading (drop (length (leading t) + 1) t)) ≡ length (drop (length (leading t) + 1) t)). h (behind_it ∙ q ∙ sym rest_is)))

      pub decimal-places : b ≡ length (drop (a + 1) t) → not (eqb (a + b) 0) ≡ is_units (figures_of true t)
      decimal-places h =
          rw (e, behind_it) (counted_units (length (leading t) + length (leading (drop (length (leading t) + 1) t))) (run_of (run_of 0 t).number (drop (length (leading t) + 1) t)).number (length (leading (drop (length (leading t) + 1) t))))
          ∙ ap is_units
          (figures_places t (run_of 0 t) refl goes_on_lem (run_of (run_of 0 t).number (drop (length (leading t) + 1) t)) refl point_there true refl
          (sym behind_it ∙ h ∙ rest_is))

-- a whole number, by what the walk finds

module _ (t : List ℕ) (n i : ℕ) (e : run_of 0 t ≡ record { number = n; count = i }) where
  pub mark_odd : i < length t → 0 ≡ mark_in (figures_of false t)
  mark_odd h = ap mark_in (figures_no_point_in_whole t (record { number = n; count = i }) (sym e) h false refl)

  pub mark-none : i ≡ length t → i ≡ 0 → 0 ≡ mark_in (figures_of false t)
  mark-none h z = rw (eq-eqb i 0 z) at (ap mark_in (figures_whole t (record { number = n; count = i }) (sym e) false h))

  pub mark-is : i ≡ length t → (i ≡ 0 → ⊥) → n + 1 ≡ mark_in (figures_of false t)
  mark-is h z = rw (ne_eqb i 0 z) at (ap mark_in (figures_whole t (record { number = n; count = i }) (sym e) false h))
