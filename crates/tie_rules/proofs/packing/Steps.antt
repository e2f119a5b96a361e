-- What each way through the packing functions answers.
use Prim.Native.Nat.{ℕ, suc, ◌+◌, ◌*◌, ◌≤◌, ◌<◌}
use native.Mathlib.Omega.{arith}
use mathlib.Core.Path.{◌≡◌, refl, sym, ap, ◌∙◌}
use mathlib.Core.List.{List, [], ◌∷◌}
use mathlib.Core.Bool.{Bool, true, false, cond, ◌&&◌, not}
use lib.Dec.{eqb, leb, ltb}
use lib.IntN.{ℤ, pos, negsuc, nat_abs}
use lib.ListN.{length, take}
use lib.Seq.{length-take-le}
use borrow.Author.Tests.{eq-eqb, ne_eqb, eqb-false, leb-true, not-true, lt-ltb, le-ltb, le-leb, lt-leb}
use Rattle.base_digits.proofs.digits.Bools.{and_left, and_right}
use Rattle.base_digits.specs.signs.Signs.{is_minus}
use Rattle.value_text.specs.text.Texts.{text_end, text_of, printable}
use Rattle.tie_rules.specs.Offered.{is_whole, whole_fits, pair_fits, text_fits, borne, whole_offered, pair_offered, text_offered, natural}
use Rattle.tie_rules.specs.packed.Numbers.{bits_of, bits_in, within, room, packed}
use Rattle.tie_rules.proofs.packing.Bits.{bits_some}

-- no key
none-borne : (class : ℕ) → borne class [] ≡ false
unfolding borne text_fits pair_fits whole_fits
none-borne class = go (eqb class 4) (eqb class 7) (is_whole class)
  where
    go : (t p w : Bool) → cond t false (cond p false (w && false)) ≡ false
    go true p w = refl
    go false true w = refl
    go false false true = refl
    go false false false = refl

pub none-packed : (class : ℕ) → packed class [] ≡ 0
unfolding packed
none-packed class = rw (none-borne class)

-- what it is to be a class of whole numbers
pub record WholeClass (class : ℕ) : Type 0 where
  pub some : 1 ≤ class
  pub last : class ≤ 10
  pub no_text : class ≡ 4 → ⊥
  pub no_pair : class ≡ 7 → ⊥

pub whole-class : (class : ℕ) → is_whole class ≡ true → WholeClass class
unfolding is_whole
whole-class class h =
    let three = and_left (leb 1 class && leb class 10 && not (eqb class 4)) _ h in
    let two = and_left (leb 1 class && leb class 10) _ three in
    record {
      some = leb-true 1 class (and_left _ _ two);
      last = leb-true class 10 (and_right (leb 1 class) _ two);
      no_text = eqb-false class 4 (not-true _ (and_right (leb 1 class && leb class 10) _ three));
      no_pair = eqb-false class 7 (not-true _ (and_right (leb 1 class && leb class 10 && not (eqb class 4)) _ h));
    }

pub other_kind : (class : ℕ) (key : List ℕ) → is_whole class ≡ false → 0 ≡ packed class (whole_offered class key)
unfolding whole_offered
other_kind class key h = rw h (sym (none-packed class))

pub offered_none : (class : ℕ) → packed class (whole_offered class []) ≡ 0
unfolding whole_offered
offered_none class = go (is_whole class)
  where
    go : (b : Bool) → packed class (cond b [] []) ≡ 0
    go true = none-packed class
    go false = none-packed class

pub offered_whole : (class : ℕ) → is_whole class ≡ true → (key : List ℕ) → whole_offered class key ≡ key
unfolding whole_offered
offered_whole class w key = rw w

module _ (class : ℕ) (w : is_whole class ≡ true) (n : ℕ) where
  whole_is : packed class (n ∷ []) ≡ cond (ltb n 10000) (class * room + n) 0
  unfolding packed borne whole_fits within
  whole_is =
      let k = whole-class class w in
      rw (ne_eqb class 4 k.no_text, ne_eqb class 7 k.no_pair, w)

  pub too_large : 10000 ≤ n → 0 ≡ packed class (whole_offered class (n ∷ []))
  too_large l = sym (ap (packed class) (offered_whole class w (n ∷ [])) ∙ whole_is ∙ rw (le-ltb n 10000 l))

  pub number-packed : n < 10000 → class * room + n ≡ packed class (whole_offered class (n ∷ []))
  number-packed l = sym (ap (packed class) (offered_whole class w (n ∷ [])) ∙ whole_is ∙ rw (lt-ltb n 10000 l))

module _ (a b : ℕ) where
  pub first_large : 10 ≤ a → 0 ≡ packed 7 (a ∷ b ∷ [])
  unfolding packed borne pair_fits
  first_large l = rw (le-ltb a 10 l)

  module _ (l : a < 10) where
    pub second_large : 1000 ≤ b → 0 ≡ packed 7 (a ∷ b ∷ [])
    unfolding packed borne pair_fits
    second_large m = rw (lt-ltb a 10 l, le-ltb b 1000 m)

    pub pair_packed : b < 1000 → 7 * room + (a * 1000 + b) ≡ packed 7 (a ∷ b ∷ [])
    unfolding packed borne pair_fits within
    pair_packed m = rw (lt-ltb a 10 l, lt-ltb b 1000 m)

-- numbers with a sign
pub minus_none : (z : ℤ) → is_minus z ≡ true → natural z ≡ []
unfolding natural
minus_none (pos n) h = let x : ◌≡◌ {A = ℕ} 0 1 = cc in absurd (omega arith)
minus_none (negsuc n) h = refl

pub plus_some : (z : ℤ) → is_minus z ≡ false → natural z ≡ nat_abs z ∷ []
unfolding natural
plus_some (pos n) h = refl
plus_some (negsuc n) h = let x : ◌≡◌ {A = ℕ} 0 1 = cc in absurd (omega arith)

pub minus_whole : (class : ℕ) (z : ℤ) → is_minus z ≡ true → 0 ≡ packed class (whole_offered class (natural z))
minus_whole class z h = rw (minus_none z h) (sym (offered_none class))

pub plus_whole : (class : ℕ) (z : ℤ) (n r : ℕ) → is_minus z ≡ false → n ≡ nat_abs z → r ≡ packed class (whole_offered class (n ∷ []))
    → r ≡ packed class (whole_offered class (natural z))
plus_whole class z n r h e q = q ∙ ap (λ k. packed class (whole_offered class k)) (ap (λ m. m ∷ []) e ∙ sym (plus_some z h))

module _ (class : ℕ) (x y : ℤ) where
  no_pairs : (a b : List ℕ) → (class ≡ 7 → ⊥) → pair_offered class a b ≡ []
  unfolding pair_offered
  no_pairs [] b h = refl
  no_pairs (n ∷ ns) [] h = refl
  no_pairs (n ∷ ns) (m ∷ ms) h = rw (ne_eqb class 7 h)

  pub pair_other : (class ≡ 7 → ⊥) → 0 ≡ packed class (pair_offered class (natural x) (natural y))
  pair_other h = rw (no_pairs (natural x) (natural y) h) (sym (none-packed class))

  pub first_minus : is_minus x ≡ true → 0 ≡ packed class (pair_offered class (natural x) (natural y))
  unfolding pair_offered
  first_minus h = rw (minus_none x h) (sym (none-packed class))

  second_none : (a : List ℕ) → pair_offered class a [] ≡ []
  unfolding pair_offered
  second_none [] = refl
  second_none (n ∷ ns) = refl

  pub second_minus : is_minus y ≡ true → 0 ≡ packed class (pair_offered class (natural x) (natural y))
  second_minus h = rw (minus_none y h, second_none (natural x)) (sym (none-packed class))

  pub pair_plus : (m n r : ℕ) → class ≡ 7 → is_minus x ≡ false → is_minus y ≡ false → m ≡ nat_abs x → n ≡ nat_abs y
      → r ≡ packed 7 (m ∷ n ∷ []) → r ≡ packed class (pair_offered class (natural x) (natural y))
  unfolding pair_offered
  pair_plus m n r q a b e f h = rw (plus_some x a, plus_some y b, q, ← e, ← f) h

-- texts
bits_longer : (t : List ℕ) → 0 < bits_of t → 1 ≤ length t
unfolding bits_of
bits_longer [] h = absurd (omega arith)
bits_longer (b ∷ t) h = omega arith

module _ (t : List ℕ) where
  pub text_long : 8 < length t → 0 ≡ packed 4 t
  unfolding packed borne text_fits
  text_long l = rw (le-leb 1 (length t) (omega arith), lt-leb (length t) 8 l)

  pub text-none : bits_in t ≡ 0 → 0 ≡ packed 4 t
  unfolding packed borne text_fits bits_in
  text-none h = go (printable t) refl (leb 1 (length t)) refl (leb (length t) 8) (eqb (text_end t) (length t)) h
    where
      go : (p : Bool) → printable t ≡ p → (a : Bool) → leb 1 (length t) ≡ a → (b c : Bool) → cond p (bits_of t) 0 ≡ 0
          → 0 ≡ cond (a && (b && (c && p))) (4 * room + within 4 t) 0
      go p e false f b c z = refl
      go p e true f false c z = refl
      go p e true f true false z = refl
      go false e true f true true z = refl
      go true e true f true true z =
          absurd (omega (arith, bits_some t (λ q. omega (arith, leb-true 1 (length t) f)) e))

  pub text-packed : (bits : ℕ) → length t ≤ 8 → text_end t ≡ length t → bits ≡ bits_in t → (bits ≡ 0 → ⊥)
      → 4 * room + bits ≡ packed 4 t
  unfolding packed borne text_fits bits_in within
  text-packed bits l e q z = go (printable t) refl q
    where
      go : (p : Bool) → printable t ≡ p → bits ≡ cond p (bits_of t) 0
          → 4 * room + bits ≡ cond (leb 1 (length t) && (leb (length t) 8 && (eqb (text_end t) (length t) && p)))
          (4 * room + bits_of t) 0
      go true f h =
          rw (le-leb 1 (length t) (bits_longer t (omega arith)), le-leb (length t) 8 l, eq-eqb (text_end t) (length t) e)
          (ap (λ n. 4 * room + n) h)
      go false f h = absurd (z h)

pub text-other : (class : ℕ) (s : List ℕ) → (class ≡ 4 → ⊥) → 0 ≡ packed class (text_offered class s)
unfolding text_offered
text-other class s h = rw (ne_eqb class 4 h) (sym (none-packed class))

pub text_offered_lem : (class : ℕ) (s : List ℕ) (r : ℕ) → class ≡ 4 → r ≡ packed 4 (text_of s) → r ≡ packed class (text_offered class s)
unfolding text_offered
text_offered_lem class s r q h = rw q h

-- no blank stands behind a text
pub end_within : (s : List ℕ) → text_end s ≤ length s
unfolding text_end
end_within [] = omega arith
end_within (b ∷ s) = go (eqb (text_end s) 0 && eqb b 32) (end_within s)
  where
    go : (d : Bool) → text_end s ≤ length s → cond d 0 (suc (text_end s)) ≤ suc (length s)
    go true h = omega arith
    go false h = omega arith

end_take : (s : List ℕ) → text_end (take (text_end s) s) ≡ text_end s
unfolding text_end
end_take [] = refl
end_take (b ∷ s) = go (eqb (text_end s) 0 && eqb b 32) refl (end_take s)
  where
    go : (d : Bool) → (eqb (text_end s) 0 && eqb b 32) ≡ d → text_end (take (text_end s) s) ≡ text_end s
        → text_end (take (cond d 0 (suc (text_end s))) (b ∷ s)) ≡ cond d 0 (suc (text_end s))
    go true q h = refl
    go false q h = rw (h, q)

pub end_of_text : (s : List ℕ) → text_end (text_of s) ≡ length (text_of s)
unfolding text_of
end_of_text s = end_take s ∙ sym (length-take-le (text_end s) s (end_within s))

-- the text in some columns
pub told : (s t : List ℕ) {r : ℕ} → t ≡ text_of s → r ≡ packed 4 t → r ≡ packed 4 (text_of s)
told s t e q = q ∙ ap (packed 4) e
