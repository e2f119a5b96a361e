-- What two or three columns hold, told by their bytes.
use Prim.Native.Nat.{ℕ, suc, ◌+◌, ◌*◌, ◌-◌, ◌≤◌}
use native.Mathlib.Omega.{arith}
use mathlib.Core.Path.{◌≡◌, refl, sym, ap, ◌∙◌}
use mathlib.Core.List.{List, [], ◌∷◌}
use lib.ListN.{length, get_or, take, drop}
use lib.Seq.{drop-cons}
use mathlib.Core.Bool.{Bool, true, false, ◌&&◌, false≢true}
use lib.Dec.{eqb, leb}
use borrow.Author.Tests.{eq-eqb, ne_eqb, leb-true}
use Rattle.base_digits.specs.digits.Figures.{is_digit, blanks, unpadded, leading, behind, value_from}
use Rattle.base_digits.proofs.digits.Bools.{and_left, and_right}
use Rattle.value_number.specs.number.Reading.{point_of, figures_of}
use Rattle.value_coordinate.specs.angle.Angles.{padded_of}
use Rattle.std.specs.Prelude.{Some, None}
use Rattle.value_number.specs.number.Figures.{figures}

digit_range : (b : ℕ) (r : Bool) → r ≡ is_digit b → r ≡ true → (48 ≤ b) × (b ≤ 57)
digit_range b r e h =
    let d : is_digit b ≡ true = sym e ∙ h in
    (leb-true 48 b (and_left (leb 48 b) (leb b 57) d), leb-true b 57 (and_right (leb 48 b) (leb b 57) d))

pub digit-least : (b : ℕ) (r : Bool) → r ≡ is_digit b → r ≡ true → 48 ≤ b
digit-least b r e h = (digit_range b r e h).0

not_blank : (b : ℕ) → 48 ≤ b → eqb b 32 ≡ false
not_blank b h = ne_eqb b 32 (λ q. omega arith)

-- two columns that blanks may pad
module _ (a b : ℕ) (r : Bool) (e : r ≡ is_digit b) where
  pub two_none : r ≡ false → None ≡ padded_of (a ∷ b ∷ [])
  unfolding padded_of unpadded blanks figures_of leading behind point_of
  two_none h = go (eqb a 32) refl (eqb b 32) refl (is_digit a) refl
    where
      d : is_digit b ≡ false
      d = sym e ∙ h

      go : (x : Bool) → eqb a 32 ≡ x → (y : Bool) → eqb b 32 ≡ y → (z : Bool) → is_digit a ≡ z → None ≡ padded_of (a ∷ b ∷ [])
      go true p true q z k = rw (p, q)
      go true p false q z k = rw (p, q, d)
      go false p y q true k = rw (p, k, d)
      go false p y q false k = rw (p, k)

  module _ (h : r ≡ true) where
    d : is_digit b ≡ true
    d = sym e ∙ h

    pub two_padded : a ≡ 32 → Some (figures (b - 48) 0) ≡ padded_of (a ∷ b ∷ [])
    unfolding padded_of unpadded blanks figures_of leading behind point_of value_from
    two_padded q =
        let l = digit_range b r e h in
        rw (eq-eqb a 32 q, not_blank b l.0, d) (ap (λ v. Some (figures v 0)) (omega arith))

    module _ (other : a ≡ 32 → ⊥) (t : Bool) (f : t ≡ is_digit a) where
      pub two_odd : t ≡ false → None ≡ padded_of (a ∷ b ∷ [])
      unfolding padded_of unpadded blanks figures_of leading behind point_of
      two_odd k = rw (ne_eqb a 32 other, sym f ∙ k)

      pub two_filled : t ≡ true → Some (figures ((a - 48) * 10 + (b - 48)) 0) ≡ padded_of (a ∷ b ∷ [])
      unfolding padded_of unpadded blanks figures_of leading behind point_of value_from
      two_filled k =
          let l = digit_range b r e h in
          let m = digit_range a t f k in
          rw (ne_eqb a 32 other, sym f ∙ k, d) (ap (λ v. Some (figures v 0)) (omega arith))

-- three columns
module _ (a b c : ℕ) where
  pub three_none : (x y z : Bool) → x ≡ is_digit a → y ≡ is_digit b → z ≡ is_digit c → ((x && y) && z) ≡ false → None ≡ figures_of false (a ∷ b ∷ c ∷ [])
  unfolding figures_of leading behind point_of
  three_none false y z p q k h = rw (← p)
  three_none true false z p q k h = rw (← p, ← q)
  three_none true true false p q k h = rw (← p, ← q, ← k)
  three_none true true true p q k h = absurd (false≢true (sym h))

  pub three_filled : (x y z : Bool) → x ≡ is_digit a → y ≡ is_digit b → z ≡ is_digit c → ((x && y) && z) ≡ true
      → Some (figures (((a - 48) * 10 + (b - 48)) * 10 + (c - 48)) 0) ≡ figures_of false (a ∷ b ∷ c ∷ [])
  unfolding figures_of leading behind point_of value_from
  three_filled x y z p q k h =
      let i : (x && y) ≡ true = and_left (x && y) z h in
      let l = digit_range a x p (and_left x y i) in
      let m = digit_range b y q (and_right x y i) in
      let n = digit_range c z k (and_right (x && y) z h) in
      rw (sym p ∙ and_left x y i, sym q ∙ and_right x y i, sym k ∙ and_right (x && y) z h) (ap (λ v. Some (figures v 0)) (omega arith))

  pub three_padded : a ≡ 32 → padded_of (b ∷ c ∷ []) ≡ padded_of (a ∷ b ∷ c ∷ [])
  unfolding padded_of unpadded blanks
  three_padded q = rw (eq-eqb a 32 q)

  pub three_plain : (a ≡ 32 → ⊥) → figures_of false (a ∷ b ∷ c ∷ []) ≡ padded_of (a ∷ b ∷ c ∷ [])
  unfolding padded_of unpadded blanks
  three_plain q = rw (ne_eqb a 32 q)

-- the columns of a part, byte by byte
module _ (s : List ℕ) (i : ℕ) where
  pub two_of : suc i + 1 ≤ length s → take 2 (drop i s) ≡ get_or s i 0 ∷ get_or s (suc i) 0 ∷ []
  two_of h = rw (drop-cons s i 0 (omega arith), drop-cons s (suc i) 0 (omega arith))

  pub three_of : suc (suc i) + 1 ≤ length s → take 3 (drop i s) ≡ get_or s i 0 ∷ get_or s (suc i) 0 ∷ get_or s (suc (suc i)) 0 ∷ []
  three_of h = rw (drop-cons s i 0 (omega arith), drop-cons s (suc i) 0 (omega arith), drop-cons s (suc (suc i)) 0 (omega arith))
