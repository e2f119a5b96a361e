-- What stores one after the other leave in a buffer, in room or past its end.
use Prim.Native.Nat.{ℕ, suc, ◌+◌, ◌*◌, ◌/◌, ◌≤◌, ◌<◌, min}
use native.Mathlib.Nat.{add-zero, zero-add}
use native.Mathlib.Decide.{dec_le}
use native.Mathlib.Omega.{arith}
use mathlib.Core.Path.{◌≡◌, refl, sym, ap, ◌∙◌}
use mathlib.Core.List.{List, [], ◌∷◌, ◌++◌}
use lib.ListN.{length, take, drop, set, drop_of_length-le, length-append}
use lib.Seq.{take_all, take-length, drop-length, sets, drop-nil, take_at, length-take-le, length_front}
use Rattle.base_digits.specs.digits.Digits.{digits, size}
use Rattle.base_digits.proofs.digits.Spell.{digits-length}
use Rattle.base_digits.proofs.digits.Numbers.{size_le}
use Rattle.base_lists.specs.Laid.{laid, fitting}

-- one text behind another
pub sets_append : (v w l : List ℕ) (i : ℕ) → sets l i (v ++ w) ≡ sets (sets l i v) (i + length v) w
sets_append [] w l i = ap (λ k. sets l k w) (sym (add-zero i))
sets_append (a ∷ v) w l i =
    sets_append v w (set l i a) (suc i) ∙ ap (λ k. sets (sets (set l i a) (suc i) v) k w) (omega arith)

past : (x : ℕ) (vs l : List ℕ) (i : ℕ) → sets (x ∷ l) (suc i) vs ≡ x ∷ sets l i vs
past x [] l i = refl
past x (a ∷ vs) l i = past x vs (set l i a) (suc i)

none : (vs : List ℕ) (i : ℕ) → sets [] i vs ≡ []
none [] i = refl
none (a ∷ vs) i = none vs (suc i)

from_front : (l vs : List ℕ) → sets l 0 vs ≡ take (length l) vs ++ drop (length vs) l
from_front [] vs = none vs 0 ∙ sym (drop-nil (length vs))
from_front (x ∷ l) [] = refl
from_front (x ∷ l) (a ∷ vs) = past a vs l 0 ∙ ap (λ r. a ∷ r) (from_front l vs)

-- from the front: as much as there is room for, and the rest as it was
pub laid-text : (l vs : List ℕ) → sets l 0 vs ≡ laid 1 l vs
unfolding laid fitting
laid-text l vs =
    let e : length l / 1 * 1 ≡ length l = omega arith in
    from_front l vs ∙ rw e (elim (dec_le (length vs) (length l)) [
      | yes h ↦
          let m : min (length vs) (length l) ≡ length vs = omega arith in
          rw (m, take_all (length l) vs h, take-length vs)
      | no h ↦
          let m : min (length vs) (length l) ≡ length l = omega arith in
          rw (m, drop-length l, drop_of_length-le l {i = length vs} (omega arith))
    ])

-- a text was put from a place on, and the next place is the one behind it
pub record Put (old : List ℕ) (at : ℕ) (w new : List ℕ) (next : ℕ) : Type 0 where
  pub out : new ≡ sets old at w
  pub place : next ≡ at + length w

-- one behind the other
pub then : {old new newer v w : List ℕ} {at next last : ℕ} → Put old at v new next → Put new next w newer last
    → Put old at (v ++ w) newer last
then {old} {new} {newer} {v} {w} {at} {next} {last} p q = record {
  out = q.out ∙ rw (p.out, p.place) (sym (sets_append v w old at));
  place = rw (length-append v w) (omega (arith, p.place, q.place));
}

-- a text that was put from the front on
pub laid_put : {old w new : List ℕ} {next : ℕ} → Put old 0 w new next → (new ≡ laid 1 old w) × (next ≡ length w)
laid_put {old} {w} {new} {next} p = (p.out ∙ laid-text old w, p.place ∙ zero-add (length w))

-- the front of some columns, once it is filled with the digits of a number
module _ (k n : ℕ) (d zeros : List ℕ) (room : k ≤ length zeros) (are : d ≡ digits (length (take k zeros)) n) where
  filled : d ≡ digits k n
  filled = are ∙ ap (λ m. digits m n) (length-take-le k zeros room)

  pub filled_length : length d ≡ k
  filled_length = ap length filled ∙ digits-length k n

  pub filled_front : take k (d ++ drop k zeros) ≡ digits k n
  filled_front = take_at d (drop k zeros) k filled_length ∙ filled

  pub filled_whole : length (d ++ drop k zeros) ≡ length zeros
  filled_whole = length_front zeros d k (filled_length ∙ sym (length-take-le k zeros room))

-- a number of at most ten digits
pub ten_digits : (n : ℕ) → n < 10000000000 → size n ≤ 10
ten_digits n h = size_le 20 n 10 h (omega arith)
