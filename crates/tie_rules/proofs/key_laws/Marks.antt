-- A whole number in some columns as it is marked, counted from 1: it is there, it is a given one, one column holds a digit.
use Prim.Native.Nat.{ℕ, zero, suc, ◌≤◌}
use native.Mathlib.Decide.{ℕ_discrete}
use native.Mathlib.Omega.{arith}
use mathlib.Core.Path.{◌≡◌, refl, sym, ap, ◌∙◌}
use mathlib.Core.List.{List, [], ◌∷◌}
use mathlib.Core.Bool.{Bool, true, false, ◌&&◌, not}
use lib.Dec.{eqb}
use lib.ListN.{take}
use borrow.Author.Tests.{eq-eqb, ne_eqb}
use Rattle.base_lists.specs.Parts.{alike}
use Rattle.tie_rules.specs.Keys.{is_none, whole_in}
use Rattle.tie_rules.specs.packed.Rows.{marked, unmarked}
use Rattle.tie_rules.proofs.key_laws.Found.{Small, shape, small-mark}

-- no number is marked 0
pub none-marked : (key : List ℕ) → is_none key ≡ eqb (marked key) 0
unfolding is_none marked
none-marked [] = refl
none-marked (n ∷ ns) = sym (ne_eqb (suc n) 0 (λ q. omega arith))

-- a number is marked by the next one
mark-is : (m v : ℕ) → alike (unmarked m) (v ∷ []) ≡ eqb m (suc v)
unfolding alike
mark-is zero v = sym (ne_eqb 0 (suc v) (λ q. omega arith))
mark-is (suc n) v = elim (ℕ_discrete n v) [
  | yes q ↦ rw (eq-eqb n v q) (sym (eq-eqb (suc n) (suc v) (ap suc q)))
  | no q ↦ rw (ne_eqb n v q) (sym (ne_eqb (suc n) (suc v) (λ r. q (omega arith))))
]

pub marked-is : (first last : ℕ) (s : List ℕ) (v : ℕ)
    → alike (whole_in first last s) (v ∷ []) ≡ eqb (marked (whole_in first last s)) (suc v)
marked-is first last s v =
    ap (λ (l : List ℕ). alike l (v ∷ [])) (shape first last s) ∙ mark-is (marked (whole_in first last s)) v

-- one column holds no more than a digit
pub one_column : (column : ℕ) (s : List ℕ) → marked (whole_in column column s) ≤ 10
one_column column s = go (marked (whole_in column column s)) (small-mark column column 1 s (omega arith))
  where
    go : (m : ℕ) → Small 10 (unmarked m) → m ≤ 10
    go zero h = omega arith
    go (suc n) h = h

-- a key has no first number that is none
pub none_first : (a : List ℕ) (t : Bool) → (not (is_none a) && (t && alike (take 1 a) [])) ≡ false
unfolding is_none alike
none_first [] t = refl
none_first (n ∷ ns) t = go t
  where
    go : (t : Bool) → (t && false) ≡ false
    go true = refl
    go false = refl
