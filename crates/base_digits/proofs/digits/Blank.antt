-- Columns that are all blank hold blanks alone.
use Prim.Native.Nat.{ℕ, zero, suc, ◌<◌}
use native.Mathlib.Omega.{arith}
use mathlib.Core.Path.{◌≡◌, refl}
use mathlib.Core.List.{List, [], ◌∷◌}
use mathlib.Core.Bool.{Bool, true, false, cond}
use lib.ListN.{length, get_or}
use lib.Dec.{eqb}
use borrow.Author.Tests.{eqb-true}
use Rattle.base_digits.specs.digits.Figures.{blanks}

first_blank : (b : ℕ) (s : List ℕ) → blanks (b ∷ s) ≡ suc (length s) → (b ≡ 32) × (blanks s ≡ length s)
unfolding blanks
first_blank b s h = go (eqb b 32) refl h
  where
    go : (t : Bool) → eqb b 32 ≡ t → cond t (suc (blanks s)) 0 ≡ suc (length s) → (b ≡ 32) × (blanks s ≡ length s)
    go true e q = (eqb-true b 32 e, omega arith)
    go false e q = absurd (omega arith)

pub blank_at : (s : List ℕ) (i : ℕ) → blanks s ≡ length s → i < length s → get_or s i 0 ≡ 32
blank_at [] i h k = absurd (omega arith)
blank_at (b ∷ s) zero h k = (first_blank b s h).0
blank_at (b ∷ s) (suc i) h k = blank_at s i (first_blank b s h).1 (omega arith)
