-- The last entry before one that has its key: where the times are 1, there is none.
-- Assumes nothing.
use mathlib.Core.Path.{◌≡◌, refl, sym}
use mathlib.Core.List.{List}
use Prim.Native.Nat.{ℕ, ◌-◌, ◌<◌}
use native.Mathlib.Decide.{ℕ_discrete}
use native.Mathlib.Omega.{arith}
use borrow.Author.Tests.{eq-eqb}
use lib.ListN.{get_or}
use Rattle.base_lists.proofs.Counting.{count_hit, count-some}
use Rattle.tie_store.specs.Store.{count_in, times_at, holds, last, Linked}
use Rattle.tie_store.proofs.Only.{passes, is_below}

module _ (keys links : List ℕ) (l : Linked keys links) (i : ℕ) (below : i < count_in links) where
  pub none_before : times_at links i < 2 → 0 ≡ last (holds keys (get_or keys i 0)) i
  unfolding holds
  none_before few =
      let p = holds keys (get_or keys i 0) in
      let itself = count_hit p i (eq-eqb (get_or keys i 0) (get_or keys i 0) refl) in
      elim (ℕ_discrete (last p i) 0) [
        | yes z ↦ sym z
        | no z ↦
            let some = count-some p i (last p i - 1) (is_below p i (last p i) refl z) (passes p i (last p i) refl z) in
            absurd (omega (arith, few, l.times_are i below, itself, some))
      ]
