-- Counting waypoints by vessel.
use Prim.Native.Nat.{ℕ, zero, suc, ◌+◌, ◌≤◌, ◌<◌}
use native.Mathlib.Decide.{ℕ_discrete}
use native.Mathlib.Numerals.{add-one}
use native.Mathlib.Omega.{arith}
use mathlib.Core.Path.{◌≡◌, sym, ap, ◌∙◌}
use mathlib.Core.List.{List}
use lib.Dec.{eqb}
use lib.ListN.{length, get_or, set, length-set, length-replicate, get_or-replicate}
use lib.Seq.{get_or-set_same, get_or-set_other}
use borrow.Author.Tests.{eq-eqb, ne_eqb}
use Rattle.base_lists.specs.Count.{count}
use Rattle.base_lists.proofs.Counting.{count_le}
use Rattle.tie_rules.specs.packed.Numbers.{vessel_in}
use Rattle.tie_rules.proofs.packing.Vessels.{vessel_below}
use Rattle.tie_check.specs.packed.Totals.{counted_up, waypoints_to}

module _ (numbers : List ℕ) where
  pub bins : (n : ℕ) → length (waypoints_to numbers n) ≡ 11
  unfolding waypoints_to counted_up
  bins zero = length-replicate {A = ℕ} 11 0
  bins (suc n) = length-set (waypoints_to numbers n) _ _ ∙ bins n

  pub waypoints_are : (n v : ℕ) → v < 11
      → get_or (waypoints_to numbers n) v 0 ≡ count (λ i. eqb (vessel_in (get_or numbers i 0)) v) n
  unfolding waypoints_to counted_up count
  waypoints_are zero v l = get_or-replicate 11 v 0 0 l
  waypoints_are (suc n) v l =
      let w = waypoints_to numbers n in
      let u = vessel_in (get_or numbers n 0) in
      elim (ℕ_discrete u v) [
        | yes q ↦
            ap (λ j. get_or (set w u (get_or w u 0 + 1)) j 0) (sym q)
            ∙ get_or-set_same w u (get_or w u 0 + 1) 0 (omega (arith, bins n, vessel_below (get_or numbers n 0)))
            ∙ ap (λ j. get_or w j 0 + 1) q
            ∙ rw (waypoints_are n v l, eq-eqb u v q)
        | no q ↦
            get_or-set_other w u v (get_or w u 0 + 1) 0 (λ r. q (sym r))
            ∙ rw (waypoints_are n v l, ne_eqb u v q) (omega arith)
      ]

  -- no more than there are numbers
  pub waypoints_few : (n v : ℕ) → v < 11 → get_or (waypoints_to numbers n) v 0 ≤ n
  waypoints_few n v l = omega (arith, waypoints_are n v l, count_le (λ i. eqb (vessel_in (get_or numbers i 0)) v) n)

  -- one number more
  pub one_more : (n v : ℕ) (counts counts' : List ℕ) → counts ≡ waypoints_to numbers n → v ≡ vessel_in (get_or numbers n 0)
      → counts' ≡ counted_up counts v → counts' ≡ waypoints_to numbers (n + 1)
  unfolding waypoints_to
  one_more n v counts counts' p q r = rw (add-one n) (r ∙ rw (p, q))
