-- `tie_check::listing::list_card` meets its contract.
use Prim.Native.Nat.{◌+◌, ◌*◌, ◌≤◌}
use mathlib.Core.Path.{◌≡◌}
use mathlib.Core.List.{flat_map}
use lib.ListN.{length}
use Rattle.base_lists.specs.Parts.{up_to}
use Rattle.tie_rules.specs.Faults.{kinds}
use Rattle.tie_check.specs.packed.Stored.{stored_all}
use Rattle.tie_check.specs.packed.Listed.{step_entries}
use Rattle.tie_check.proofs.listing.list_card.Given as goal

abbrev pub invariant-loop-i : goal.invariant-loop-i
invariant-loop-i l =
    (l.m ≤ l.found + kinds * l.i)
    × (l.list ≡ stored_all l.initial.list l.found (flat_map (step_entries l.header l.place l.left) (up_to l.i)))
    × (l.m ≡ l.found + length (flat_map (step_entries l.header l.place l.left) (up_to l.i)))
