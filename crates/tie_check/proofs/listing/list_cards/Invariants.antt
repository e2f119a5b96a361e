-- `tie_check::listing::list_cards` meets its contract.
use Prim.Native.Nat.{◌+◌, ◌*◌, ◌≤◌}
use mathlib.Core.Path.{◌≡◌}
use mathlib.Core.List.{flat_map}
use lib.ListN.{length}
use Rattle.base_lists.specs.Parts.{up_to}
use Rattle.tie_rules.specs.Faults.{kinds}
use Rattle.tie_check.specs.packed.Stored.{stored_all}
use Rattle.tie_check.specs.packed.Listed.{card_entries}
use Rattle.tie_check.proofs.listing.list_cards.Given as goal

abbrev pub invariant-loop-place : goal.invariant-loop-place
invariant-loop-place l =
    (l.found ≤ 81 * kinds * l.place)
    × (l.list ≡ stored_all l.initial.list 0 (flat_map (card_entries l.header) (up_to l.place)))
    × (l.found ≡ 0 + length (flat_map (card_entries l.header) (up_to l.place)))
