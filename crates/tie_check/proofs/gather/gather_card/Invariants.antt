-- `tie_check::gather::gather_card` meets its contract: one column after the other that can carry a tie.
use mathlib.Core.Path.{◌≡◌}
use Rattle.tie_check.specs.packed.Gathered.{store, with_slots}
use Rattle.tie_check.proofs.gather.gather_card.Given as goal

abbrev pub invariant-loop-slot : goal.invariant-loop-slot
invariant-loop-slot l =
    (l.keys ≡ (with_slots (store l.initial.keys l.initial.links) l.card l.tag l.slot).keys)
    × (l.links ≡ (with_slots (store l.initial.keys l.initial.links) l.card l.tag l.slot).links)
