-- `tie_lookup::search::on_card` meets its contract.
use Prim.Native.Nat.{◌≤◌}
use mathlib.Core.Path.{◌≡◌}
use Rattle.tie_lookup.proofs.search.OnCard.{times_to, Held}
use Rattle.tie_lookup.proofs.search.on_card.Given as goal

abbrev pub invariant-loop-slot : goal.invariant-loop-slot
invariant-loop-slot l =
    (l.found.number ≤ l.slot) × (l.found.number ≡ times_to l.card l.number l.slot) × Held l.card l.number l.found.number l.found.only
