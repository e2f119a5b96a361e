-- `tie_lookup::search::in_header` meets its contract.
use mathlib.Core.Path.{◌≡◌}
use lib.ListN.{length}
use Rattle.tie_lookup.proofs.search.InHeader.{times_to, only_to}
use Rattle.tie_lookup.proofs.search.in_header.Given as goal

abbrev pub invariant-loop-place : goal.invariant-loop-place
invariant-loop-place l = (l.found.number ≡ times_to l.header l.number (length l.yielded)) × (l.found.only ≡ only_to l.header l.number (length l.yielded))
