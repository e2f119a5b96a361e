-- `tie_check::gather::gather` meets its contract: one card after the other.
use mathlib.Core.Path.{◌≡◌}
use lib.ListN.{length}
use Rattle.tie_check.specs.packed.Gathered.{gathered_to}
use Rattle.tie_check.proofs.gather.gather.Given as goal

abbrev pub invariant-loop-place : goal.invariant-loop-place
invariant-loop-place l =
    (l.keys ≡ (gathered_to l.header (length l.yielded)).keys) × (l.links ≡ (gathered_to l.header (length l.yielded)).links)
