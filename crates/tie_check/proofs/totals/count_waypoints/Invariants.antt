-- `tie_check::totals::count_waypoints` meets its contract: one number more.
use mathlib.Core.Path.{◌≡◌}
use Rattle.tie_check.specs.packed.Totals.{waypoints_to}
use Rattle.tie_check.proofs.totals.count_waypoints.Given as goal

abbrev pub invariant-loop-number : goal.invariant-loop-number
invariant-loop-number l = l.waypoints ≡ waypoints_to l.numbers l.number-index
