-- `survey_datums::routing::distances` meets its contract.
use mathlib.Core.Path.{◌≡◌}
use Rattle.survey_datums.proofs.routing.Levels.{known}
use Rattle.survey_datums.proofs.routing.distances.Given as goal

abbrev pub invariant-loop-number : goal.invariant-loop-number
invariant-loop-number l = l.shifts ≡ known l.table l.number
