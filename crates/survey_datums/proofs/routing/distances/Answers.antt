-- `survey_datums::routing::distances` meets its contract.
use native.Mathlib.Omega.{arith}
use Rattle.survey_datums.proofs.routing.Levels.{level_first, level_next, level_last}
use Rattle.survey_datums.proofs.routing.distances.Goals as goal

pub loop-number-init : goal.loop-number-init
loop-number-init c = level_first c.args.table

pub loop-number-preserved : goal.loop-number-preserved
loop-number-preserved c =
    let b = c.loop-number in
    level_next c.args.table b.number c.loop-number-test.true b.shifts b.invariant c.go_further-shifts.result
    c.go_further-shifts.ensures

pub returns : goal.returns
returns c =
    let b = c.loop-number in
    level_last c.args.table b.number (omega (arith, b.auto.number-end, c.loop-number-test.false)) b.shifts b.invariant
