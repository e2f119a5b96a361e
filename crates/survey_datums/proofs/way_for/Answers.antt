-- `survey_datums::way_for` meets its contract.
use native.Mathlib.Omega.{arith}
use borrow.Author.Tests.{lt-ltb, le-ltb, eq-eqb, ne_eqb}
use Rattle.survey_datums.specs.Answer.{way_for}
use Rattle.survey_datums.proofs.way_for.Goals as goal

pub returns-then-shifts-lt-NO_ROUTE : goal.returns-then-shifts-lt-NO_ROUTE
unfolding way_for
returns-then-shifts-lt-NO_ROUTE c = let n = c.args.shifts in rw (lt-ltb n 9 c.if-shifts-lt-NO_ROUTE.true)

pub returns-then-shifts-eq-NO_ROUTE : goal.returns-then-shifts-eq-NO_ROUTE
unfolding way_for
returns-then-shifts-eq-NO_ROUTE c =
    let n = c.args.shifts in rw (le-ltb n 9 (omega (arith, c.if-shifts-lt-NO_ROUTE.false)), eq-eqb n 9 c.if-shifts-eq-NO_ROUTE.true)

pub returns : goal.returns
unfolding way_for
returns c =
    let n = c.args.shifts in rw (le-ltb n 9 (omega (arith, c.if-shifts-lt-NO_ROUTE.false)), ne_eqb n 9 c.if-shifts-eq-NO_ROUTE.false)
