-- `survey_datums::way_of` meets its contract.
use native.Mathlib.Omega.{arith}
use Rattle.survey_datums.proofs.Answering.{below_one, above_nine, one_of_nine}
use Rattle.survey_datums.proofs.way_of.Goals as goal

pub returns-then-datum-eq0 : goal.returns-then-datum-eq0
returns-then-datum-eq0 c = let a = c.args in below_one a.routes a.datum c.if-datum-eq0.true

pub returns-then-datum-gt-DATUMS : goal.returns-then-datum-gt-DATUMS
returns-then-datum-gt-DATUMS c = let a = c.args in above_nine a.routes a.datum c.if-datum-gt-DATUMS.true

pub bounds-shifts-datum : goal.bounds-shifts-datum
bounds-shifts-datum c = omega (arith, c.if-datum-gt-DATUMS.false)

pub returns : goal.returns
returns c =
    let a = c.args in
    one_of_nine a.routes a.datum c.if-datum-eq0.false (λ l. omega (arith, l, c.if-datum-gt-DATUMS.false)) c.way_for.result c.way_for.ensures
