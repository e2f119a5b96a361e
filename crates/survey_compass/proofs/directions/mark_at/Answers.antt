-- `survey_compass::directions::mark_at` meets its contract.
use Prim.Native.Nat.{◌-◌}
use native.Mathlib.Omega.{arith}
use native.Mathlib.Nat.{mod-lt}
use Rattle.survey_compass.specs.Directions.{mark_at}
use Rattle.survey_compass.proofs.Listed.{mark-none, mark-some}
use Rattle.survey_compass.proofs.directions.mark_at.Goals as goal

pub returns-then-number-eq0 : goal.returns-then-number-eq0
unfolding mark_at
returns-then-number-eq0 c = (mark-none _ _ c.whole_in-number.ensures c.if-number-eq0.true, omega arith)

pub returns : goal.returns
unfolding mark_at
returns c =
    (mark-some _ _ c.whole_in-number.ensures c.if-number-eq0.false, omega (arith, mod-lt (c.whole_in-number.result - 1) {m = 360} (omega arith)))
