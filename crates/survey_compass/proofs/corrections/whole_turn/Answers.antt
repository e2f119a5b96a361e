-- `survey_compass::corrections::whole_turn` meets its contract.
use mathlib.Core.Path.{ap}
use native.Mathlib.Omega.{arith}
use Prim.Native.Nat.{◌*◌}
use Rattle.survey_compass.specs.Corrections.{turn}
use Rattle.survey_compass.proofs.Turning.{turn-most}
use Rattle.survey_compass.proofs.corrections.whole_turn.Goals as goal

pub overflow_mul-result : goal.overflow_mul-result
unfolding turn
overflow_mul-result c =
    let h = turn-most c.args.places c.requires in
    rw c.pow.ensures (record { fits = omega (arith, h) })

pub returns : goal.returns
unfolding turn
returns c = ap (λ m. 360 * m) c.pow.ensures
