-- `survey_compass::corrections::into_circle` meets its contract.
use mathlib.Core.Path.{refl, ◌∙◌}
use native.Mathlib.Omega.{arith}
use lib.IntN.{pos}
use Rattle.std.proofs.Common.{rules}
use Rattle.survey_compass.specs.Corrections.{turn}
use Rattle.survey_compass.proofs.Turning.{turn-some, turn-most, turn_signed, turned-is}
use Rattle.survey_compass.proofs.corrections.into_circle.Goals as goal

pub overflow_cast-turn : goal.overflow_cast-turn
overflow_cast-turn c =
    let m = turn-most c.args.sum.places c.requires in
    rw c.whole_turn-turn.ensures (record { sfits = omega (arith, m) })

pub rem_euclid-requires-clause-nonzero : goal.rem_euclid-requires-clause-nonzero
rem_euclid-requires-clause-nonzero c =
    let s = turn-some c.args.sum.places in
    rw (turn_signed _ c.requires _ c.whole_turn-turn.ensures) (omega (arith, s))

pub rem_euclid-requires-clause-no_overflow : goal.rem_euclid-requires-clause-no_overflow
rem_euclid-requires-clause-no_overflow c =
    let m = turn-most c.args.sum.places c.requires in
    rw (turn_signed _ c.requires _ c.whole_turn-turn.ensures) (λ h k. absurd (omega (arith, m, h)))

pub returns : goal.returns
returns c =
    let v = rw c.whole_turn-turn.ensures at c.rem_euclid.ensures.value in
    c.new.ensures ∙ turned-is c.args.sum c.requires (pos (turn c.args.sum.places)) refl _ v (search rules)
