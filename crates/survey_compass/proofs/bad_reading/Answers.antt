-- `survey_compass::bad_reading` meets its contract.
use mathlib.Core.Path.{ap, ◌∙◌}
use mathlib.Core.Bool.{not}
use native.Mathlib.Omega.{arith}
use borrow.Author.Tests.{lt-ltb}
use Rattle.survey_compass.specs.Corrections.{turn}
use Rattle.survey_compass.proofs.Reading.{too_many_lem, below_turn, judged}
use Rattle.survey_compass.proofs.Turning.{turn-most, turn_signed}
use Rattle.survey_compass.proofs.bad_reading.Goals as goal

pub returns-then-raw-gt-PLACES : goal.returns-then-raw-gt-PLACES
returns-then-raw-gt-PLACES c =
    let h = c.if-raw-gt-PLACES.true in
    lt-ltb 11 c.args.raw.places h ∙ too_many_lem c.args.raw h

pub overflow_cast-whole_turn : goal.overflow_cast-whole_turn
overflow_cast-whole_turn c =
    let m = turn-most c.args.raw.places c.if-raw-gt-PLACES.false in
    rw c.whole_turn.ensures (record { sfits = omega (arith, m) })

pub returns-else-raw-gt-PLACES : goal.returns-else-raw-gt-PLACES
returns-else-raw-gt-PLACES c =
    let raw = c.args.raw in
    let few = c.if-raw-gt-PLACES.false in
    let v = rw (turn_signed raw.places few _ c.whole_turn.ensures) at c.contains.ensures.value in
    ap not v ∙ below_turn raw.units (turn raw.places) ∙ judged raw few
