-- `survey_compass::off_circle` meets its contract.
use mathlib.Core.Path.{ap, ◌∙◌}
use mathlib.Core.Bool.{not}
use mir.Syntax.{w64}
use mir.Val.{to_z, of_z}
use mir.ValLaws.{to_z-of_z}
use Rattle.survey_compass.specs.Headings.{off_circle}
use Rattle.survey_compass.proofs.Reading.{up_to_turn}
use Rattle.survey_compass.proofs.off_circle.Goals as goal

pub returns : goal.returns
unfolding off_circle
returns c =
    let e = c.contains.ensures.value in
    let n = c.new.ensures in
    ap not (rw (n.start, n.end, n.exhausted) at e) ∙ up_to_turn (to_z w64 (of_z w64 c.args.direction)) 360 ∙ ap off_circle (to_z-of_z w64 c.args.direction c.ranges.direction)
