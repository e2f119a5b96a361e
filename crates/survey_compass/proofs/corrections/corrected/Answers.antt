-- `survey_compass::corrections::corrected` meets its contract.
use mathlib.Core.Path.{ap, ◌∙◌}
use Rattle.survey_compass.specs.Corrections.{turned}
use Rattle.survey_compass.proofs.Reading.{summed}
use Rattle.survey_compass.proofs.corrections.corrected.Goals as goal

pub into_circle-requires : goal.into_circle-requires
into_circle-requires c =
    (summed c.args.card.now c.args.raw c.args.asked c.requires.1 _ c.correction_in-fixed.ensures _ c.nearest_on-used.ensures _ c.plus.ensures _ c.plus-2.ensures).1

pub returns : goal.returns
returns c =
    c.into_circle.ensures
    ∙ ap turned (summed c.args.card.now c.args.raw c.args.asked c.requires.1 _ c.correction_in-fixed.ensures _ c.nearest_on-used.ensures _ c.plus.ensures _ c.plus-2.ensures).0
