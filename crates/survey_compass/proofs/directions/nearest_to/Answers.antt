-- `survey_compass::directions::nearest_to` meets its contract.
use mathlib.Core.Path.{◌∙◌, ap, refl}
use Rattle.std.specs.Prelude.{unwrap_or}
use Rattle.std.proofs.Common.{rules, tests}
use Rattle.std.proofs.lemmas.Iterator.{YieldsList-from_range}
use Rattle.std.proofs.lemmas.Iterator.Search.{position_from_yields_List}
use Rattle.tie_lookup.proofs.Ranges.{first_position}
use Rattle.survey_compass.specs.Directions.{is_nearest, nearest}
use Rattle.survey_compass.proofs.directions.nearest_to.Goals as goal

pub returns : goal.returns
unfolding nearest is_nearest
returns c =
    let p = is_nearest c.args.card.now c.args.asked in
    c.unwrap_or.ensures
    ∙ ap (λ r. unwrap_or r 8) (position_from_yields_List p _ _ _ c.position.ensures.ran (YieldsList-from_range 0 8 8 (cc) refl) (λ x b q k. search (rules, tests)))
    ∙ first_position p 8
