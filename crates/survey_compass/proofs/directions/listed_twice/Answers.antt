-- `survey_compass::directions::listed_twice` meets its contract.
use mathlib.Core.Path.{◌∙◌, refl}
use Rattle.std.proofs.Common.{rules, tests}
use Rattle.std.proofs.lemmas.Iterator.{YieldsList-from_range}
use Rattle.std.proofs.lemmas.Iterator.Search.{any_from_yields_List}
use Rattle.tie_lookup.proofs.Ranges.{any_range}
use Rattle.survey_compass.specs.Directions.{is_again, listed_twice}
use Rattle.survey_compass.proofs.directions.listed_twice.Goals as goal

pub returns : goal.returns
unfolding listed_twice
returns c =
    any_from_yields_List (is_again c.args.card.now) _ _ _ c.any.ensures.ran (YieldsList-from_range 0 8 8 (cc) refl) (λ x b q k. search (rules, tests))
    ∙ any_range (is_again c.args.card.now) 8
