-- `survey_compass::directions::times_listed` meets its contract.
use mathlib.Core.Path.{◌∙◌, refl}
use lib.Dec.{eqb}
use Rattle.std.proofs.Common.{rules, tests}
use Rattle.std.proofs.lemmas.Iterator.{YieldsList-from_range}
use Rattle.std.proofs.lemmas.Iterator.Consumers.{YieldsList-from_filter, count_from_yields_List}
use Rattle.tie_lookup.proofs.Ranges.{length-filter_range}
use Rattle.survey_compass.specs.Directions.{mark_at, times_listed}
use Rattle.survey_compass.proofs.directions.times_listed.Goals as goal

pub returns : goal.returns
unfolding times_listed
returns c =
    let a = c.args in
    count_from_yields_List c.filter.result _ c.count.ensures.ran
    (YieldsList-from_filter _ (λ i. eqb (mark_at a.card.now i) a.mark) (YieldsList-from_range 0 8 8 (cc) refl) c.filter.ensures.closure (λ x b q k. search (rules, tests)))
    ∙ length-filter_range (λ i. eqb (mark_at a.card.now i) a.mark) 8
