-- `survey_compass::corrections::nearest_on` meets its contract.
use Rattle.base_value.specs.Sums.{nothing}
use mathlib.Core.Path.{◌∙◌}
use native.Mathlib.Omega.{arith}
use Rattle.survey_compass.proofs.Nearest.{nearest_below}
use Rattle.survey_compass.proofs.Reading.{none_used, one_used}
use Rattle.survey_compass.proofs.corrections.nearest_on.Goals as goal

pub returns-then-least-eq-UNLISTED : goal.returns-then-least-eq-UNLISTED
unfolding nothing
returns-then-least-eq-UNLISTED c =
    let a = c.args in
    none_used a.card.now a.asked _ c.least_rank-least.ensures c.if-least-eq-UNLISTED.true

pub correction_at-requires : goal.correction_at-requires
correction_at-requires c =
    let l = c.least_rank-least in
    (c.requires.0, omega (arith, c.nearest_to.ensures, nearest_below c.args.card.now c.args.asked (λ e. c.if-least-eq-UNLISTED.false (l.ensures ∙ e))))

pub returns : goal.returns
returns c =
    let a = c.args in
    one_used a.card.now a.asked _ c.least_rank-least.ensures c.if-least-eq-UNLISTED.false _ c.nearest_to.ensures _ c.correction_at.ensures
