-- `survey_compass::serials::is_for` meets its contract.
use mathlib.Core.Path.{◌∙◌, ap}
use Rattle.value_text.specs.text.Texts.{text_of}
use Rattle.tie_rules.specs.Keys.{between}
use Rattle.base_lists.proofs.Comparing.{alike_is}
use Rattle.survey_compass.proofs.Listed.{for_none, for_some}
use Rattle.survey_compass.proofs.serials.is_for.Goals as goal

pub returns-then-layout_of-eq-CORRECTIONS : goal.returns-then-layout_of-eq-CORRECTIONS
unfolding between
returns-then-layout_of-eq-CORRECTIONS c =
    let a = c.args in
    for_some a.serial.now a.card.now _ c.layout_of.ensures c.if-layout_of-eq-CORRECTIONS.true _
    (c.stretch.ensures ∙ ap text_of c.columns.ensures) _ (c.eq.ensures ∙ alike_is c.stretch.result.now a.serial.now)

pub returns-else-layout_of-eq-CORRECTIONS : goal.returns-else-layout_of-eq-CORRECTIONS
returns-else-layout_of-eq-CORRECTIONS c =
    let a = c.args in
    for_none a.serial.now a.card.now _ c.layout_of.ensures c.if-layout_of-eq-CORRECTIONS.false
