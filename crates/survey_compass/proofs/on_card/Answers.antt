-- `survey_compass::on_card` meets its contract.
use mathlib.Core.Path.{sym, ap, ◌∙◌}
use lib.IntN.{nat_abs}
use mir.Syntax.{w64}
use mir.ValLaws.{to_z-of_z}
use Rattle.survey_compass.specs.Headings.{off_circle}
use Rattle.survey_compass.proofs.Told.{off_refused, twice_refused, reading_refused, heading_told}
use Rattle.survey_compass.proofs.on_card.Goals.{then-off_circle-via-then-off_circle, then-off_circle-via-else-off_circle+then-listed_twice}
use Rattle.survey_compass.proofs.on_card.Goals as goal

pub returns-then-off_circle : goal.returns-then-off_circle
returns-then-off_circle c =
    let a = c.args in
    let off = sym (ap off_circle (to_z-of_z w64 a.direction c.ranges.direction)) ∙ sym c.off_circle.ensures in
    elim c.then-off_circle.branch [
      | then-off_circle-via-then-off_circle w ↦ off_refused a.card.now a.raw a.direction (off ∙ w.if-off_circle.true) _ c.refused.ensures
      | then-off_circle-via-else-off_circle+then-listed_twice w ↦
          twice_refused a.card.now a.raw a.direction (off ∙ w.if-off_circle.false) (sym w.listed_twice.ensures ∙ w.if-listed_twice.true) _ c.refused.ensures
    ]

pub returns-then-bad_reading : goal.returns-then-bad_reading
returns-then-bad_reading c =
    let a = c.args in
    let off = sym (ap off_circle (to_z-of_z w64 a.direction c.ranges.direction)) ∙ sym c.off_circle.ensures in
    reading_refused a.card.now a.raw a.direction (off ∙ c.if-off_circle.false) (sym c.listed_twice.ensures ∙ c.if-listed_twice.false)
    (sym c.bad_reading.ensures ∙ c.if-bad_reading.true) _ c.refused-then-bad_reading.ensures

pub returns : goal.returns
returns c =
    let a = c.args in
    let same = to_z-of_z w64 a.direction c.ranges.direction in
    heading_told a.card.now a.raw a.direction (sym (ap off_circle same) ∙ sym c.off_circle.ensures ∙ c.if-off_circle.false)
    (sym c.listed_twice.ensures ∙ c.if-listed_twice.false) (sym c.bad_reading.ensures ∙ c.if-bad_reading.false)
    _ (c.unsigned_abs-asked.ensures.value ∙ ap nat_abs same) _ c.corrected.ensures
