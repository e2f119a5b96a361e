-- `survey_datums::joining::note` meets its contract.
use native.Mathlib.Omega.{arith}
use Rattle.survey_datums.proofs.Noting.{to_itself, not_defined_lem, lower_stays, now_noted}
use Rattle.survey_datums.proofs.joining.note.Goals as goal

pub returns-then-row-end-eq0 : goal.returns-then-row-end-eq0
returns-then-row-end-eq0 c =
    let a = c.args in
    now_noted a.row.now a.times a.datum a.end a.card c.if-end-datum.true c.if-times-end-ne0.true c.if-row-end-eq0.true
    (omega (arith, c.requires, c.told-row))

pub returns-else-end-datum : goal.returns-else-end-datum
returns-else-end-datum c =
    let a = c.args in
    elim c.else-end-datum.branch [
      | goal.else-end-datum-via-then-end-datum+then-times-end-ne0+else-row-end-eq0 w ↦
          lower_stays a.row.now a.times a.datum a.end a.card w.if-row-end-eq0.false
      | goal.else-end-datum-via-then-end-datum+else-times-end-ne0 w ↦
          not_defined_lem a.row.now a.times a.datum a.end a.card w.if-times-end-ne0.false
      | goal.else-end-datum-via-else-end-datum w ↦ to_itself a.row.now a.times a.datum a.end a.card w.if-end-datum.false
    ]
