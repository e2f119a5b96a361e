-- `tie_check::judging::contradicts` meets its contract.
use mathlib.Core.Path.{ap, ◌∙◌}
use Rattle.tie_rules.specs.Keys.{contradict}
use Rattle.tie_check.proofs.judging.Rows.{against_own, against_other}
use Rattle.tie_check.proofs.judging.contradicts.Goals as goal

pub returns-then-states_own : goal.returns-then-states_own
returns-then-states_own c =
    rw c.from.ensures (against_own c.args.card.now c.args.row c.args.vessel c.args.tag _ _ _ c.states_own.ensures
    c.if-states_own.true c.column_of-column.ensures c.whole_in.ensures)

pub returns : goal.returns
returns c =
    against_other c.args.card.now c.args.row c.args.vessel c.args.tag _ _ c.states_own.ensures
    c.if-states_own.false (c.digits_differ.ensures ∙ ap (contradict c.args.vessel) c.vessel_in.ensures)
