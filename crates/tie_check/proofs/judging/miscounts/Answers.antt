-- `tie_check::judging::miscounts` meets its contract.
use mathlib.Core.Path.{sym, ◌∙◌}
use Rattle.tie_check.proofs.judging.Stated.{of_none, of_line, of_grid}
use Rattle.tie_check.proofs.judging.miscounts.Goals as goal

pub returns-then-not-states_count : goal.returns-then-not-states_count
returns-then-not-states_count c =
    of_none c.args.card.now c.args.row c.args.totals _ c.states_count.ensures c.if-not-states_count.true

pub returns-then-column_of-eq-WAYPOINT_COUNT : goal.returns-then-column_of-eq-WAYPOINT_COUNT
returns-then-column_of-eq-WAYPOINT_COUNT c =
    of_line c.args.card.now c.args.row c.args.totals _ c.states_count.ensures c.if-not-states_count.false
    (sym c.column_of.ensures ∙ c.if-column_of-eq-WAYPOINT_COUNT.true) _ _ _ _ c.whole_in.ensures c.counted-found.ensures c.whole_in-then-column_of-eq-WAYPOINT_COUNT.ensures
    c.count_differs.ensures

pub returns : goal.returns
returns c =
    of_grid c.args.card.now c.args.row c.args.totals _ c.states_count.ensures c.if-not-states_count.false
    (λ e. c.if-column_of-eq-WAYPOINT_COUNT.false (c.column_of.ensures ∙ e)) _ _ c.whole_in-2.ensures c.count_differs-2.ensures
