-- `tie_check::begins::step_of` meets its contract.
use mathlib.Core.Path.{sym, ap, ◌∙◌}
use lib.ListN.{get_or}
use native.Mathlib.Omega.{arith}
use Rattle.tie_rules.specs.packed.Rows.{row_at}
use Rattle.tie_rules.proofs.keys.Table.{row_is}
use Rattle.tie_check.specs.packed.Begins.{walked}
use Rattle.tie_check.proofs.begins.Columns.{begins_below}
use Rattle.tie_check.proofs.begins.step_of.Goals as goal

pub row_for-requires : goal.row_for-requires
row_for-requires c = omega (arith, c.column_at.ensures, begins_below c.args.layout c.args.i)

pub returns-then-left : goal.returns-then-left
unfolding walked
returns-then-left c =
    let k = c.args.layout in
    c.row_for.ensures ∙ ap (row_at k) c.column_at.ensures
    ∙ sym (ap (λ b. row_at k (get_or (walked b k) c.args.i 0)) c.if-left.true)

pub returns : goal.returns
unfolding walked
returns c =
    let k = c.args.layout in
    row_is k c.args.i _ c.tie_of.ensures
    ∙ sym (ap (λ b. row_at k (get_or (walked b k) c.args.i 0)) c.if-left.false)
