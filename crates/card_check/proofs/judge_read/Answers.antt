-- `card_check::judge_read` meets its contract.
use Prim.Native.Nat.{◌+◌}
use mathlib.Core.Path.{sym, ◌∙◌, ap}
use Rattle.format_layout.proofs.Labels.{label-fits}
use Rattle.card_check.proofs.Ways.{label_wrong, label_right}
use native.Mathlib.Omega.{arith}
use Rattle.card_check.proofs.judge_read.Goals as goal

pub label_stands-requires : goal.label_stands-requires
label_stands-requires c = (c.requires, label-fits _)

pub returns-then-not-label_stands : goal.returns-then-not-label_stands
returns-then-not-label_stands c =
    let wrong = sym c.label_stands.ensures ∙ c.if-not-label_stands.true in
    sym (label_wrong c.args.layout c.args.form c.args.card.now wrong)

pub overflow_add-from : goal.overflow_add-from
overflow_add-from c = omega (arith, label-fits c.args.layout, c.label_length-from.ensures)

pub judge_columns-requires : goal.judge_columns-requires
judge_columns-requires c = (c.requires, ap (λ n. 6 + n) c.label_length-from.ensures)

pub returns : goal.returns
returns c =
    let w = c.label_stands in
    let right = sym w.ensures ∙ c.if-not-label_stands.false in
    c.judge_columns.ensures
    ∙ sym (label_right c.args.layout c.args.form c.args.card.now right (label-fits c.args.layout) _
    (ap (λ n. 6 + n) c.label_length-from.ensures))
