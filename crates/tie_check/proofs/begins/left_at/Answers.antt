-- `tie_check::begins::left_at` meets its contract.
use mathlib.Core.Path.{sym, ap, ◌∙◌}
use lib.ListN.{get_or}
use Rattle.format_layout.specs.Layouts.{fields_of}
use Rattle.tie_rules.specs.Faults.{misplaced_among}
use Rattle.tie_check.specs.packed.Begins.{begins}
use Rattle.tie_check.proofs.begins.Columns.{left_code, none-begins, left_begins, row_lies}
use Rattle.tie_check.proofs.begins.left_at.Goals as goal

pub returns-then-i-eq0 : goal.returns-then-i-eq0
returns-then-i-eq0 c =
    let k = c.args.layout in
    let t = c.args.card.now in
    sym (ap (λ i. misplaced_among (fields_of k) t (get_or (begins k) i 0)) c.if-i-eq0.true ∙ left_code k t)

pub returns-else-row-ne0 : goal.returns-else-row-ne0
returns-else-row-ne0 c =
    rw c.if-row-ne0.false (sym (none-begins c.args.layout _ _ c.if-i-eq0.false c.row_of-row.ensures c.args.card.now c.if-row-ne0.false))

pub is_misplaced-requires : goal.is_misplaced-requires
is_misplaced-requires c =
    let l = row_lies c.args.layout _ _ c.if-i-eq0.false c.row_of-row.ensures c.if-row-ne0.true in
    (c.requires, l.0, l.1, l.2)

pub returns-then-row-ne0 : goal.returns-then-row-ne0
returns-then-row-ne0 c =
    c.is_misplaced.ensures
    ∙ sym (left_begins c.args.layout _ _ c.if-i-eq0.false c.row_of-row.ensures c.if-row-ne0.true c.args.card.now)
