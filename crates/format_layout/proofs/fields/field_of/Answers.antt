-- `format_layout::fields::field_of` meets its contract: a line holds the field, or there is none.
use Rattle.format_layout.proofs.Lines.{no_zeroth, is_none, is_found}
use Rattle.format_layout.proofs.fields.field_of.Goals as goal

pub returns-then-number-eq0 : goal.returns-then-number-eq0
returns-then-number-eq0 c = no_zeroth _ _ c.if-number-eq0.true

pub returns-then-row-eq0 : goal.returns-then-row-eq0
returns-then-row-eq0 c = is_none _ _ _ c.if-number-eq0.false c.row_of-row.ensures c.if-row-eq0.true

pub returns : goal.returns
returns c =
    is_found _ _ _ _ c.if-number-eq0.false c.row_of-row.ensures c.if-row-eq0.false c.field_in.ensures
