-- `format_layout::label::label_byte` meets its contract: past the longest label stands a blank.
use Rattle.format_layout.proofs.label.Lines.{label-byte-is, label_past}
use borrow.Author.Rules.{rules}
use Rattle.format_layout.proofs.label.label_byte.Goals as goal

pub returns-then-place-ge-LABEL : goal.returns-then-place-ge-LABEL
returns-then-place-ge-LABEL c = label_past _ _ c.if-place-ge-LABEL.true

pub returns : goal.returns
returns c = label-byte-is _ _ (search rules) _ c.label_row.ensures.0
