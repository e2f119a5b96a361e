-- `card_field::judging::is_misplaced` meets its contract.
use Rattle.format_layout.specs.packed.Rows.{unpack}
use Rattle.card_field.proofs.judging.Steps.{misplaced-is}
use Rattle.card_field.proofs.judging.is_misplaced.Goals as goal

pub returns : goal.returns
returns c =
    misplaced-is c.args.card.now (unpack c.args.row) _ _ _ c.first_of.ensures c.last_of.ensures
    c.columns-columns.result.now c.columns-columns.ensures _ c.kind_of.ensures _ c.spelling_of.ensures _ c.is_misplaced.ensures
