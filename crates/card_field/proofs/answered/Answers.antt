-- `card_field::answered` meets its contract.
use mathlib.Core.Path.{sym, ap}
use Rattle.format_layout.specs.packed.Rows.{unpack}
use Rattle.card_field.specs.Reading.{answered_of}
use Rattle.card_field.proofs.Steps.{answered_not}
use Rattle.card_field.proofs.answered.Goals as goal

pub returns-in-Ok : goal.returns-in-Ok
unfolding answered_of
returns-in-Ok c = sym (ap (answered_of (unpack c.args.row) _) c.in-Ok.is)

pub returns-in-Err : goal.returns-in-Err
returns-in-Err c = answered_not _ _ _ _ _ c.in-Err.is c.first_of-column.ensures
