-- `format_layout::fields::range_of` meets its contract: it is one part of the row.
use Rattle.format_layout.specs.packed.Rows.{unpack}
use Rattle.format_layout.proofs.fields.range_of.Goals as goal

pub returns : goal.returns
unfolding unpack
returns c = c.range_by.ensures
