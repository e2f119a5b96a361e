-- `format_layout::fields::field_in` meets its contract: each part of the row is one part of the field.
use Rattle.format_layout.specs.packed.Rows.{unpack}
use Rattle.format_layout.proofs.fields.field_in.Goals as goal

pub returns : goal.returns
unfolding unpack
returns c =
    rw (c.range_of.ensures, c.is_second.ensures, c.is_needed.ensures, c.last_of.ensures, c.first_of.ensures, c.kind_of.ensures)
