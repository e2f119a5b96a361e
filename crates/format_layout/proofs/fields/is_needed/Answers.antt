-- `format_layout::fields::is_needed` meets its contract: it is one part of the row.
use mathlib.Core.Path.{refl}
use Rattle.format_layout.specs.packed.Rows.{unpack}
use Rattle.format_layout.proofs.fields.is_needed.Goals as goal

pub returns : goal.returns
unfolding unpack
returns c = refl
