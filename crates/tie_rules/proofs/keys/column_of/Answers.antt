-- `tie_rules::keys::column_of` meets its contract.
use mathlib.Core.Path.{refl}
use Rattle.tie_rules.specs.packed.Rows.{column_in}
use Rattle.tie_rules.proofs.keys.column_of.Goals as goal

pub returns : goal.returns
unfolding column_in
returns c = refl
