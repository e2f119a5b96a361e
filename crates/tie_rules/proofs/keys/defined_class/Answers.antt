-- `tie_rules::keys::defined_class` meets its contract.
use mathlib.Core.Path.{refl}
use Rattle.tie_rules.specs.packed.Rows.{class_in, definition_in}
use Rattle.tie_rules.proofs.keys.defined_class.Goals as goal

pub returns : goal.returns
unfolding class_in definition_in
returns c = refl
