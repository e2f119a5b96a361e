-- `tie_rules::keys::states_count` meets its contract.
use mathlib.Core.Path.{refl}
use Rattle.tie_rules.specs.packed.Rows.{counted_in}
use Rattle.tie_rules.proofs.keys.states_count.Goals as goal

pub returns : goal.returns
unfolding counted_in
returns c = refl
