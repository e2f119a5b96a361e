-- `tie_rules::keys::states_own` meets its contract.
use mathlib.Core.Path.{refl}
use Rattle.tie_rules.specs.packed.Rows.{own_in}
use Rattle.tie_rules.proofs.keys.states_own.Goals as goal

pub returns : goal.returns
unfolding own_in
returns c = refl
