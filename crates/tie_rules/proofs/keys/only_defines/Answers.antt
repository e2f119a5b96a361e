-- `tie_rules::keys::only_defines` meets its contract.
use mathlib.Core.Path.{refl}
use Rattle.tie_rules.specs.packed.Rows.{only_defines}
use Rattle.tie_rules.proofs.keys.only_defines.Goals as goal

pub returns : goal.returns
unfolding only_defines
returns c = refl
