-- `tie_rules::packing::is_whole` meets its contract.
use mathlib.Core.Path.{refl}
use Rattle.tie_rules.specs.Offered.{is_whole}
use Rattle.tie_rules.proofs.packing.is_whole.Goals as goal

pub returns : goal.returns
unfolding is_whole
returns c = refl
