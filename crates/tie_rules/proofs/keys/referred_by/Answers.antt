-- `tie_rules::keys::referred_by` meets its contract.
use Rattle.tie_rules.specs.packed.Rows.{reference_in}
use Rattle.tie_rules.proofs.keys.referred_by.Goals as goal

pub returns : goal.returns
unfolding reference_in
returns c = c.key_by.ensures
