-- `tie_rules::keys::defined_by` meets its contract.
use Rattle.tie_rules.specs.packed.Rows.{definition_in}
use Rattle.tie_rules.proofs.keys.defined_by.Goals as goal

pub returns : goal.returns
unfolding definition_in
returns c = c.key_by.ensures
