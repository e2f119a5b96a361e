-- `tie_rules::keys::has_vessel` meets its contract: row 0 tells.
use Rattle.tie_rules.proofs.keys.Table.{vessel_told_lem}
use Rattle.tie_rules.proofs.keys.has_vessel.Goals as goal

pub returns : goal.returns
returns c = vessel_told_lem _ _ c.tie_of.ensures
