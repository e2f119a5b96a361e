-- `tie_rules::keys::vessel_of` meets its contract.
use Rattle.tie_rules.proofs.keys.Steps.{vessel_digit, vessel_none}
use Rattle.tie_rules.proofs.keys.vessel_of.Goals as goal

pub returns-then-has_vessel : goal.returns-then-has_vessel
returns-then-has_vessel c =
    vessel_digit _ c.args.card.now _ _ c.has_vessel.ensures
    c.if-has_vessel.true c.digit_in.ensures

pub returns : goal.returns
returns c = vessel_none _ c.args.card.now _ c.has_vessel.ensures c.if-has_vessel.false
