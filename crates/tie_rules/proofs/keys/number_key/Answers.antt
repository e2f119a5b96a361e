-- `tie_rules::keys::number_key` meets its contract.
use Rattle.tie_rules.proofs.keys.Steps.{no_number, a_number}
use Rattle.tie_rules.proofs.keys.number_key.Goals as goal

pub returns-then-number-eq0 : goal.returns-then-number-eq0
returns-then-number-eq0 c = no_number c.args.card.now _ _ _ c.whole_in-number.ensures _ c.if-number-eq0.true

pub returns : goal.returns
returns c =
    a_number c.args.card.now _ _ _ c.whole_in-number.ensures _ _
    c.if-number-eq0.false c.packed_number.ensures
