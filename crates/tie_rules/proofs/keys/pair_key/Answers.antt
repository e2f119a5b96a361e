-- `tie_rules::keys::pair_key` meets its contract.
use Rattle.tie_rules.proofs.keys.Steps.{no_first, no_second, both_there, none-there, one_there}
use Rattle.tie_rules.proofs.keys.pair_key.Goals as goal

pub returns-then-vessel-eq0 : goal.returns-then-vessel-eq0
returns-then-vessel-eq0 c =
    no_first _ _ (none-there c.args.card.now 7 7 _ c.whole_in-vessel.ensures
    c.if-vessel-eq0.true)

pub returns-then-number-eq0 : goal.returns-then-number-eq0
returns-then-number-eq0 c =
    no_second _ _ (none-there c.args.card.now _ _ _
    c.whole_in-number.ensures c.if-number-eq0.true)

pub returns : goal.returns
returns c =
    both_there _ _ _ _ _ (one_there c.args.card.now 7 7 _
    c.whole_in-vessel.ensures c.if-vessel-eq0.false)
    (one_there c.args.card.now _ _ _
    c.whole_in-number.ensures c.if-number-eq0.false) c.packed_both.ensures
