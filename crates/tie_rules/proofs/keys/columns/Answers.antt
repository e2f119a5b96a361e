-- `tie_rules::keys::columns` meets its contract.
use Rattle.tie_rules.proofs.keys.Steps.{past_card, no_width, to_end, of_width}
use Rattle.tie_rules.proofs.keys.columns.Goals as goal

pub returns-then-card-from : goal.returns-then-card-from
returns-then-card-from c =
    past_card c.args.card.now _ _ _ c.saturating_sub-from.ensures
    c.if-card-from.true

pub returns-then-last-from : goal.returns-then-last-from
returns-then-last-from c =
    no_width c.args.card.now _ _ _ c.saturating_sub-from.ensures
    c.if-last-from.true

pub returns-then-card-last : goal.returns-then-card-last
returns-then-card-last c =
    to_end c.args.card.now _ _ _
    c.saturating_sub-from.ensures c.if-card-last.true

pub returns : goal.returns
returns c =
    of_width c.args.card.now _ _ _
    c.saturating_sub-from.ensures
