-- `tie_rules::keys::whole_in` meets its contract.
use Rattle.tie_rules.proofs.keys.Steps.{whole-marked}
use Rattle.tie_rules.proofs.keys.whole_in.Goals as goal

pub returns : goal.returns
returns c =
    whole-marked c.args.card.now _ _ c.columns.result.now _ _ c.columns.ensures c.stretch.ensures
    (c.mark_by.ensures _ c.whole_size.ensures.size)
