-- `card_check::label_stands` meets its contract.
use Rattle.std.proofs.Common.{refl, rules, arith, tests}
use Rattle.std.proofs.lemmas.Iterator.{cases_from_all, YieldsList-from_range}
use Rattle.card_check.proofs.Ways.{Same, labelled}
use Rattle.card_check.proofs.label_stands.Goals as goal

pub returns : goal.returns
returns c =
    let p = c.requires in
    let k = c.args.layout in
    let s = c.args.card.now in
    labelled k s c.label_length.result c.label_length.ensures p.0 p.1 _
    (cases_from_all _ _ _ (Same k s) (λ i. Same k s i → ⊥) c.all.ensures.ran (YieldsList-from_range 0 c.label_length.result _ refl (omega arith)) (λ x q k. search (rules, tests)) (λ x q k. search (rules, tests)))
