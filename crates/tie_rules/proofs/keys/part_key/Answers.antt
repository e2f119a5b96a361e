-- `tie_rules::keys::part_key` meets its contract.
use native.Mathlib.Omega.{arith}
use Rattle.tie_rules.proofs.keys.Steps.{before-part, behind-part, in_part_lem}
use Rattle.tie_rules.proofs.keys.part_key.Goals as goal

pub returns-then-number-part : goal.returns-then-number-part
returns-then-number-part c = before-part c.args.card.now _ _ _ c.whole_in-number.ensures _ _ _ c.if-number-part.true

pub returns-then-part-number : goal.returns-then-part-number
returns-then-part-number c =
    behind-part c.args.card.now _ _ _ c.whole_in-number.ensures _ _ _ (λ e. omega (arith, c.if-number-part.false))
    c.if-part-number.true

pub returns : goal.returns
returns c =
    in_part_lem c.args.card.now _ _ _ c.whole_in-number.ensures _ _ _ _ c.if-number-part.false
    c.if-part-number.false c.packed_number.ensures
