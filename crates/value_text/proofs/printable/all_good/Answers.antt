-- `value_text::printable::all_good` meets its contract.
use Rattle.std.proofs.Common.{◌≡◌, refl, ap, ◌∙◌, arith}
use Rattle.value_text.specs.packed.Rows.{good_to}
use Rattle.value_text.proofs.printable.Rows.{good_more, not-whole, whole_good}
use Rattle.value_text.proofs.printable.all_good.Goals as goal

pub returns-then-s-ne-CARD : goal.returns-then-s-ne-CARD
returns-then-s-ne-CARD c = not-whole _ c.if-s-ne-CARD.true

pub loop-i-init : goal.loop-i-init
unfolding good_to
loop-i-init c = refl

pub loop-i-preserved : goal.loop-i-preserved
loop-i-preserved c =
    good_more _ c.loop-i.i _ _ _ _ _ _ c.loop-i.invariant c.is_printable.ensures c.is_printable-in-loop-i.ensures
    c.is_printable-in-loop-i-2.ensures c.is_printable-in-loop-i-3.ensures c.is_printable-in-loop-i-4.ensures

pub returns : goal.returns
returns c =
    let e : c.loop-i.i ≡ 16 = omega arith in
    whole_good _ _ c.if-s-ne-CARD.false (c.loop-i.invariant ∙ ap (good_to c.args.s.now) e)
