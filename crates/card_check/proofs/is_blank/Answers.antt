-- `card_check::is_blank` meets its contract.
use native.Mathlib.Nat.{add-zero}
use native.Mathlib.Omega.{arith}
use Rattle.card_check.proofs.Ways.{blank_first, blank_all, rest_len, blank_next}
use Rattle.card_check.proofs.is_blank.Goals as goal

pub loop-b-init : goal.loop-b-init
loop-b-init c = rw (add-zero c.args.from) (blank_first c.args.card.now c.args.from c.requires.2)

pub loop-b-preserved : goal.loop-b-preserved
loop-b-preserved c =
    let p = c.requires in blank_next c.args.card.now c.args.from p.0 p.1 p.2 c.loop-b.blank c.loop-b.b-index c.loop-b-test.true c.loop-b.invariant

pub returns : goal.returns
returns c =
    let p = c.requires in
    let b = c.loop-b in
    let n = rest_len c.args.card.now c.args.from p.0 p.1 p.2 in
    blank_all c.args.card.now c.args.from b.blank _ (omega (arith, n, c.loop-b-test.false)) b.invariant
