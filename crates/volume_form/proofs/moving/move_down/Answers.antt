-- `volume_form::moving::move_down` meets its contract.
use Rattle.std.proofs.Common.{◌≡◌, ◌-◌, sym, ◌∙◌, arith}
use native.Mathlib.Nat.{add-zero, sub-zero}
use Rattle.volume_form.proofs.moving.Moves.{down_goes, moved_none}
use Rattle.volume_form.proofs.moving.move_down.Goals as goal

pub loop-i-init : goal.loop-i-init
loop-i-init c = rw (add-zero, add-zero, sub-zero)

pub loop-i-preserved : goal.loop-i-preserved
loop-i-preserved c =
    let b = c.loop-i in b.invariant ∙ down_goes b.s _ _ _ b.i 0 c.loop-i-test.true (omega arith) (omega arith)

pub returns : goal.returns
returns c =
    let b = c.loop-i in let e : c.args.k - b.i ≡ 0 = omega arith in sym (b.invariant ∙ rw e (moved_none b.s _ _))
