-- `volume_form::moving::move_up` meets its contract.
use Rattle.std.proofs.Common.{◌≡◌, refl, sym, ◌∙◌, arith}
use Rattle.volume_form.proofs.moving.Moves.{up_goes, moved_none}
use Rattle.volume_form.proofs.moving.move_up.Goals as goal

pub loop-i-init : goal.loop-i-init
loop-i-init c = refl

pub loop-i-preserved : goal.loop-i-preserved
loop-i-preserved c =
    let b = c.loop-i in b.invariant ∙ up_goes b.s _ _ b.i 0 c.loop-i-test.true (omega arith) (omega arith)

pub returns : goal.returns
returns c =
    let b = c.loop-i in let e : b.i ≡ 0 = omega arith in sym (b.invariant ∙ rw e (moved_none b.s _ _))
