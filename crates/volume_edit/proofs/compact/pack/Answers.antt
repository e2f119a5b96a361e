-- `volume_edit::compact::pack` meets its contract.
use mathlib.Core.Path.{◌∙◌}
use native.Mathlib.Omega.{arith}
use Rattle.volume_form.proofs.Cards.{good_row}
use Rattle.volume_edit.proofs.compact.Walk.{pack_starts, pack-room, pack-fits, pack_passes, pack_keeps, pack-ends}
use Rattle.volume_edit.proofs.compact.pack.Goals as goal
use Rattle.volume_edit.proofs.compact.pack.Goals.{then-not-gone, else-not-gone}

pub loop-i-init : goal.loop-i-init
loop-i-init c = pack_starts _ (good_row c.args.form) c.args.buffer.now c.args.body c.args.count c.requires

pub keep_line-requires : goal.keep_line-requires
keep_line-requires c =
    let v = c.loop-i in pack-fits _ (good_row c.args.form) c.args.buffer.now c.args.body c.args.count c.requires v.buffer v.at v.i v.cards v.lines v.invariant c.loop-i-test.true _ c.count_on-n.ensures

pub overflow_add-cards : goal.overflow_add-cards
overflow_add-cards c =
    let v = c.loop-i in
    let r = pack-room _ (good_row c.args.form) c.args.buffer.now c.args.body c.args.count c.requires v.buffer v.at v.i v.cards v.lines v.invariant c.loop-i-test.true _ c.count_on-n.ensures in
    omega (arith, c.requires.room, r.0, r.2)

pub overflow_add-at : goal.overflow_add-at
overflow_add-at c =
    let v = c.loop-i in
    let r = pack-room _ (good_row c.args.form) c.args.buffer.now c.args.body c.args.count c.requires v.buffer v.at v.i v.cards v.lines v.invariant c.loop-i-test.true _ c.count_on-n.ensures in
    omega (arith, c.requires.room, r.0)

pub loop-i-preserved : goal.loop-i-preserved
loop-i-preserved c =
    let v = c.loop-i in
    let more = c.loop-i-test.true in
    let n_is = c.count_on-n.ensures in
    let gone = c.is_superseded-gone in
    elim c.if-not-gone.branch [
      | then-not-gone w ↦
          rw (w.buffer-is ∙ w.keep_line.ensures, w.cards-is, w.lines-is)
          (pack_keeps _ (good_row c.args.form) c.args.buffer.now c.args.body c.args.count c.requires v.buffer v.at v.i v.cards v.lines v.invariant more _ n_is gone.result gone.ensures w.if-not-gone.true)
      | else-not-gone w ↦
          rw (w.buffer-is, w.cards-is, w.lines-is)
          (pack_passes _ (good_row c.args.form) c.args.buffer.now c.args.body c.args.count c.requires v.buffer v.at v.i v.cards v.lines v.invariant more _ n_is gone.result gone.ensures w.if-not-gone.false)
    ]

pub returns : goal.returns
returns c =
    let v = c.loop-i in pack-ends _ (good_row c.args.form) c.args.buffer.now c.args.body c.args.count c.requires v.buffer v.at v.i v.cards v.lines v.invariant (omega arith) (omega arith)
