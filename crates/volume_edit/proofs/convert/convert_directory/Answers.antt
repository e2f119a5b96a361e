-- `volume_edit::convert::convert_directory` meets its contract.
use native.Mathlib.Omega.{arith}
use Rattle.volume_form.proofs.Cards.{good_row}
use Rattle.volume_edit.proofs.convert.Steps.{walk_room, walk_fits, walk_goes, walk_ends}
use Rattle.volume_edit.proofs.convert.convert_directory.Goals as goal

pub convert_card-at-requires : goal.convert_card-at-requires
convert_card-at-requires c =
    let v = c.loop-i in
    walk_fits _ _ (good_row c.args.to) c.args.buffer.now c.args.body c.args.count c.requires v.buffer v.at v.i v.invariant c.loop-i-test.true

pub overflow_add-at : goal.overflow_add-at
overflow_add-at c =
    let v = c.loop-i in
    let r = walk_room _ _ (good_row c.args.to) c.args.buffer.now c.args.body c.args.count c.requires v.buffer v.at v.i v.invariant c.loop-i-test.true in
    omega (arith, r.0, c.requires.room, c.convert_card-at.ensures.number)

pub loop-i-preserved : goal.loop-i-preserved
loop-i-preserved c =
    let v = c.loop-i in
    let x = c.convert_card-at in
    walk_goes _ _ (good_row c.args.to) c.args.buffer.now c.args.body c.args.count c.requires v.buffer v.at v.i v.invariant _ _ c.loop-i-test.true x.ensures.number x.ensures.buffer

pub returns : goal.returns
returns c =
    let v = c.loop-i in
    walk_ends _ _ (good_row c.args.to) c.args.buffer.now c.args.body c.args.count c.requires v.buffer v.at v.i v.invariant (omega arith) (omega arith)
