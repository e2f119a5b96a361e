-- `volume_edit::convert::is_held` meets its contract.
use mathlib.Core.Path.{sym}
use native.Mathlib.Omega.{arith}
use Rattle.volume_form.specs.Rows.{row_of}
use Rattle.volume_form.proofs.Cards.{good_row}
use Rattle.volume_check.proofs.Placing.{trailed, held}
use Rattle.volume_edit.proofs.Accepted.{holds-told, held-not}
use Rattle.volume_edit.proofs.convert.is_held.Goals as goal

pub overflow_mul-front : goal.overflow_mul-front
overflow_mul-front c =
    omega (arith, held (row_of c.args.from) (good_row c.args.from) c.args.cards c.args.volume.now c.requires)

pub slice_bounds-front-end : goal.slice_bounds-front-end
slice_bounds-front-end c =
    sym (trailed (row_of c.args.from) (good_row c.args.from) c.args.cards c.args.volume.now c.requires).cards.whole

pub directory_of-requires : goal.directory_of-requires
directory_of-requires c =
    trailed (row_of c.args.from) (good_row c.args.from) c.args.cards c.args.volume.now c.requires

pub returns-then-cards-most : goal.returns-then-cards-most
returns-then-cards-most c =
    holds-told (row_of c.args.from) (good_row c.args.from) c.args.cards c.args.volume.now c.requires _ _ _ _ _ c.largest_of-largest.ensures c.most_of-most.ensures.most c.directory_of.ensures c.are_few.ensures c.if-cards-most.true

pub returns-else-cards-most : goal.returns-else-cards-most
returns-else-cards-most c = held-not (row_of c.args.to) _ _ _ c.most_of-most.ensures.most c.if-cards-most.false
