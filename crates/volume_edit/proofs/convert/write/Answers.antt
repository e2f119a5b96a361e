-- `volume_edit::convert::write` meets its contract.
use mathlib.Core.Path.{refl, sym}
use native.Mathlib.Omega.{arith}
use Rattle.volume_form.specs.Rows.{row_of}
use Rattle.volume_form.proofs.Cards.{good_row}
use Rattle.volume_check.proofs.Placing.{trailed, held}
use Rattle.volume_edit.proofs.Accepted.{first-least, first-within, all_held, listed, converted_left, may, trailer-fits, lay_fits}
use Rattle.volume_edit.proofs.convert.write.Goals as goal

pub overflow_mul-cards : goal.overflow_mul-cards
overflow_mul-cards c =
    omega (arith, held (row_of c.args.from) (good_row c.args.from) c.args.cards c.args.buffer.now (may c.args.from c.args.to c.args.cards c.args.buffer.now c.requires).0)

pub slice_bounds-first_of-end : goal.slice_bounds-first_of-end
slice_bounds-first_of-end c =
    omega (arith, held (row_of c.args.from) (good_row c.args.from) c.args.cards c.args.buffer.now (may c.args.from c.args.to c.args.cards c.args.buffer.now c.requires).0)

pub slice_bounds-first_of-end-2 : goal.slice_bounds-first_of-end-2
slice_bounds-first_of-end-2 c =
    sym (trailed (row_of c.args.from) (good_row c.args.from) c.args.cards c.args.buffer.now (may c.args.from c.args.to c.args.cards c.args.buffer.now c.requires).0).cards.whole

pub first_of-first-requires : goal.first_of-first-requires
first_of-first-requires c =
    (trailed (row_of c.args.from) (good_row c.args.from) c.args.cards c.args.buffer.now (may c.args.from c.args.to c.args.cards c.args.buffer.now c.requires).0).cards

pub overflow_sub-count : goal.overflow_sub-count
overflow_sub-count c =
    omega (arith, first-within (row_of c.args.from) (good_row c.args.from) c.args.cards c.args.buffer.now (may c.args.from c.args.to c.args.cards c.args.buffer.now c.requires).0 _ c.first_of-first.ensures)

pub overflow_sub-first : goal.overflow_sub-first
overflow_sub-first c =
    omega (arith, first-least (row_of c.args.from) (good_row c.args.from) c.args.cards c.args.buffer.now (may c.args.from c.args.to c.args.cards c.args.buffer.now c.requires).0 _ c.first_of-first.ensures)

pub convert_directory-requires : goal.convert_directory-requires
convert_directory-requires c =
    listed (row_of c.args.from) (good_row c.args.from) c.args.cards c.args.buffer.now (may c.args.from c.args.to c.args.cards c.args.buffer.now c.requires).0 _ c.first_of-first.ensures (row_of c.args.to) (may c.args.from c.args.to c.args.cards c.args.buffer.now c.requires).1

pub trailer_card-trailer-requires : goal.trailer_card-trailer-requires
trailer_card-trailer-requires c =
    trailer-fits (row_of c.args.from) (good_row c.args.from) c.args.cards c.args.buffer.now (may c.args.from c.args.to c.args.cards c.args.buffer.now c.requires).0 _ c.first_of-first.ensures (row_of c.args.to) (may c.args.from c.args.to c.args.cards c.args.buffer.now c.requires).1

pub overflow_sub-cards : goal.overflow_sub-cards
overflow_sub-cards c =
    omega (arith, first-least (row_of c.args.from) (good_row c.args.from) c.args.cards c.args.buffer.now (may c.args.from c.args.to c.args.cards c.args.buffer.now c.requires).0 _ c.first_of-first.ensures, first-within (row_of c.args.from) (good_row c.args.from) c.args.cards c.args.buffer.now (may c.args.from c.args.to c.args.cards c.args.buffer.now c.requires).0 _ c.first_of-first.ensures)

pub overflow_mul-cards-2 : goal.overflow_mul-cards-2
overflow_mul-cards-2 c =
    omega (arith, first-least (row_of c.args.from) (good_row c.args.from) c.args.cards c.args.buffer.now (may c.args.from c.args.to c.args.cards c.args.buffer.now c.requires).0 _ c.first_of-first.ensures, all_held (row_of c.args.from) (good_row c.args.from) c.args.cards c.args.buffer.now (may c.args.from c.args.to c.args.cards c.args.buffer.now c.requires).0 _ c.first_of-first.ensures)

pub lay-requires : goal.lay-requires
lay-requires c =
    let e = c.convert_directory.ensures in omega (arith, lay_fits (row_of c.args.from) (good_row c.args.from) c.args.cards c.args.buffer.now (may c.args.from c.args.to c.args.cards c.args.buffer.now c.requires).0 _ c.first_of-first.ensures (row_of c.args.to) (good_row c.args.to) (may c.args.from c.args.to c.args.cards c.args.buffer.now c.requires).1 _ e)

pub returns : goal.returns
returns c =
    record {
      number = refl;
      buffer = converted_left (row_of c.args.from) (good_row c.args.from) c.args.cards c.args.buffer.now (may c.args.from c.args.to c.args.cards c.args.buffer.now c.requires).0 _ c.first_of-first.ensures (row_of c.args.to) (good_row c.args.to) (may c.args.from c.args.to c.args.cards c.args.buffer.now c.requires).1 _ _ _ c.convert_directory.ensures c.trailer_card-trailer.ensures c.lay.ensures;
    }
