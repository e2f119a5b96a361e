-- `volume_edit::compact::write` meets its contract.
use mathlib.Core.Path.{sym}
use native.Mathlib.Omega.{arith}
use Rattle.volume_form.specs.Rows.{row_of}
use Rattle.volume_form.proofs.Cards.{good_row}
use Rattle.volume_check.proofs.Placing.{trailed, held}
use Rattle.volume_edit.proofs.Accepted.{first-least, first-within, few_enough, listed, closes, kept-number, compacted_left}
use Rattle.volume_edit.proofs.compact.write.Goals as goal

pub overflow_mul-cards : goal.overflow_mul-cards
overflow_mul-cards c =
    omega (arith, held (row_of c.args.form) (good_row c.args.form) c.args.cards c.args.buffer.now c.requires)

pub slice_bounds-first_of-end : goal.slice_bounds-first_of-end
slice_bounds-first_of-end c =
    omega (arith, held (row_of c.args.form) (good_row c.args.form) c.args.cards c.args.buffer.now c.requires)

pub slice_bounds-first_of-end-2 : goal.slice_bounds-first_of-end-2
slice_bounds-first_of-end-2 c =
    sym (trailed (row_of c.args.form) (good_row c.args.form) c.args.cards c.args.buffer.now c.requires).cards.whole

pub first_of-first-requires : goal.first_of-first-requires
first_of-first-requires c =
    (trailed (row_of c.args.form) (good_row c.args.form) c.args.cards c.args.buffer.now c.requires).cards

pub overflow_sub-first : goal.overflow_sub-first
overflow_sub-first c =
    omega (arith, first-least (row_of c.args.form) (good_row c.args.form) c.args.cards c.args.buffer.now c.requires _ c.first_of-first.ensures)

pub overflow_sub-cards : goal.overflow_sub-cards
overflow_sub-cards c =
    omega (arith, first-within (row_of c.args.form) (good_row c.args.form) c.args.cards c.args.buffer.now c.requires _ c.first_of-first.ensures)

pub pack-kept-requires : goal.pack-kept-requires
pack-kept-requires c =
    listed (row_of c.args.form) (good_row c.args.form) c.args.cards c.args.buffer.now c.requires _ c.first_of-first.ensures (row_of c.args.form) (few_enough (row_of c.args.form) (good_row c.args.form) c.args.cards c.args.buffer.now c.requires _ c.first_of-first.ensures)

pub overflow_sub-first-2 : goal.overflow_sub-first-2
overflow_sub-first-2 c =
    omega (arith, first-least (row_of c.args.form) (good_row c.args.form) c.args.cards c.args.buffer.now c.requires _ c.first_of-first.ensures)

pub close-requires : goal.close-requires
close-requires c =
    closes (row_of c.args.form) (good_row c.args.form) c.args.cards c.args.buffer.now c.requires _ c.first_of-first.ensures _ _ _ c.pack-kept.ensures

pub overflow_add-result-2 : goal.overflow_add-result-2
overflow_add-result-2 c =
    let k = closes (row_of c.args.form) (good_row c.args.form) c.args.cards c.args.buffer.now c.requires _ c.first_of-first.ensures _ _ _ c.pack-kept.ensures in omega (arith, k.held, k.down, k.lines)

pub returns : goal.returns
returns c =
    record {
      number = kept-number (row_of c.args.form) (good_row c.args.form) c.args.cards c.args.buffer.now c.requires _ c.first_of-first.ensures _ _ _ c.pack-kept.ensures;
      buffer = compacted_left (row_of c.args.form) (good_row c.args.form) c.args.cards c.args.buffer.now c.requires _ c.first_of-first.ensures _ _ _ c.pack-kept.ensures _ c.close.ensures;
    }
