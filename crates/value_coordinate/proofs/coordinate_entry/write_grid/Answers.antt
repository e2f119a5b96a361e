-- `value_coordinate::coordinate_entry::write_grid` meets its contract.
use mathlib.Core.Path.{refl, sym, ◌∙◌}
use lib.Seq.{length-take-le}
use Rattle.base_digits.proofs.digits.Answers.{made, turned_away}
use Rattle.value_coordinate.proofs.coordinate_entry.GridWriting.{grid_empty, grid_no_room, grid_written}
use native.Mathlib.Omega.{arith}
use Rattle.value_coordinate.proofs.coordinate_entry.write_grid.Goals as goal

pub returns-then-columns-eq0 : goal.returns-then-columns-eq0
returns-then-columns-eq0 c =
    record { answer = (turned_away c.args.columns.now (grid_empty _ c.args.columns.now c.args.d c.if-columns-eq0.true)).0; columns = (turned_away c.args.columns.now (grid_empty _ c.args.columns.now c.args.d c.if-columns-eq0.true)).1 }

pub slice_bounds-write_decimal-end-2 : goal.slice_bounds-write_decimal-end-2
slice_bounds-write_decimal-end-2 c = sym (length-take-le _ _ (omega arith))

pub returns-then-not-write_decimal : goal.returns-then-not-write_decimal
returns-then-not-write_decimal c =
    let g = grid_no_room c.args.axis c.args.columns.now c.args.d c.if-columns-eq0.false c.write_decimal.new.columns (sym c.write_decimal.ensures.answer ∙ c.if-not-write_decimal.true) c.write_decimal.ensures.columns in
    record {
      answer = (turned_away c.args.columns.now g.0).0;
      columns = g.1 ∙ (turned_away c.args.columns.now g.0).1;
    }

pub returns : goal.returns
returns c =
    record { answer = (made c.args.columns.now _ (grid_written c.args.axis c.args.columns.now c.args.d c.if-columns-eq0.false c.write_decimal.new.columns _ c.letter.ensures c.write_decimal.auto.columns (sym c.write_decimal.ensures.answer ∙ c.if-not-write_decimal.false) c.write_decimal.ensures.columns) refl).0; columns = (made c.args.columns.now _ (grid_written c.args.axis c.args.columns.now c.args.d c.if-columns-eq0.false c.write_decimal.new.columns _ c.letter.ensures c.write_decimal.auto.columns (sym c.write_decimal.ensures.answer ∙ c.if-not-write_decimal.false) c.write_decimal.ensures.columns) refl).1 }
