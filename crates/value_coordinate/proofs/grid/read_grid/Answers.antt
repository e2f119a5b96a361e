-- `value_coordinate::grid::read_grid` meets its contract.
use mathlib.Core.Path.{sym, ◌∙◌}
use lib.Seq.{length-take-le}
use Rattle.value_coordinate.proofs.grid.Reading.{grid_absent, grid_other, grid_number}
use native.Mathlib.Omega.{arith}
use Rattle.value_coordinate.proofs.grid.read_grid.Goals as goal

pub returns-then-padding-s : goal.returns-then-padding-s
returns-then-padding-s c = grid_absent _ _ _ c.padding.ensures.found c.if-padding-s.true

pub returns-then-s-last : goal.returns-then-s-last
returns-then-s-last c =
    grid_other _ _ _ c.padding.ensures.found c.if-padding-s.false _ c.letter.ensures c.if-s-last.true

pub slice_bounds-read_number-end : goal.slice_bounds-read_number-end
slice_bounds-read_number-end c = sym (length-take-le _ _ (omega arith))

pub returns : goal.returns
returns c =
    c.present.ensures ∙ grid_number _ _ _ c.padding.ensures.found c.if-padding-s.false _ c.letter.ensures c.if-s-last.false _ c.read_number.ensures
