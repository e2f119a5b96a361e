-- `format_layout::fields::fields_in` meets its contract: the rows of a layout stand one behind the other, and behind them none.
use native.Mathlib.Omega.{arith}
use Rattle.format_layout.proofs.Numbering.{row_inside, row_past, fields-few}
use Rattle.format_layout.proofs.fields.fields_in.Goals as goal

pub overflow_add-count : goal.overflow_add-count
overflow_add-count c = omega (arith, c.loop-count.invariant, fields-few c.args.layout)

pub overflow_add-count-in-loop-count : goal.overflow_add-count-in-loop-count
overflow_add-count-in-loop-count c = omega (arith, c.loop-count.invariant, fields-few c.args.layout)

pub loop-count-smaller : goal.loop-count-smaller
loop-count-smaller c = omega (arith, row_inside _ c.loop-count.count _ c.row_of.ensures c.loop-count-test.true)

pub loop-count-preserved : goal.loop-count-preserved
loop-count-preserved c = omega (arith, row_inside _ c.loop-count.count _ c.row_of.ensures c.loop-count-test.true)

pub returns : goal.returns
returns c =
    omega (arith, c.loop-count.invariant, row_past _ c.loop-count.count _ c.row_of.ensures c.loop-count-test.false)
