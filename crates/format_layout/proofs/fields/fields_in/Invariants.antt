-- `format_layout::fields::fields_in` meets its contract: the rows of a layout stand one behind the other, and behind them none.
use Prim.Native.Nat.{◌≤◌, ◌-◌}
use lib.ListN.{length}
use Rattle.format_layout.specs.Layouts.{fields_of}
use Rattle.format_layout.proofs.fields.fields_in.Given as goal

abbrev pub invariant-loop-count : goal.invariant-loop-count
invariant-loop-count l = l.count ≤ length (fields_of l.layout)

abbrev pub decreases-loop-count : goal.decreases-loop-count
decreases-loop-count l = length (fields_of l.layout) - l.count
