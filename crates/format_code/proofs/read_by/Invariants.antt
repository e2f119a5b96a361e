-- `format_code::read_by` meets its contract: the walk keeps: what the spec finds is what it finds from the present layout on.
use mathlib.Core.Path.{◌≡◌}
use Prim.Native.Nat.{◌+◌, ◌-◌, ◌≤◌}
use lib.ListN.{drop}
use Rattle.format_layout.specs.packed.Rows.{layout_count}
use Rattle.format_code.specs.Codes.{codes, place_in}
use Rattle.format_code.proofs.Worded.{Taken}
use Rattle.format_code.proofs.read_by.Given as goal

abbrev pub invariant-loop-head : goal.invariant-loop-head
invariant-loop-head l = (l.number ≤ layout_count) × Taken l.code l.head l.fourth l.fifth × (place_in codes l.code ≡ l.number + place_in (drop l.number codes) l.code)

abbrev pub decreases-loop-head : goal.decreases-loop-head
decreases-loop-head l = layout_count - l.number
