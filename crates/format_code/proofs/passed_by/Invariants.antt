-- `format_code::passed_by` meets its contract: the walk keeps: what the spec finds is what it finds from the present passed code on.
use mathlib.Core.Path.{◌≡◌}
use Prim.Native.Nat.{◌+◌, ◌-◌, ◌≤◌}
use lib.ListN.{drop}
use Rattle.format_layout.specs.Table.{passed_codes}
use Rattle.format_code.specs.Codes.{place_in, passed_count}
use Rattle.format_code.proofs.Worded.{Taken}
use Rattle.format_code.proofs.passed_by.Given as goal

abbrev pub invariant-loop-head : goal.invariant-loop-head
invariant-loop-head l = (l.number ≤ passed_count) × Taken l.code l.head l.fourth l.fifth × (place_in passed_codes l.code ≡ l.number + place_in (drop l.number passed_codes) l.code)

abbrev pub decreases-loop-head : goal.decreases-loop-head
decreases-loop-head l = passed_count - l.number
