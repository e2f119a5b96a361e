-- `tie_check::begins::some_left` meets its contract.
use Prim.Native.Nat.{◌≤◌}
use mathlib.Core.Path.{◌≡◌}
use lib.ListN.{length, drop}
use Rattle.format_layout.specs.Layouts.{fields_of}
use Rattle.tie_check.specs.packed.Begins.{any_left}
use Rattle.tie_check.proofs.begins.some_left.Given as goal

abbrev pub invariant-loop-number : goal.invariant-loop-number
invariant-loop-number l = (l.number ≤ length (fields_of l.layout)) × (any_left l.card (fields_of l.layout) ≡ any_left l.card (drop l.number (fields_of l.layout)))
