-- `card_check::first_filled` meets its contract.
use mathlib.Core.Path.{◌≡◌}
use Prim.Native.Nat.{◌-◌}
use Rattle.base_lists.specs.Count.{first_from}
use Rattle.card_check.specs.Judging.{filled_at}
use Rattle.card_check.proofs.first_filled.Given as goal

abbrev pub invariant-loop-column : goal.invariant-loop-column
invariant-loop-column l = first_from (filled_at l.card) (l.to - l.from) l.from ≡ first_from (filled_at l.card) (l.to - l.column) l.column
