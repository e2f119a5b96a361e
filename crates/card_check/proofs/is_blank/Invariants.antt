-- `card_check::is_blank` meets its contract.
use Prim.Native.Nat.{◌+◌}
use Rattle.card_check.proofs.Ways.{Blank}
use Rattle.card_check.proofs.is_blank.Given as goal

abbrev pub invariant-loop-b : goal.invariant-loop-b
invariant-loop-b l = Blank l.card l.from l.blank (l.from + l.b-index)
