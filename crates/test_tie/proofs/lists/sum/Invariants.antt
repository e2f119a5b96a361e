-- `sum` stays small enough for one more number.
use Prim.Native.Nat.{◌<◌}
use Rattle.test_tie.proofs.lists.sum.Given as goal

abbrev pub invariant-loop-x : goal.invariant-loop-x
invariant-loop-x l = l.sum < 1000000007
