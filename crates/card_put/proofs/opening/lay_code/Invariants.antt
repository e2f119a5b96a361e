-- `card_put::opening::lay_code` meets its contract.
use Rattle.std.proofs.Common.{◌≡◌, ◌++◌, take, drop}
use Rattle.card_put.proofs.opening.lay_code.Given as goal

abbrev pub invariant-loop-i : goal.invariant-loop-i
invariant-loop-i l = l.card ≡ take l.i l.code ++ drop l.i l.initial.card
