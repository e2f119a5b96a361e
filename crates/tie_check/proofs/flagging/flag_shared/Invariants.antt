-- `tie_check::flagging::flag_shared` meets its contract: one entry after the other.
use mathlib.Core.Path.{◌≡◌}
use Rattle.tie_check.specs.packed.Shared.{flagged_to}
use Rattle.tie_check.proofs.flagging.flag_shared.Given as goal

abbrev pub invariant-loop-i : goal.invariant-loop-i
invariant-loop-i l = l.cards ≡ flagged_to l.initial.cards l.keys l.links l.i
