-- `tie_check::begins::any_left` meets its contract.
use mathlib.Core.Path.{sym, ◌∙◌}
use Rattle.tie_check.proofs.begins.Sure.{sure-none}
use Rattle.tie_check.proofs.begins.any_left.Goals as goal

pub returns-else-not-sure : goal.returns-else-not-sure
returns-else-not-sure c = rw c.if-not-sure.false (sure-none _ _ c.requires.0 (sym c.requires.1 ∙ c.if-not-sure.false))

pub some_left-requires : goal.some_left-requires
some_left-requires c = c.requires.0

pub returns-then-not-sure : goal.returns-then-not-sure
returns-then-not-sure c = c.some_left.ensures
