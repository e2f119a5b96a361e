-- `tie_check::judging::count_differs` meets its contract.
use mathlib.Core.Path.{refl}
use Rattle.tie_check.proofs.judging.Stated.{none-stated, one_stated}
use Rattle.tie_check.proofs.judging.count_differs.Goals as goal

pub returns-then-stated-ne0 : goal.returns-then-stated-ne0
returns-then-stated-ne0 c = one_stated _ _ c.if-stated-ne0.true

pub returns-else-stated-ne0 : goal.returns-else-stated-ne0
returns-else-stated-ne0 c = rw c.if-stated-ne0.false (none-stated _ _ refl)
