-- `tie_check::begins::column_at` meets its contract.
use mathlib.Core.Path.{sym, ap, ◌∙◌}
use lib.ListN.{get_or}
use Rattle.tie_check.specs.packed.Begins.{begins}
use Rattle.tie_check.proofs.begins.Columns.{column-begins}
use Rattle.tie_check.proofs.begins.column_at.Goals as goal

pub returns-then-i-eq0 : goal.returns-then-i-eq0
unfolding begins
returns-then-i-eq0 c = let k = c.args.layout in sym (ap (λ i. get_or (begins k) i 0) c.if-i-eq0.true)

pub returns : goal.returns
returns c = c.first_of.ensures ∙ column-begins _ _ _ c.if-i-eq0.false c.row_of.ensures
