-- `volume_edit::compact::same_line` meets its contract.
use mathlib.Core.Path.{◌∙◌}
use Rattle.volume_check.proofs.Comparing.{equals_as}
use Rattle.volume_edit.proofs.compact.Ways.{line_other, line_numbers}
use Rattle.volume_edit.proofs.compact.same_line.Goals as goal

pub returns-then-eq : goal.returns-then-eq
returns-then-eq c =
    line_numbers _ _ _ _ c.eq.result c.stretch-name.ensures c.stretch.ensures (c.eq.ensures ∙ equals_as _ _) c.if-eq.true _ c.same_number.ensures

pub returns-else-eq : goal.returns-else-eq
returns-else-eq c =
    c.if-eq.false ∙ line_other _ _ _ _ c.eq.result c.stretch-name.ensures c.stretch.ensures (c.eq.ensures ∙ equals_as _ _) c.if-eq.false
