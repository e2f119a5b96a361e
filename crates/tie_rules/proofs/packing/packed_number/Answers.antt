-- `tie_rules::packing::packed_number` meets its contract.
use mathlib.Core.Path.{sym, ◌∙◌}
use native.Mathlib.Omega.{arith}
use Rattle.tie_rules.proofs.packing.Steps.{other_kind, too_large, number-packed, whole-class}
use Rattle.tie_rules.proofs.packing.packed_number.Goals as goal

pub returns-then-not-is_whole : goal.returns-then-not-is_whole
returns-then-not-is_whole c = other_kind _ _ (sym c.is_whole.ensures ∙ c.if-not-is_whole.true)

pub returns-then-number-ge10000 : goal.returns-then-number-ge10000
returns-then-number-ge10000 c = too_large _ (sym c.is_whole.ensures ∙ c.if-not-is_whole.false) _ (omega arith)

pub overflow_mul-result : goal.overflow_mul-result
overflow_mul-result c = omega (arith, (whole-class _ (sym c.is_whole.ensures ∙ c.if-not-is_whole.false)).last)

pub overflow_add-result : goal.overflow_add-result
overflow_add-result c = omega (arith, (whole-class _ (sym c.is_whole.ensures ∙ c.if-not-is_whole.false)).last)

pub returns : goal.returns
returns c = number-packed _ (sym c.is_whole.ensures ∙ c.if-not-is_whole.false) _ (omega arith)
