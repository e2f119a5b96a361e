-- `tie_rules::offered::packed_whole` meets its contract.
use mathlib.Core.Path.{sym, ap, ◌∙◌}
use mir.ValLaws.{to_z-of_z}
use mir.Syntax.{w64}
use lib.IntN.{nat_abs}
use Rattle.base_digits.specs.signs.Signs.{is_minus}
use Rattle.tie_rules.proofs.packing.Steps.{minus_whole, plus_whole}
use Rattle.tie_rules.proofs.offered.packed_whole.Goals as goal

pub returns-then-below_zero : goal.returns-then-below_zero
returns-then-below_zero c =
    minus_whole _ _ (sym (c.below_zero.ensures
    ∙ ap is_minus (to_z-of_z w64 c.args.number c.ranges.number)) ∙ c.if-below_zero.true)

pub returns : goal.returns
returns c =
    plus_whole _ _ _ _ (sym (c.below_zero.ensures
    ∙ ap is_minus (to_z-of_z w64 c.args.number
    c.ranges.number)) ∙ c.if-below_zero.false)
    (c.magnitude.ensures ∙ ap nat_abs (to_z-of_z w64 c.args.number
    c.ranges.number)) c.packed_number.ensures
