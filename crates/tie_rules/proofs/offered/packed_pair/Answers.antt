-- `tie_rules::offered::packed_pair` meets its contract.
use mathlib.Core.Path.{sym, ap, ◌∙◌}
use mir.ValLaws.{to_z-of_z}
use mir.Syntax.{w64}
use lib.IntN.{nat_abs}
use Rattle.base_digits.specs.signs.Signs.{is_minus}
use Rattle.tie_rules.proofs.packing.Steps.{pair_other, first_minus, second_minus, pair_plus}
use Rattle.tie_rules.proofs.offered.packed_pair.Goals as goal

pub returns-then-class-ne-WAYPOINTS : goal.returns-then-class-ne-WAYPOINTS
returns-then-class-ne-WAYPOINTS c = pair_other _ _ _ c.if-class-ne-WAYPOINTS.true

pub returns-then-below_zero : goal.returns-then-below_zero
returns-then-below_zero c =
    first_minus _ _ _ (sym (c.below_zero.ensures
    ∙ ap is_minus (to_z-of_z w64 c.args.first c.ranges.first))
    ∙ c.if-below_zero.true)

pub returns-then-below_zero-2 : goal.returns-then-below_zero-2
returns-then-below_zero-2 c =
    second_minus _ _ _ (sym (c.below_zero-2.ensures
    ∙ ap is_minus (to_z-of_z w64 c.args.second
    c.ranges.second)) ∙ c.if-below_zero-2.true)

pub returns : goal.returns
returns c =
    pair_plus _ _ _ _ _ _ c.if-class-ne-WAYPOINTS.false
    (sym (c.below_zero.ensures
    ∙ ap is_minus (to_z-of_z w64 c.args.first
    c.ranges.first))
    ∙ c.if-below_zero.false)
    (sym (c.below_zero-2.ensures
    ∙ ap is_minus (to_z-of_z w64 c.args.second
    c.ranges.second))
    ∙ c.if-below_zero-2.false)
    (c.magnitude.ensures ∙ ap nat_abs (to_z-of_z w64
    c.args.first
    c.ranges.first))
    (c.magnitude-2.ensures ∙ ap nat_abs (to_z-of_z w64
    c.args.second
    c.ranges.second))
    c.packed_both.ensures
