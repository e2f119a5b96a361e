-- `p294::offered::year_of` meets its contract.
use mathlib.Core.Path.{sym, ap, ◌∙◌}
use mir.Syntax.{w64}
use mir.ValLaws.{to_z-of_z}
use lib.IntN.{nat_abs}
use Rattle.base_digits.specs.signs.Signs.{is_minus}
use Rattle.p294.specs.offered.Offers.{part_of}
use Rattle.p294.proofs.offered.Steps.{year_minus, year_plus}
use Rattle.p294.proofs.offered.year_of.Goals as goal

pub returns-then-below_zero : goal.returns-then-below_zero
returns-then-below_zero c =
    sym (year_minus _ (sym (c.below_zero.ensures ∙ ap is_minus (to_z-of_z w64 _ c.ranges.z)) ∙ c.if-below_zero.true))

pub returns : goal.returns
returns c =
    let same = to_z-of_z w64 _ c.ranges.z in
    c.part_of.ensures ∙ ap part_of (c.magnitude.ensures ∙ ap nat_abs same)
    ∙ sym (year_plus _ (sym (c.below_zero.ensures ∙ ap is_minus same) ∙ c.if-below_zero.false))
