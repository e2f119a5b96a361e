-- `value_coordinate::angle::judged` meets its contract.
use mathlib.Core.Path.{ap, ◌∙◌}
use Rattle.base_digits.specs.signs.Signs.{signed_of}
use mir.Syntax.{w64}
use mir.ValLaws.{to_z-of_z}
use Rattle.value_coordinate.proofs.angle.Reading.{minutes_outside, seconds_outside, arc_outside, arc_within}
use native.Mathlib.Omega.{arith}
use borrow.Author.Rules.{rules}
use Rattle.value_coordinate.proofs.angle.judged.Goals as goal

pub returns-then-minutes-ge60 : goal.returns-then-minutes-ge60
returns-then-minutes-ge60 c = minutes_outside _ _ _ (omega arith)

pub returns-then-seconds-ge60 : goal.returns-then-seconds-ge60
returns-then-seconds-ge60 c = seconds_outside _ _ _ (omega arith) (omega arith)

pub returns-then-bound-n : goal.returns-then-bound-n
returns-then-bound-n c =
    arc_outside _ _ _ (omega arith) (omega arith) _ (omega arith) _ c.bound.ensures.found c.if-bound-n.true

pub returns : goal.returns
returns c =
    arc_within _ _ _ (omega arith) (omega arith) _ (omega arith) _ c.bound.ensures.found c.if-bound-n.false _ (to_z-of_z w64 c.signed.result (search rules) ∙ c.signed.ensures ∙ ap (signed_of _) (omega arith))
