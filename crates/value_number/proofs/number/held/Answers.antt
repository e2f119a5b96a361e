-- `value_number::number::held` meets its contract.
use Rattle.value_number.proofs.number.Parsing.{held-not, held_units, held_large}
use mir.ValLaws.{to_z-of_z}
use mir.Syntax.{w64}
use mathlib.Core.Path.{ap, ◌∙◌}
use Rattle.base_digits.specs.signs.Signs.{signed_of}
use native.Mathlib.Omega.{arith}
use borrow.Author.Rules.{rules}
use Rattle.value_number.proofs.number.held.Goals as goal

pub returns-then-n-lt-LIMIT : goal.returns-then-n-lt-LIMIT
returns-then-n-lt-LIMIT c =
    held_units _ _ _ _ c.in-Some.is _ (to_z-of_z w64 c.signed.result (search rules) ∙ c.signed.ensures ∙ ap (signed_of _) (omega arith)) c.if-n-lt-LIMIT.true

pub returns-in-None : goal.returns-in-None
returns-in-None c = held-not _ _ c.in-None.is

pub returns-else-n-lt-LIMIT : goal.returns-else-n-lt-LIMIT
returns-else-n-lt-LIMIT c = held_large _ _ _ _ c.in-Some.is c.if-n-lt-LIMIT.false
