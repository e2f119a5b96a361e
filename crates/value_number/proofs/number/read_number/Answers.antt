-- `value_number::number::read_number` meets its contract.
use native.Mathlib.Omega.{arith}
use Rattle.base_digits.proofs.digits.Parts.{rest_part}
use Rattle.value_number.proofs.number.Parsing.{number_absent, number_by}
use Rattle.value_number.proofs.number.read_number.Goals as goal

pub returns-then-at-s : goal.returns-then-at-s
returns-then-at-s c = number_absent _ _ _ c.padding-at.ensures.found c.if-at-s.true

pub returns : goal.returns
returns c =
    number_by _ _ _ _ c.padding-at.ensures.found (omega (arith, c.padding-at.ensures.within)) c.sign_at.ensures.0
    _ (rw rest_part at c.figures_in.ensures) _ c.held.ensures
