-- `value_number::shapes::decimal_shape` meets its contract.
use mathlib.Core.Path.{sym, ap, ◌∙◌}
use native.Mathlib.Omega.{arith}
use mathlib.Core.Bool.{cond}
use Rattle.base_digits.proofs.digits.Parts.{rest_part}
use Rattle.value_number.proofs.number.Parsing.{number_absent}
use Rattle.base_value.specs.Reading.{offence_of}
use Rattle.value_number.proofs.shapes.Telling.{shape_short}
use Rattle.value_number.proofs.shapes.decimal_shape.Goals as goal

pub returns-then-at-s : goal.returns-then-at-s
returns-then-at-s c = ap offence_of (number_absent _ _ _ c.padding-at.ensures.found c.if-at-s.true)

pub returns-then-is_decimal : goal.returns-then-is_decimal
returns-then-is_decimal c =
    let s = c.args.s.now in
    let u = rw rest_part at c.is_decimal.ensures in
    ap (λ b. cond b 0 9) (sym c.if-is_decimal.true)
    ∙ shape_short s _ c.padding-at.ensures.found (omega (arith, c.padding-at.ensures.within)) _ c.sign_at.ensures.0
    c.requires _ u

pub returns : goal.returns
returns c =
    let s = c.args.s.now in
    let u = rw rest_part at c.is_decimal.ensures in
    ap (λ b. cond b 0 9) (sym c.if-is_decimal.false)
    ∙ shape_short s _ c.padding-at.ensures.found (omega (arith, c.padding-at.ensures.within)) _ c.sign_at.ensures.0
    c.requires _ u
