-- `value_coordinate::angle::three_digits` meets its contract: three digits or none.
use mathlib.Core.Bool.{◌&&◌}
use Rattle.base_digits.proofs.digits.Bools.{and_left, and_right}
use Rattle.value_coordinate.proofs.angle.Columns.{digit-least, three_none, three_filled}
use Rattle.value_coordinate.proofs.angle.three_digits.Goals as goal

pub returns-then-not-is_digit : goal.returns-then-not-is_digit
returns-then-not-is_digit c =
    three_none _ _ _ _ _ _ c.is_digit.ensures c.is_digit-2.ensures c.is_digit-3.ensures c.if-not-is_digit.true

pub overflow_sub-result : goal.overflow_sub-result
overflow_sub-result c =
    digit-least _ _ c.is_digit.ensures (and_left c.is_digit.result c.is_digit-2.result (and_left (c.is_digit.result && c.is_digit-2.result) c.is_digit-3.result c.if-not-is_digit.false))

pub overflow_sub-result-2 : goal.overflow_sub-result-2
overflow_sub-result-2 c =
    digit-least _ _ c.is_digit-2.ensures (and_right c.is_digit.result c.is_digit-2.result (and_left (c.is_digit.result && c.is_digit-2.result) c.is_digit-3.result c.if-not-is_digit.false))

pub overflow_sub-result-3 : goal.overflow_sub-result-3
overflow_sub-result-3 c =
    digit-least _ _ c.is_digit-3.ensures (and_right (c.is_digit.result && c.is_digit-2.result) c.is_digit-3.result c.if-not-is_digit.false)

pub returns : goal.returns
returns c =
    three_filled _ _ _ _ _ _ c.is_digit.ensures c.is_digit-2.ensures c.is_digit-3.ensures c.if-not-is_digit.false
