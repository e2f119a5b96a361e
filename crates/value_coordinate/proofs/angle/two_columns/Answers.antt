-- `value_coordinate::angle::two_columns` meets its contract: a digit, with a blank or another before it.
use Rattle.value_coordinate.proofs.angle.Columns.{digit-least, two_none, two_padded, two_odd, two_filled}
use Rattle.value_coordinate.proofs.angle.two_columns.Goals as goal

pub returns-then-not-is_digit : goal.returns-then-not-is_digit
returns-then-not-is_digit c = two_none _ _ _ c.is_digit.ensures c.if-not-is_digit.true

pub overflow_sub-result : goal.overflow_sub-result
overflow_sub-result c = digit-least _ _ c.is_digit.ensures c.if-not-is_digit.false

pub returns-then-a-eq-BLANK : goal.returns-then-a-eq-BLANK
returns-then-a-eq-BLANK c = two_padded _ _ _ c.is_digit.ensures c.if-not-is_digit.false c.if-a-eq-BLANK.true

pub returns-then-not-is_digit-2 : goal.returns-then-not-is_digit-2
returns-then-not-is_digit-2 c =
    two_odd _ _ _ c.is_digit.ensures c.if-not-is_digit.false c.if-a-eq-BLANK.false _ c.is_digit-2.ensures c.if-not-is_digit-2.true

pub overflow_sub-result-2 : goal.overflow_sub-result-2
overflow_sub-result-2 c = digit-least _ _ c.is_digit-2.ensures c.if-not-is_digit-2.false

pub overflow_sub-result-3 : goal.overflow_sub-result-3
overflow_sub-result-3 c = digit-least _ _ c.is_digit.ensures c.if-not-is_digit.false

pub returns : goal.returns
returns c =
    two_filled _ _ _ c.is_digit.ensures c.if-not-is_digit.false c.if-a-eq-BLANK.false _ c.is_digit-2.ensures c.if-not-is_digit-2.false
