-- Form 1: a decimal, and in the last column the letter N or E.
use Rattle.std.specs.Prelude.{ℕ, ◌-◌, List, true, false, cond, length, take, get_or, eqb, Result, Ok, Err}
use Rattle.base_digits.specs.digits.Figures.{blanks}
use Rattle.value_number.specs.number.Reading.{number_of}
use Rattle.base_value.specs.declared.Value.TheVariants.{Absent, Whole, Decimal, Angle, Date, Text}
use Rattle.base_value.specs.declared.Unread.TheVariants.{Malformed, OutOfRange}
use Rattle.value_coordinate.specs.axes.Axes.{letter_of}
use Rattle.value_coordinate.specs.declared.axes.Axis.{Axis}
use Rattle.base_value.specs.declared.Unread.{Unread}
use Rattle.base_value.specs.declared.Value.{Value}

-- a letter goes with a number
unfoldable pub present_of : Result Value Unread → Result Value Unread
present_of (Ok Absent) = (Err Malformed)
present_of (Ok (Whole z)) = Ok (Whole z)
present_of (Ok (Decimal d)) = Ok (Decimal d)
present_of (Ok (Angle z)) = Ok (Angle z)
present_of (Ok (Date d)) = Ok (Date d)
present_of (Ok (Text c)) = Ok (Text c)
present_of (Err Malformed) = (Err Malformed)
present_of (Err OutOfRange) = (Err OutOfRange)

-- what stands in the columns of a grid coordinate
unfoldable pub grid_of : Axis → List ℕ → Result Value Unread
grid_of a s =
    cond (eqb (blanks s) (length s)) (Ok Absent)
    (cond (eqb (get_or s (length s - 1) 0) (letter_of a false)) (present_of (number_of true (take (length s - 1) s))) (Err Malformed))
