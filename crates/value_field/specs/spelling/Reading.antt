-- What stands in the columns of one field, for each of the paper's spellings.
use Rattle.std.specs.Prelude.{ℕ, List, [], Bool, true, false, cond, ◌&&◌, ◌||◌, not, eqb, ltb, length, Result, Ok, Err}
use Rattle.value_number.specs.number.Reading.{number_of}
use Rattle.value_date.specs.Dates.{date_of}
use Rattle.value_coordinate.specs.declared.axes.Axis.TheVariants.{Y, X}
use Rattle.value_coordinate.specs.angle.Angles.{angle_of}
use Rattle.value_coordinate.specs.grid.Grid.{grid_of}
use Rattle.value_text.specs.text.Texts.{text_end, text_of, leading_blank}
use Rattle.base_value.specs.declared.Value.TheVariants.{Absent, Whole, Decimal, Angle, Date, Text}
use Rattle.base_value.specs.declared.Unread.TheVariants.{Malformed, OutOfRange}
use Rattle.value_field.specs.declared.spelling.Spelling.{Spelling}
use Rattle.value_field.specs.declared.spelling.Spelling.TheVariants as spelled
use Rattle.base_value.specs.declared.Unread.{Unread}
use Rattle.base_value.specs.declared.Value.{Value}

-- A: blank is absent; a leading blank is refused, unless lead allows it
unfoldable pub text_reading : Bool → List ℕ → Result Value Unread
text_reading lead s =
    cond (eqb (text_end s) 0) (Ok Absent)
    (cond (lead || not (leading_blank s)) (Ok (Text (record { first = 1; last = text_end s }))) (Err Malformed))

-- I, N: a number, which blanks may follow; one that has none behind it is read by the strict rule, as in a grid coordinate
unfoldable pub number_in : Bool → List ℕ → Result Value Unread
number_in pointed s = number_of pointed (text_of s)

-- blanks follow it: the columns are not blank, and the last of them is
unfoldable pub pushed_left : List ℕ → Bool
pushed_left s = ltb 0 (text_end s) && ltb (text_end s) (length s)

-- I: a number without places
unfoldable pub whole_reading : Result Value Unread → Result Value Unread
whole_reading (Ok Absent) = Ok Absent
whole_reading (Ok (Whole z)) = Ok (Whole z)
whole_reading (Ok (Decimal d)) = Ok (Whole d.units)
whole_reading (Ok (Angle z)) = Ok (Angle z)
whole_reading (Ok (Date d)) = Ok (Date d)
whole_reading (Ok (Text c)) = Ok (Text c)
whole_reading (Err Malformed) = (Err Malformed)
whole_reading (Err OutOfRange) = (Err OutOfRange)

-- what stands in a field's columns
unfoldable pub reading_of : Spelling → List ℕ → Result Value Unread
reading_of spelled.Text s = text_reading false s
reading_of spelled.Comment s = text_reading true s
reading_of spelled.Whole s = whole_reading (number_in false s)
reading_of spelled.Decimal s = number_in true s
reading_of spelled.Date s = date_of s
reading_of spelled.Latitude s = angle_of Y s
reading_of spelled.Longitude s = angle_of X s
reading_of spelled.Northing s = grid_of Y s
reading_of spelled.Easting s = grid_of X s

-- the spellings in which blanks may follow: never a text, a date or a coordinate
abbrev pub is_number : Spelling → Bool
is_number spelled.Text = false
is_number spelled.Comment = false
is_number spelled.Whole = true
is_number spelled.Decimal = true
is_number spelled.Date = false
is_number spelled.Latitude = false
is_number spelled.Longitude = false
is_number spelled.Northing = false
is_number spelled.Easting = false

-- a field's columns hold a number that is misplaced
unfoldable pub misplaced_in : Spelling → List ℕ → Bool
misplaced_in k s = is_number k && pushed_left s

-- whether a reading is a text
unfoldable pub is_text : Result Value Unread → Bool
is_text (Err Malformed) = false
is_text (Err OutOfRange) = false
is_text (Ok Absent) = false
is_text (Ok (Whole z)) = false
is_text (Ok (Decimal d)) = false
is_text (Ok (Angle z)) = false
is_text (Ok (Date d)) = false
is_text (Ok (Text c)) = true

-- the text in a field's columns, empty where there is none
unfoldable pub text_read : Spelling → List ℕ → List ℕ
text_read k s = cond (is_text (reading_of k s)) (text_of s) []
