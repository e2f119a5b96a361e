-- How a date stands in its columns: eight digits, YYYYMMDD.
use Rattle.std.specs.Prelude.{ℕ, ◌+◌, ◌*◌, ◌/◌, ◌%◌, List, cond, ◌&&◌, length, eqb, Result, Ok, Err}
use Rattle.base_digits.specs.digits.Figures.{blanks, value_from}
use Rattle.base_digits.specs.digits.Digits.{digits}
use Rattle.base_digits.specs.digits.Columns.{Entry, agreed, refused}
use Rattle.base_refusal.specs.declared.Unwritten.TheVariants.{OutOfRange as Outside, NoRoom}
use Rattle.value_number.specs.number.Reading.{all_digits}
use Rattle.value_date.specs.Calendar.{is_date}
use Rattle.base_value.specs.declared.Date.{Date}
use Rattle.base_value.specs.declared.Value.TheVariants as value
use Rattle.base_value.specs.declared.Unread.TheVariants.{Malformed, OutOfRange}
use Rattle.base_value.specs.declared.Unread.{Unread}
use Rattle.base_value.specs.declared.Value.{Value}

-- the number YYYYMMDD, and its parts
abbrev pub number_of : Date → ℕ
number_of d = d.year * 10000 + d.month * 100 + d.day

abbrev pub parts_of : ℕ → Date
parts_of n = record { year = n / 10000; month = n / 100 % 100; day = n % 100 }

-- a date, if the calendar has it
unfoldable pub dated_of : Date → Result Value Unread
dated_of d = cond (is_date d) (Ok (value.Date d)) (Err OutOfRange)

-- what stands in the columns of a date
unfoldable pub date_of : List ℕ → Result Value Unread
date_of s =
    cond (eqb (blanks s) (length s)) (Ok value.Absent)
    (cond (eqb (length s) 8 && all_digits s) (dated_of (parts_of (value_from 0 s))) (Err Malformed))

-- a date in w columns
unfoldable pub date_in : ℕ → Date → Entry
date_in w d = cond (is_date d) (cond (eqb w 8) (agreed (digits 8 (number_of d))) (refused NoRoom)) (refused Outside)
