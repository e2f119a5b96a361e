-- What the columns of a number hold, told by one number. No promise to a caller cites this.
use Rattle.std.specs.Prelude.{ℕ, ◌+◌, Bool, true, false, cond, not, ◌&&◌, eqb, ltb, ℤ, pos, negsuc, Result, Ok, Err, Option, Some, None}
use Rattle.base_digits.specs.digits.Figures.{limit}
use Rattle.base_value.specs.declared.Value.TheVariants.{Absent, Whole, Decimal, Angle, Date, Text}
use Rattle.base_value.specs.declared.Unread.TheVariants.{Malformed, OutOfRange}
use Rattle.base_value.specs.declared.Unread.{Unread}
use Rattle.base_value.specs.declared.Value.{Value}
use Rattle.value_number.specs.declared.number.Figures.{Figures}

-- a whole number from 0 up, counted from 4; 3 for one below zero
abbrev pub sized : ℤ → ℕ
sized (pos n) = n + 4
sized (negsuc n) = 3

-- the same of what was read: 0 for blanks, 1 for what is no number, 2 for one that is too large
abbrev pub size_of : Result Value Unread → ℕ
size_of (Ok Absent) = 0
size_of (Ok (Whole z)) = sized z
size_of (Ok (Decimal d)) = sized d.units
size_of (Ok (Angle z)) = 1
size_of (Ok (Date d)) = 1
size_of (Ok (Text c)) = 1
size_of (Err Malformed) = 1
size_of (Err OutOfRange) = 2

-- digits that are a number, and that number counted from 1
abbrev pub is_units : Option Figures → Bool
is_units None = false
is_units (Some f) = true

abbrev pub mark_in : Option Figures → ℕ
mark_in None = 0
mark_in (Some f) = f.units + 1

-- a size by the number counted from 1, and whether a minus stands before it
unfoldable pub size_by : Bool → ℕ → ℕ
size_by minus mark = cond (eqb mark 0) 1 (cond (ltb limit mark) 2 (cond (minus && not (eqb mark 1)) 3 (mark + 3)))
