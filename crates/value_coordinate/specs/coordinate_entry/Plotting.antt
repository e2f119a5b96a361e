-- How coordinates are written: an angle as dddmmss.sss and a letter, a decimal and the letter N or E.
use Rattle.std.specs.Prelude.{ℕ, ◌+◌, ◌-◌, ◌*◌, ◌/◌, ◌%◌, List, [], ◌∷◌, ◌++◌, false, cond, eqb, leb, ℤ, nat_abs, Option, None, Some}
use Rattle.base_digits.specs.digits.Columns.{Entry, agreed, refused}
use Rattle.base_refusal.specs.declared.Unwritten.TheVariants.{OutOfRange as Outside, NoRoom}
use Rattle.base_digits.specs.signs.Signs.{is_minus}
use Rattle.base_value.specs.declared.Decimal.{Decimal}
use Rattle.value_number.specs.number_entry.Spelling.{plain, decimal_in}
use Rattle.value_coordinate.specs.axes.Axes.{bound_of, letter_of}
use Rattle.value_coordinate.specs.declared.axes.Axis.{Axis}

-- the number dddmmsssss of n thousandths of a second
abbrev pub figures_in : ℕ → ℕ
figures_in n = n / 3600000 * 10000000 + n / 60000 % 60 * 100000 + n % 60000

-- an angle in w columns: zero-padded, zero as N or E
unfoldable pub angle_in : Axis → ℕ → ℤ → Entry
angle_in a w z =
    cond (leb (nat_abs z) (bound_of a))
    (cond (eqb w 12) (agreed (plain 7 3 (figures_in (nat_abs z)) ++ (letter_of a (is_minus z) ∷ []))) (refused NoRoom))
    (refused Outside)

-- a number for which there may be no room, and the letter
abbrev pub lettered : ℕ → Option (List ℕ) → Entry
lettered letter (Some t) = agreed (t ++ (letter ∷ []))
lettered letter None = refused NoRoom

-- a grid coordinate in w columns
unfoldable pub grid_in : Axis → ℕ → Decimal → Entry
grid_in a w d = cond (eqb w 0) (refused NoRoom) (lettered (letter_of a false) (decimal_in (w - 1) d))
