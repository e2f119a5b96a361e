-- Form 0: an angle in twelve columns, dddmmss.sss and a letter.
use Rattle.std.specs.Prelude.{ℕ, ◌+◌, ◌*◌, ◌-◌, List, Bool, true, false, cond, ◌&&◌, length, take, drop, get_or, eqb, leb, ltb, Result, Ok, Err, Option, Some, None}
use Rattle.base_digits.specs.digits.Figures.{blanks, unpadded}
use Rattle.value_number.specs.number.Reading.{figures_of}
use Rattle.base_digits.specs.signs.Signs.{signed_of}
use Rattle.value_coordinate.specs.axes.Axes.{bound_of, letter_of, is_letter}
use Rattle.value_coordinate.specs.declared.axes.Axis.{Axis}
use Rattle.value_coordinate.specs.declared.angle.Parts.{Parts}
use Rattle.base_value.specs.declared.Value.TheVariants.{Absent, Angle}
use Rattle.base_value.specs.declared.Unread.TheVariants.{Malformed, OutOfRange}
use Rattle.base_value.specs.declared.Unread.{Unread}
use Rattle.base_value.specs.declared.Value.{Value}
use Rattle.value_number.specs.declared.number.Figures.{Figures}

-- the columns from one place to before another
abbrev pub part : ℕ → ℕ → List ℕ → List ℕ
part from to s = take (to - from) (drop from s)

-- digits, which blanks may pad on the left
unfoldable pub padded_of : List ℕ → Option Figures
padded_of s = figures_of false (unpadded s)

abbrev pub is_number : Option Figures → Bool
is_number (Some f) = true
is_number None = false

abbrev pub units_of : Option Figures → ℕ
units_of (Some f) = f.units
units_of None = 0

-- ddd, mm, ss and the sss behind the point, which nothing pads
unfoldable pub parts_of : List ℕ → Parts
parts_of s =
    record {
      degrees = padded_of (part 0 3 s);
      minutes = padded_of (part 3 5 s);
      seconds = padded_of (part 5 7 s);
      thousandths = figures_of false (part 8 11 s);
    }

-- all parts are there, the point and the letter
unfoldable pub is_spelled : Axis → Parts → ℕ → ℕ → Bool
is_spelled a p point letter =
    ((is_number p.degrees && is_number p.minutes) && (is_number p.seconds && is_number p.thousandths))
    && (eqb point 46 && is_letter a letter)

-- thousandths of a second
abbrev pub arc_of : Parts → ℕ
arc_of p = ((units_of p.degrees * 60 + units_of p.minutes) * 60 + units_of p.seconds) * 1000 + units_of p.thousandths

-- an angle on its axis, in thousandths of a second of arc
unfoldable pub angled_of : Axis → Bool → Parts → Result Value Unread
angled_of a minus p =
    cond ((ltb (units_of p.minutes) 60 && ltb (units_of p.seconds) 60) && leb (arc_of p) (bound_of a))
    (Ok (Angle (signed_of minus (arc_of p))))
    (Err OutOfRange)

-- what stands in the columns of an angle
unfoldable pub angle_of : Axis → List ℕ → Result Value Unread
angle_of a s =
    cond (eqb (blanks s) (length s)) (Ok Absent)
    (cond (eqb (length s) 12 && is_spelled a (parts_of s) (get_or s 7 0) (get_or s 11 0))
    (angled_of a (eqb (get_or s 11 0) (letter_of a true)) (parts_of s))
    (Err Malformed))
