-- How a number is read from its columns: blanks, at most one sign, digits, and in a decimal at most one point.
use Rattle.std.specs.Prelude.{ℕ, ◌+◌, List, [], ◌∷◌, ◌++◌, Bool, true, false, cond, ◌&&◌, ◌||◌, length, eqb, ltb, Result, Ok, Err, Option, Some, None}
use Rattle.base_digits.specs.digits.Figures.{unpadded, leading, behind, value_from, limit, capped}
use Rattle.base_value.specs.declared.Value.TheVariants.{Absent, Decimal}
use Rattle.base_value.specs.declared.Unread.TheVariants.{Malformed, OutOfRange}
use Rattle.base_digits.specs.signs.Signs.{signed_of}
use Rattle.base_value.specs.declared.Unread.{Unread}
use Rattle.base_value.specs.declared.Value.{Value}
use Rattle.value_number.specs.declared.number.Figures.{Figures}
use Rattle.value_number.specs.number.Figures.{figures}

-- nothing but digits
abbrev pub all_digits : List ℕ → Bool
all_digits s = eqb (length (leading s)) (length s)

-- at least one digit
abbrev pub counted_of : ℕ → ℕ → ℕ → Option Figures
counted_of count n places = cond (eqb count 0) None (Some (figures n places))

-- the digits a before the point and b behind it: as one number of units, with as many places as b has
abbrev pub units_of : List ℕ → List ℕ → Option Figures
units_of a b = counted_of (length a + length b) (capped (value_from 0 (a ++ b))) (length b)

-- behind the digits a there stands nothing, or a point (where there may be one) and digits
unfoldable pub point_of : Bool → List ℕ → List ℕ → Option Figures
point_of pointed a [] = units_of a []
point_of pointed a (c ∷ b) = cond (pointed && (eqb c 46 && all_digits b)) (units_of a b) None

-- an unsigned number
unfoldable pub figures_of : Bool → List ℕ → Option Figures
figures_of pointed t = point_of pointed (leading t) (behind t)

-- an unsigned number with its sign
unfoldable pub held_of : Bool → Option Figures → Result Value Unread
held_of minus None = (Err Malformed)
held_of minus (Some f) = cond (ltb f.units limit) (Ok (Decimal (record { units = signed_of minus f.units; places = f.places }))) (Err OutOfRange)

-- at most one sign
unfoldable pub sign_of : Bool → List ℕ → Result Value Unread
sign_of pointed [] = Ok Absent
sign_of pointed (b ∷ t) =
    cond (eqb b 45) (held_of true (figures_of pointed t))
    (cond (eqb b 43) (held_of false (figures_of pointed t)) (held_of false (figures_of pointed (b ∷ t))))

-- the columns that a byte takes as a sign
unfoldable pub sign_at : ℕ → ℕ
sign_at b = cond (eqb b 43 || eqb b 45) 1 0

-- what stands in the columns of a number; a point may stand in a decimal (N) and not in a whole number (I)
unfoldable pub number_of : Bool → List ℕ → Result Value Unread
number_of pointed s = sign_of pointed (unpadded s)
