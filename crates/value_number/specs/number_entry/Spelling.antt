-- How a number is written into its columns: the one agreed spelling.
use Rattle.std.specs.Prelude.{ℕ, zero, suc, ◌+◌, ◌-◌, ◌/◌, ◌^◌, max, List, [], ◌∷◌, ◌++◌, Bool, true, false, cond, leb, ltb, nat_abs, Option, None, Some}
use Rattle.base_digits.specs.digits.Figures.{limit}
use Rattle.base_digits.specs.digits.Digits.{digits, size}
use Rattle.base_digits.specs.digits.Columns.{right_adjusted, or_else}
use Rattle.base_value.specs.declared.Decimal.{Decimal}
use Rattle.base_digits.specs.signs.Signs.{is_minus}

unfoldable pub sign : Bool → List ℕ
sign true = 45 ∷ []
sign false = []

-- how many columns the sign takes, and the point with its digits
abbrev pub sign_columns : Bool → ℕ
sign_columns true = 1
sign_columns false = 0

abbrev pub point_columns : ℕ → ℕ
point_columns zero = 0
point_columns (suc p) = suc (suc p)

-- k digits, a point and p digits
abbrev pub pointed : ℕ → ℕ → ℕ → List ℕ
pointed k p n = digits k (n / 10 ^ p) ++ (46 ∷ digits p n)

-- n units with p places, k digits standing before the point; no point if no digits follow it
unfoldable pub plain : ℕ → ℕ → ℕ → List ℕ
plain k zero n = digits k n
plain k (suc p) n = pointed k (suc p) n

-- the same in just w columns
unfoldable pub plain_in : ℕ → ℕ → ℕ → Option (List ℕ)
plain_in w p n = cond (leb (point_columns p) w) (Some (plain (w - point_columns p) p n)) None

-- a number with its sign
unfoldable pub spelled : Bool → ℕ → ℕ → ℕ → List ℕ
spelled minus k p n = sign minus ++ plain k p n

-- no spare leading zeros: as many digits as the number has, and one zero before a leading point;
-- where that has no room, none
unfoldable pub units_in : ℕ → Bool → ℕ → ℕ → Option (List ℕ)
units_in w minus p n =
    or_else (right_adjusted w (spelled minus (max (size n) (p + 1) - p) p n))
    (right_adjusted w (spelled minus (max (size n) p - p) p n))

-- a decimal in w columns
unfoldable pub decimal_in : ℕ → Decimal → Option (List ℕ)
decimal_in w d = cond (ltb (nat_abs d.units) limit) (units_in w (is_minus d.units) d.places (nat_abs d.units)) None
