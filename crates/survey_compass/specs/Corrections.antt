-- The corrections on a card, their sum with a raw reading, and the sum taken into 0 to under 360 degrees.
use Rattle.std.specs.Prelude.{ℕ, suc, ◌+◌, ◌-◌, ◌*◌, ◌%◌, ◌^◌, List, cond, eqb, ℤ, pos, negsuc, Result, Ok, Err}
use Rattle.base_value.specs.Sums.{decimal, nothing, exact_sum}
use Rattle.base_value.specs.declared.Decimal.{Decimal}
use Rattle.base_value.specs.declared.Value.TheVariants as value
use Rattle.base_value.specs.declared.Unread.TheVariants.{Malformed, OutOfRange}
use Rattle.value_field.specs.declared.spelling.Spelling.TheVariants as spelled
use Rattle.value_field.specs.spelling.Reading.{reading_of}
use Rattle.tie_rules.specs.Keys.{between}
use Rattle.survey_compass.specs.Directions.{unlisted, least_rank, nearest}
use Rattle.base_value.specs.declared.Unread.{Unread}
use Rattle.base_value.specs.declared.Value.{Value}

-- a correction that was read; one that is absent adds nothing
unfoldable pub correction_of : Result Value Unread → Decimal
correction_of (Ok (value.Decimal d)) = d
correction_of (Ok value.Absent) = nothing
correction_of (Ok (value.Whole z)) = nothing
correction_of (Ok (value.Angle z)) = nothing
correction_of (Ok (value.Date d)) = nothing
correction_of (Ok (value.Text c)) = nothing
correction_of (Err Malformed) = nothing
correction_of (Err OutOfRange) = nothing

-- the one in some columns of a card
unfoldable pub correction_in : ℕ → ℕ → List ℕ → Decimal
correction_in first last s = correction_of (reading_of spelled.Decimal (between first last s))

-- the fixed one, and that of the pair with a number, from 0
unfoldable pub fixed_on : List ℕ → Decimal
fixed_on s = correction_in 15 20 s

unfoldable pub correction_at : List ℕ → ℕ → Decimal
correction_at s i = correction_in (24 + 7 * i) (27 + 7 * i) s

-- the one for the listed direction that is nearest to the one asked; where no direction is listed nothing is added
unfoldable pub nearest_on : List ℕ → ℕ → Decimal
nearest_on s asked = cond (eqb (least_rank s asked) unlisted) nothing (correction_at s (nearest s asked))

-- the exact sum
unfoldable pub summed_on : List ℕ → Decimal → ℕ → Decimal
summed_on s raw asked = exact_sum (exact_sum raw (fixed_on s)) (nearest_on s asked)

-- a turn in units with p places
unfoldable pub turn : ℕ → ℕ
turn p = 360 * 10 ^ p

-- a number taken into 0 to under n by whole multiples of n
unfoldable pub within : ℕ → ℤ → ℕ
within n (pos m) = m % n
within n (negsuc m) = n - suc (m % n)

-- a decimal of degrees taken into 0 to under 360
unfoldable pub turned : Decimal → Decimal
turned d = decimal (pos (within (turn d.places) d.units)) d.places
