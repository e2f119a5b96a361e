-- Sums of decimals, made with the larger number of places.
use Rattle.std.specs.Prelude.{ℕ, ◌-◌, ◌*◌, ◌^◌, min, max, ℤ, pos, ◌+ℤ◌, ◌*ℤ◌, nat_abs}
use Rattle.base_digits.specs.signs.Signs.{signed_of, is_minus}
use Rattle.base_value.specs.declared.Decimal.{Decimal}

-- so many units with so many places
abbrev pub decimal : ℤ → ℕ → Decimal
decimal units places = record { units = units; places = places }

-- nothing, without places
unfoldable pub nothing : Decimal
nothing = decimal (pos 0) 0

-- the largest size
abbrev pub largest : ℕ
largest = 999999999999999999

-- the places of a sum
abbrev pub places_of : Decimal → Decimal → ℕ
places_of a b = max a.places b.places

-- a decimal's units when it has p places, and the sum: exact, as whole numbers are
unfoldable pub units_at : ℕ → Decimal → ℤ
units_at p d = d.units *ℤ pos (10 ^ (p - d.places))

unfoldable pub exact_sum : Decimal → Decimal → Decimal
exact_sum a b = decimal (units_at (places_of a b) a +ℤ units_at (places_of a b) b) (places_of a b)

-- units with k more places, where the size would be over the largest the largest; and the sum of such
unfoldable pub raised_of : ℤ → ℕ → ℤ
raised_of z k = signed_of (is_minus z) (min largest (nat_abs z * 10 ^ k))

unfoldable pub sum_of : Decimal → Decimal → Decimal
sum_of a b =
    decimal (raised_of a.units (places_of a b - a.places) +ℤ raised_of b.units (places_of a b - b.places)) (places_of a b)
