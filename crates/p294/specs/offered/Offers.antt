-- A value, and a key, that a caller offers as numbers.
use Rattle.std.specs.Prelude.{ℕ, cond, List, [], ℤ, nat_abs, eqb, ltb}
use Rattle.base_digits.specs.signs.Signs.{is_minus}
use Rattle.base_value.specs.declared.Value.{Value}
use Rattle.base_value.specs.declared.Value.TheVariants.{Absent, Whole, Decimal, Angle, Date, Text}
use Rattle.tie_lookup.specs.declared.questions.Key.{Key}
use Rattle.tie_lookup.specs.declared.questions.Key.TheVariants as key

-- a part of a date; what 32 bits do not hold is 0, which no date has
unfoldable pub part_of : ℕ → ℕ
part_of n = cond (ltb n 4294967296) n 0

-- a year below zero is 0, which no date has
unfoldable pub year_of : ℤ → ℕ
year_of z = cond (is_minus z) 0 (part_of (nat_abs z))

-- by its kind: 0 absent, 1 whole, 2 decimal, 3 angle, 4 date; any other is a text, which no field takes as a value
unfoldable pub offered_of : ℕ → ℤ → ℕ → ℕ → Value
offered_of kind a b c =
    cond (eqb kind 0) Absent
    (cond (eqb kind 1) (Whole a)
    (cond (eqb kind 2) (Decimal (record { units = a; places = b }))
    (cond (eqb kind 3) (Angle a)
    (cond (eqb kind 4) (Date (record { year = year_of a; month = part_of b; day = part_of c }))
    (Text (record { first = 0; last = 0 }))))))

-- a key by its kind: 1 whole number, 2 pair of whole numbers, 3 text; any other is a text without bytes, which nothing defines
unfoldable pub key_of : ℕ → ℤ → ℤ → Key
key_of kind a b = cond (eqb kind 1) (key.Whole a) (cond (eqb kind 2) (key.Pair a b) key.Text)

unfoldable pub key_text_of : ℕ → List ℕ → List ℕ
key_text_of kind text = cond (eqb kind 3) text []
