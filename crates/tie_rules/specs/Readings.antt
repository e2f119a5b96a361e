-- The keys on a card as reading its fields answers them.
use Rattle.std.specs.Prelude.{ℕ, suc, ◌-◌, cond, List, [], ◌∷◌, eqb, pos, negsuc, Result, Ok, Err}
use Rattle.base_value.specs.declared.Value.{Value}
use Rattle.base_value.specs.declared.Value.TheVariants.{Absent, Whole, Decimal, Angle, Date, Text}
use Rattle.format_layout.specs.declared.Field.{Field}
use Rattle.format_layout.specs.Layouts.{fields_of}
use Rattle.card_field.specs.Reading.{field_reading, field_text}
use Rattle.header_check.specs.forms.Cards.{byte_in}
use Rattle.tie_rules.specs.Ties.{Source, digit, whole, serial, waypoint, only, allotted, nothing}
use Rattle.tie_rules.specs.Keys.{paired, in_part}
use Rattle.card_field.specs.declared.FieldRead.{FieldRead}
use Rattle.base_refusal.specs.declared.Refusal.{Refusal}

-- the number of the field that begins in a column, the first of the list having number n; 0 where none does
unfoldable pub number_from : List Field → ℕ → ℕ → ℕ
number_from [] n column = 0
number_from (f ∷ fs) n column = cond (eqb f.first column) n (number_from fs (suc n) column)

-- the same of a layout
unfoldable pub number_at : ℕ → ℕ → ℕ
number_at k column = number_from (fields_of k) 1 column

-- the whole number that a value is; no other value has one
abbrev pub whole_in_value : Value → List ℕ
whole_in_value (Whole (pos n)) = n ∷ []
whole_in_value (Whole (negsuc n)) = []
whole_in_value Absent = []
whole_in_value (Decimal d) = []
whole_in_value (Angle z) = []
whole_in_value (Date d) = []
whole_in_value (Text c) = []

-- the whole number in the answer to a reading, misplaced or not; a refusal has none
unfoldable pub whole_of : Result FieldRead Refusal → List ℕ
whole_of (Ok f) = whole_in_value f.value
whole_of (Err r) = []

-- the whole number in the field of a layout that begins in a column; it has no form, so any will do
unfoldable pub whole_read : ℕ → ℕ → List ℕ → List ℕ
whole_read k column s = whole_of (field_reading s (number_at k column) 0)

-- the key that reading a card's fields answers
unfoldable pub key_read : ℕ → Source → List ℕ → List ℕ
key_read k digit s = (byte_in s 5 - 48) ∷ []
key_read k (whole first last) s = whole_read k first s
key_read k (serial first last) s = field_text s (number_at k first) 0
key_read k (waypoint first last) s = paired (whole_read k 7 s) (whole_read k first s)
key_read k only s = 0 ∷ []
key_read k (allotted first last least most) s = in_part least most (whole_read k first s)
key_read k nothing s = []
