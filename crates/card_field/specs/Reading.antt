-- What reading the field with a number says of a card, and the text that stands there.
use Rattle.std.specs.Prelude.{ℕ, List, [], Bool, true, false, cond, Result, Ok, Err}
use Rattle.value_text.specs.text.Texts.{text_of}
use Rattle.base_value.specs.declared.Value.TheVariants.{Absent, Whole, Decimal, Angle, Date, Text}
use Rattle.format_layout.specs.declared.Field.{Field}
use Rattle.format_layout.specs.declared.Form.{Form}
use Rattle.format_layout.specs.Forms.{form_numbered}
use Rattle.base_refusal.specs.Refusals.{refusal}
use Rattle.card_field.specs.seeking.Card.{sought_of}
use Rattle.card_field.specs.judging.Fields.{judged_of, misplaced_on}
use Rattle.card_field.specs.needing.Needs.{columns_of}
use Rattle.card_field.specs.declared.FieldRead.{FieldRead}
use Rattle.base_refusal.specs.declared.Refusal.{Refusal}
use Rattle.base_value.specs.declared.Value.{Value}
use Rattle.card_field.specs.Fields.{field_read}
use Rattle.card_field.specs.seeking.Found.{Sought}

-- the value and whether it is misplaced; the offence of a field stands at its first column
unfoldable pub answered_of : Field → Bool → Result Value ℕ → Result FieldRead Refusal
answered_of f misplaced (Ok v) = Ok (field_read v misplaced)
answered_of f misplaced (Err n) = Err (refusal n 1 f.first)

unfoldable pub field_on : List ℕ → Form → Result Sought Refusal → Result FieldRead Refusal
field_on s form (Err r) = Err r
field_on s form (Ok o) = answered_of o.field (misplaced_on s o.field form) (judged_of o.layout s o.field form)

-- the reading of one field of a card
unfoldable pub field_reading : List ℕ → ℕ → ℕ → Result FieldRead Refusal
field_reading s n form = field_on s (form_numbered form) (sought_of s n form)

-- whether a field says a text
unfoldable pub holds_text : Result Value ℕ → Bool
holds_text (Err n) = false
holds_text (Ok Absent) = false
holds_text (Ok (Whole z)) = false
holds_text (Ok (Decimal d)) = false
holds_text (Ok (Angle z)) = false
holds_text (Ok (Date d)) = false
holds_text (Ok (Text c)) = true

unfoldable pub text_on : List ℕ → Form → Result Sought Refusal → List ℕ
text_on s form (Err r) = []
text_on s form (Ok o) = cond (holds_text (judged_of o.layout s o.field form)) (text_of (columns_of o.field s)) []

-- the text in one field of a card, empty where there is none
unfoldable pub field_text : List ℕ → ℕ → ℕ → List ℕ
field_text s n form = text_on s (form_numbered form) (sought_of s n form)
