-- What putting a value or a text into a field of a card answers, and what the card's columns then hold.
use Rattle.std.specs.Prelude.{ℕ, ◌-◌, List, ◌++◌, Bool, true, false, cond, ◌&&◌, take, drop, Result, Ok, Err, ⊤}
use Rattle.base_refusal.specs.declared.Unwritten.TheVariants as unwritten
use Rattle.base_digits.specs.digits.Columns.{Entry, agreed, refused}
use Rattle.base_refusal.specs.Refusals.{refusal_of, refusal, no_refusal}
use Rattle.base_value.specs.declared.Value.{Value}
use Rattle.base_value.specs.declared.Value.TheVariants.{Absent, Whole, Decimal, Angle, Date, Text}
use Rattle.value_field.specs.writing.Writing.{entry_of, text_entry_of}
use Rattle.format_layout.specs.declared.Field.{Field}
use Rattle.format_layout.specs.declared.Form.{Form}
use Rattle.format_layout.specs.Forms.{form_numbered}
use Rattle.format_layout.specs.ranges.Ranges.{in_range}
use Rattle.base_refusal.specs.declared.Refusal.{Refusal}
use Rattle.card_field.specs.seeking.Card.{sought_of}
use Rattle.card_field.specs.judging.Fields.{spelling_of}
use Rattle.card_field.specs.needing.Needs.{needed_after}
use Rattle.format_layout.specs.Columns.{width}
use Rattle.base_refusal.specs.declared.Unwritten.{Unwritten}
use Rattle.card_field.specs.seeking.Found.{Sought}

-- what comes of putting: the card's new columns, or why they stay
pub data Putting : Type 0 where
  placed : List ℕ → Putting
  stays : Refusal → Putting

abbrev pub answer_of : Putting → Result ⊤ Refusal
answer_of (placed s) = no_refusal
answer_of (stays r) = Err r

abbrev pub left_by : Putting → List ℕ → List ℕ
left_by (placed s) old = s
left_by (stays r) old = old

-- a card with other bytes in a field's columns
unfoldable pub placed_in : Field → List ℕ → List ℕ → List ℕ
placed_in f s t = take (f.first - 1) s ++ (t ++ drop (width f) (drop (f.first - 1) s))

abbrev pub is_absent : Value → Bool
is_absent Absent = true
is_absent (Whole z) = false
is_absent (Decimal d) = false
is_absent (Angle z) = false
is_absent (Date d) = false
is_absent (Text c) = false

-- a whole number lies in its field's range; other values have none of their own
abbrev pub within : Field → Value → Bool
within f Absent = true
within f (Whole z) = in_range f.range z
within f (Decimal d) = true
within f (Angle z) = true
within f (Date d) = true
within f (Text c) = true

-- a value of another kind than the field
unfoldable pub is_other : Entry → Bool
is_other (agreed t) = false
is_other (refused unwritten.Unprintable) = false
is_other (refused unwritten.Malformed) = false
is_other (refused unwritten.OutOfRange) = false
is_other (refused unwritten.OtherKind) = true
is_other (refused unwritten.NoRoom) = false

-- what came of writing, on a card with the columns s; what is wrong with a value or a text has no column
unfoldable pub came_of : List ℕ → Result ⊤ Unwritten → Putting
came_of s (Ok _) = placed s
came_of s (Err unwritten.Unprintable) = stays (refusal (refusal_of (Err unwritten.Unprintable)) 1 0)
came_of s (Err unwritten.Malformed) = stays (refusal (refusal_of (Err unwritten.Malformed)) 1 0)
came_of s (Err unwritten.OutOfRange) = stays (refusal (refusal_of (Err unwritten.OutOfRange)) 1 0)
came_of s (Err unwritten.OtherKind) = stays (refusal (refusal_of (Err unwritten.OtherKind)) 1 0)
came_of s (Err unwritten.NoRoom) = stays (refusal (refusal_of (Err unwritten.NoRoom)) 1 0)

-- an entry on the card
unfoldable pub by_entry : Field → List ℕ → Entry → Putting
by_entry f s (agreed t) = placed (placed_in f s t)
by_entry f s (refused why) = came_of s (Err why)

-- in the order 12, 11, 10, 14
unfoldable pub value_put : ℕ → List ℕ → ℕ → Field → Form → Value → Putting
value_put k s n f form v =
    cond (is_other (entry_of (spelling_of f.kind form) (width f) v)) (stays (refusal 12 1 0))
    (cond (is_absent v && needed_after k s n f) (stays (refusal 11 1 f.first))
    (cond (within f v) (by_entry f s (entry_of (spelling_of f.kind form) (width f) v)) (stays (refusal 10 1 0))))

unfoldable pub value_at : List ℕ → ℕ → Form → Value → Result Sought Refusal → Putting
value_at s n form v (Err r) = stays r
value_at s n form v (Ok o) = value_put o.layout s n o.field form v

unfoldable pub text_at : List ℕ → Form → List ℕ → Result Sought Refusal → Putting
text_at s form t (Err r) = stays r
text_at s form t (Ok o) = by_entry o.field s (text_entry_of (spelling_of o.field.kind form) (width o.field) t)

-- a value into the field with a number of a card
unfoldable pub putting_of : List ℕ → ℕ → ℕ → Value → Putting
putting_of s n form v = value_at s n (form_numbered form) v (sought_of s n form)

-- a text into it
unfoldable pub putting_text_of : List ℕ → ℕ → ℕ → List ℕ → Putting
putting_text_of s n form t = text_at s (form_numbered form) t (sought_of s n form)
