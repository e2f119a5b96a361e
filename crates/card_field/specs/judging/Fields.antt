-- What a field of a card says: its columns read by its spelling, and held against its need and its range.
use Rattle.std.specs.Prelude.{ℕ, ◌+◌, ◌-◌, List, Bool, cond, Result, Ok, Err}
use Rattle.base_value.specs.declared.Value.{Value}
use Rattle.base_value.specs.declared.Value.TheVariants.{Absent, Whole, Decimal, Angle, Date, Text}
use Rattle.base_value.specs.declared.Unread.TheVariants as unread
use Rattle.value_field.specs.declared.spelling.Spelling.{Spelling}
use Rattle.value_field.specs.declared.spelling.Spelling.TheVariants as spelled
use Rattle.base_value.specs.Reading.{refusal_of}
use Rattle.value_field.specs.spelling.Reading.{reading_of, misplaced_in}
use Rattle.format_layout.specs.declared.Kind.{Kind}
use Rattle.format_layout.specs.declared.Kind.TheVariants as kind
use Rattle.format_layout.specs.declared.Field.{Field}
use Rattle.format_layout.specs.declared.Form.{Form}
use Rattle.format_layout.specs.Forms.{is_grid}
use Rattle.format_layout.specs.ranges.Ranges.{in_range}
use Rattle.card_field.specs.needing.Needs.{columns_of, needed_on}
use Rattle.base_value.specs.declared.Unread.{Unread}

-- the spelling of a kind in a form
unfoldable pub spelling_of : Kind → Form → Spelling
spelling_of kind.Text form = spelled.Text
spelling_of kind.Comment form = spelled.Comment
spelling_of kind.Whole form = spelled.Whole
spelling_of kind.Decimal form = spelled.Decimal
spelling_of kind.Date form = spelled.Date
spelling_of kind.Latitude form = cond (is_grid form) spelled.Northing spelled.Latitude
spelling_of kind.Longitude form = cond (is_grid form) spelled.Easting spelled.Longitude

-- a text's columns on the card
abbrev pub on_card : Field → Value → Value
on_card f Absent = Absent
on_card f (Whole z) = Whole z
on_card f (Decimal d) = Decimal d
on_card f (Angle z) = Angle z
on_card f (Date d) = Date d
on_card f (Text c) = Text (record { first = f.first; last = f.first - 1 + c.last })

-- the last column of a text in its field, 0 of anything else
abbrev pub text_last : Value → ℕ
text_last Absent = 0
text_last (Whole z) = 0
text_last (Decimal d) = 0
text_last (Angle z) = 0
text_last (Date d) = 0
text_last (Text c) = c.last

abbrev pub read_last : Result Value Unread → ℕ
read_last (Err unread.Malformed) = 0
read_last (Err unread.OutOfRange) = 0
read_last (Ok v) = text_last v

-- a value held against need and range: 11, 10
unfoldable pub value_of : Bool → Field → Value → Result Value ℕ
value_of needed f Absent = cond needed (Err 11) (Ok Absent)
value_of needed f (Whole z) = cond (in_range f.range z) (Ok (Whole z)) (Err 10)
value_of needed f (Decimal d) = Ok (Decimal d)
value_of needed f (Angle z) = Ok (Angle z)
value_of needed f (Date d) = Ok (Date d)
value_of needed f (Text c) = Ok (on_card f (Text c))

-- a reading held against them: 9, 10 by itself
unfoldable pub held_of : Bool → Field → Result Value Unread → Result Value ℕ
held_of needed f (Err unread.Malformed) = Err (refusal_of (Err unread.Malformed))
held_of needed f (Err unread.OutOfRange) = Err (refusal_of (Err unread.OutOfRange))
held_of needed f (Ok v) = value_of needed f v

-- the number of a field's offence, 0 for none
abbrev pub number_of : Result Value ℕ → ℕ
number_of (Ok v) = 0
number_of (Err n) = n

-- what a field of a card says, or the number of its offence
unfoldable pub judged_of : ℕ → List ℕ → Field → Form → Result Value ℕ
judged_of k s f form = held_of (needed_on k s f) f (reading_of (spelling_of f.kind form) (columns_of f s))

-- a field of a card holds a number that is misplaced
unfoldable pub misplaced_on : List ℕ → Field → Form → Bool
misplaced_on s f form = misplaced_in (spelling_of f.kind form) (columns_of f s)
