-- The words in which the rows are written: each says one thing of a card, a field, a value or a text.
use Rattle.std.specs.Prelude.{ℕ, ◌+◌, ◌-◌, max, List, [], ◌∷◌, Bool, true, false, cond, ◌&&◌, ◌||◌, not, length, get_or, take, drop, replicate, leb, ltb, nat_abs, Result, Ok, Err}
use Rattle.base_lists.specs.Parts.{alike}
use Rattle.base_digits.specs.digits.Digits.{size}
use Rattle.base_value.specs.declared.Decimal.{Decimal as Units}
use Rattle.base_digits.specs.signs.Signs.{is_minus}
use Rattle.value_number.specs.number_entry.Spelling.{sign_columns, point_columns}
use Rattle.value_date.specs.Calendar.{is_date}
use Rattle.value_coordinate.specs.declared.axes.Axis.{Axis}
use Rattle.value_coordinate.specs.declared.axes.Axis.TheVariants.{Y, X}
use Rattle.value_coordinate.specs.axes.Axes.{bound_of}
use Rattle.base_value.specs.declared.Value.{Value}
use Rattle.base_value.specs.declared.Value.TheVariants.{Absent, Whole, Decimal, Angle, Date, Text}
use Rattle.base_value.specs.declared.Unread.TheVariants.{Malformed, OutOfRange}
use Rattle.value_field.specs.spelling.Reading.{reading_of}
use Rattle.format_code.specs.declared.Code.{Code}
use Rattle.format_code.specs.declared.Code.TheVariants.{Read, Passed, Unknown}
use Rattle.format_layout.specs.declared.Kind.{Kind}
use Rattle.format_layout.specs.declared.Kind.TheVariants as kind
use Rattle.format_layout.specs.declared.Field.{Field}
use Rattle.format_layout.specs.declared.Form.{Form}
use Rattle.format_layout.specs.Forms.{is_grid}
use Rattle.format_code.specs.Codes.{code_of}
use Rattle.format_layout.specs.Layouts.{fields_of, label_of, no_field}
use Rattle.format_layout.specs.ranges.Ranges.{in_range}
use Rattle.card_field.specs.judging.Fields.{spelling_of}
use Rattle.card_field.specs.needing.Needs.{columns_of, any_second}
use Rattle.card_put.specs.Putting.{is_absent, within, placed_in}
use Rattle.format_layout.specs.Columns.{width}
use Rattle.base_value.specs.declared.Unread.{Unread}

abbrev pub is_unknown : Code → Bool
is_unknown (Read k) = false
is_unknown Passed = false
is_unknown Unknown = true

-- the fields of a code: a code that is not read has none
abbrev pub fields_under : Code → List Field
fields_under (Read k) = fields_of k
fields_under Passed = []
fields_under Unknown = []

-- the fields of a card, by the code in its first five columns
unfoldable pub fields_on : List ℕ → List Field
fields_on s = fields_under (code_of (take 5 s))

-- a field has the number, counted from 1
abbrev pub counts : List Field → ℕ → Bool
counts fs n = leb 1 n && leb n (length fs)

-- the field with a number; what stands in for one that is not there is not looked at, its row comes first
unfoldable pub field_at : List ℕ → ℕ → Field
field_at s n = get_or (fields_on s) (n - 1) no_field

-- a field that may not be blank: marked so, and of a second set only where that set is present
unfoldable pub is_needed : List ℕ → Field → Bool
is_needed s f = f.needed && (not f.second || any_second s (fields_on s))

-- what stands in a field, in a form
unfoldable pub reading_in : List ℕ → Form → Field → Result Value Unread
reading_in s form f = reading_of (spelling_of f.kind form) (columns_of f s)

abbrev pub is_malformed : Result Value Unread → Bool
is_malformed (Ok v) = false
is_malformed (Err Malformed) = true
is_malformed (Err OutOfRange) = false

-- latitudes and longitudes; no other field takes an angle
abbrev pub axis_of : Kind → Axis
axis_of kind.Text = X
axis_of kind.Comment = X
axis_of kind.Whole = X
axis_of kind.Decimal = X
axis_of kind.Date = X
axis_of kind.Latitude = Y
axis_of kind.Longitude = X

-- a value outside its range: a whole number by its field, an angle by its axis, a date by the calendar
abbrev pub is_outside : Field → Value → Bool
is_outside f Absent = false
is_outside f (Whole z) = not (in_range f.range z)
is_outside f (Decimal d) = false
is_outside f (Angle z) = ltb (bound_of (axis_of f.kind)) (nat_abs z)
is_outside f (Date d) = not (is_date d)
is_outside f (Text c) = false

-- a reading that is well formed and outside its range: by itself, or a whole number by its field
abbrev pub reads_outside : Field → Result Value Unread → Bool
reads_outside f (Err Malformed) = false
reads_outside f (Err OutOfRange) = true
reads_outside f (Ok v) = not (within f v)

-- what each field takes as a value: its own kind, and absence; a text goes in as bytes
abbrev pub is_whole : Value → Bool
is_whole Absent = true
is_whole (Whole z) = true
is_whole (Decimal d) = false
is_whole (Angle z) = false
is_whole (Date d) = false
is_whole (Text c) = false

abbrev pub is_decimal : Value → Bool
is_decimal Absent = true
is_decimal (Whole z) = false
is_decimal (Decimal d) = true
is_decimal (Angle z) = false
is_decimal (Date d) = false
is_decimal (Text c) = false

abbrev pub is_angle : Value → Bool
is_angle Absent = true
is_angle (Whole z) = false
is_angle (Decimal d) = false
is_angle (Angle z) = true
is_angle (Date d) = false
is_angle (Text c) = false

abbrev pub is_day : Value → Bool
is_day Absent = true
is_day (Whole z) = false
is_day (Decimal d) = false
is_day (Angle z) = false
is_day (Date d) = true
is_day (Text c) = false

-- form 1 takes a decimal for a coordinate, form 0 an angle
abbrev pub takes : Kind → Form → Value → Bool
takes kind.Text form v = is_absent v
takes kind.Comment form v = is_absent v
takes kind.Whole form v = is_whole v
takes kind.Decimal form v = is_decimal v
takes kind.Date form v = is_day v
takes kind.Latitude form v = cond (is_grid form) (is_decimal v) (is_angle v)
takes kind.Longitude form v = cond (is_grid form) (is_decimal v) (is_angle v)

-- the fewest columns that a number takes: its sign, its digits, and a point with no zero before it
abbrev pub number_columns : Units → ℕ
number_columns d =
    sign_columns (is_minus d.units)
    + ((max (size (nat_abs d.units)) d.places - d.places) + point_columns d.places)

-- the letter behind a number of form 1
abbrev pub letter_columns : Kind → ℕ
letter_columns kind.Text = 0
letter_columns kind.Comment = 0
letter_columns kind.Whole = 0
letter_columns kind.Decimal = 0
letter_columns kind.Date = 0
letter_columns kind.Latitude = 1
letter_columns kind.Longitude = 1

-- the fewest columns that a value takes in a field of its kind
abbrev pub columns_for : Kind → Value → ℕ
columns_for k Absent = 0
columns_for k (Whole z) = number_columns (record { units = z; places = 0 })
columns_for k (Decimal d) = number_columns d + letter_columns k
columns_for k (Angle z) = 12
columns_for k (Date d) = 8
columns_for k (Text c) = 0

-- the card as it stands once a field is blank
unfoldable pub blanked_in : Field → List ℕ → List ℕ
blanked_in f s = placed_in f s (replicate (width f) 32)

-- the fields that take a text, and those where it may begin with a blank
abbrev pub takes_text : Kind → Bool
takes_text kind.Text = true
takes_text kind.Comment = true
takes_text kind.Whole = false
takes_text kind.Decimal = false
takes_text kind.Date = false
takes_text kind.Latitude = false
takes_text kind.Longitude = false

abbrev pub is_comment : Kind → Bool
is_comment kind.Text = false
is_comment kind.Comment = true
is_comment kind.Whole = false
is_comment kind.Decimal = false
is_comment kind.Date = false
is_comment kind.Latitude = false
is_comment kind.Longitude = false

-- the label of a code: a code that is not read has none
abbrev pub label_under : Code → List ℕ
label_under (Read k) = label_of k
label_under Passed = []
label_under Unknown = []

unfoldable pub label_on : List ℕ → List ℕ
label_on s = label_under (code_of (take 5 s))

-- other bytes than the label stand in its columns, from column 6
unfoldable pub label_differs : List ℕ → Bool
label_differs s = not (alike (take (length (label_on s)) (drop 5 s)) (label_on s))

abbrev pub is_read : Code → Bool
is_read (Read k) = true
is_read Passed = false
is_read Unknown = false

-- a column lies in one of the fields
unfoldable pub covered : List Field → ℕ → Bool
covered [] c = false
covered (f ∷ fs) c = (leb f.first c && leb c f.last) || covered fs c

-- a column of a card with a read code that lies behind the label and in no field
unfoldable pub is_gap : List ℕ → ℕ → Bool
is_gap s c = is_read (code_of (take 5 s)) && (leb (6 + length (label_on s)) c && not (covered (fields_on s) c))
