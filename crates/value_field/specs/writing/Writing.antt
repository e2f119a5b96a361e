-- What an entry leaves in the columns of one field, for each of the paper's spellings.
use Rattle.std.specs.Prelude.{ℕ, List, true, false, length, replicate, Result, Ok, Err}
use Rattle.base_refusal.specs.declared.Unwritten.TheVariants.{Malformed as Odd, OutOfRange as Outside, OtherKind}
use Rattle.base_digits.specs.digits.Columns.{Entry, agreed, refused, room_of}
use Rattle.value_number.specs.number_entry.Spelling.{decimal_in}
use Rattle.value_date.specs.Dates.{date_in}
use Rattle.value_coordinate.specs.declared.axes.Axis.{Axis}
use Rattle.value_coordinate.specs.declared.axes.Axis.TheVariants.{Y, X}
use Rattle.value_coordinate.specs.coordinate_entry.Plotting.{angle_in, grid_in}
use Rattle.value_text.specs.text.Texts.{text_of, text_in}
use Rattle.base_value.specs.declared.Value.{Value}
use Rattle.base_value.specs.declared.Value.TheVariants.{Absent, Whole, Decimal, Angle, Date, Text}
use Rattle.base_value.specs.declared.Unread.TheVariants.{Malformed, OutOfRange}
use Rattle.value_field.specs.declared.spelling.Spelling.{Spelling}
use Rattle.value_field.specs.declared.spelling.Spelling.TheVariants as spelled
use Rattle.value_field.specs.spelling.Reading.{reading_of}
use Rattle.base_value.specs.declared.Unread.{Unread}

-- an absent value blanks the field
abbrev pub blanked : ℕ → Entry
blanked w = agreed (replicate w 32)

-- a text goes in as bytes; as a value it is refused
unfoldable pub no_value_in : ℕ → Value → Entry
no_value_in w Absent = blanked w
no_value_in w (Whole z) = refused OtherKind
no_value_in w (Decimal d) = refused OtherKind
no_value_in w (Angle z) = refused OtherKind
no_value_in w (Date d) = refused OtherKind
no_value_in w (Text c) = refused OtherKind

-- a whole number is written without places
unfoldable pub whole_in : ℕ → Value → Entry
whole_in w Absent = blanked w
whole_in w (Whole z) = room_of (decimal_in w (record { units = z; places = 0 }))
whole_in w (Decimal d) = refused OtherKind
whole_in w (Angle z) = refused OtherKind
whole_in w (Date d) = refused OtherKind
whole_in w (Text c) = refused OtherKind

unfoldable pub units_in : ℕ → Value → Entry
units_in w Absent = blanked w
units_in w (Whole z) = refused OtherKind
units_in w (Decimal d) = room_of (decimal_in w d)
units_in w (Angle z) = refused OtherKind
units_in w (Date d) = refused OtherKind
units_in w (Text c) = refused OtherKind

unfoldable pub day_in : ℕ → Value → Entry
day_in w Absent = blanked w
day_in w (Whole z) = refused OtherKind
day_in w (Decimal d) = refused OtherKind
day_in w (Angle z) = refused OtherKind
day_in w (Date d) = date_in w d
day_in w (Text c) = refused OtherKind

unfoldable pub arc_in : Axis → ℕ → Value → Entry
arc_in a w Absent = blanked w
arc_in a w (Whole z) = refused OtherKind
arc_in a w (Decimal d) = refused OtherKind
arc_in a w (Angle z) = angle_in a w z
arc_in a w (Date d) = refused OtherKind
arc_in a w (Text c) = refused OtherKind

unfoldable pub grid_entry_in : Axis → ℕ → Value → Entry
grid_entry_in a w Absent = blanked w
grid_entry_in a w (Whole z) = refused OtherKind
grid_entry_in a w (Decimal d) = grid_in a w d
grid_entry_in a w (Angle z) = refused OtherKind
grid_entry_in a w (Date d) = refused OtherKind
grid_entry_in a w (Text c) = refused OtherKind

-- a value in the w columns of a field
unfoldable pub entry_of : Spelling → ℕ → Value → Entry
entry_of spelled.Text w v = no_value_in w v
entry_of spelled.Comment w v = no_value_in w v
entry_of spelled.Whole w v = whole_in w v
entry_of spelled.Decimal w v = units_in w v
entry_of spelled.Date w v = day_in w v
entry_of spelled.Latitude w v = arc_in Y w v
entry_of spelled.Longitude w v = arc_in X w v
entry_of spelled.Northing w v = grid_entry_in Y w v
entry_of spelled.Easting w v = grid_entry_in X w v

-- a text in the w columns of a field
unfoldable pub text_entry_of : Spelling → ℕ → List ℕ → Entry
text_entry_of spelled.Text w t = text_in false w t
text_entry_of spelled.Comment w t = text_in true w t
text_entry_of spelled.Whole w t = refused OtherKind
text_entry_of spelled.Decimal w t = refused OtherKind
text_entry_of spelled.Date w t = refused OtherKind
text_entry_of spelled.Latitude w t = refused OtherKind
text_entry_of spelled.Longitude w t = refused OtherKind
text_entry_of spelled.Northing w t = refused OtherKind
text_entry_of spelled.Easting w t = refused OtherKind

-- what was read, as an entry into the same columns
unfoldable pub again_in : Spelling → List ℕ → Result Value Unread → Entry
again_in k s (Err Malformed) = refused Odd
again_in k s (Err OutOfRange) = refused Outside
again_in k s (Ok Absent) = entry_of k (length s) Absent
again_in k s (Ok (Whole z)) = entry_of k (length s) (Whole z)
again_in k s (Ok (Decimal d)) = entry_of k (length s) (Decimal d)
again_in k s (Ok (Angle z)) = entry_of k (length s) (Angle z)
again_in k s (Ok (Date d)) = entry_of k (length s) (Date d)
again_in k s (Ok (Text c)) = text_entry_of k (length s) (text_of s)

-- the columns of a field, rewritten
unfoldable pub rewritten_of : Spelling → List ℕ → Entry
rewritten_of k s = again_in k s (reading_of k s)
