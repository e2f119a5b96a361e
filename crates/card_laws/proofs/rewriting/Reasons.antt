-- Why an entry is refused: never because all is done, and a text offered as a value always for its kind.
use Prim.Native.Nat.{ℕ, ◌-◌}
use mathlib.Core.Path.{◌≡◌, refl}
use mathlib.Core.List.{List, [], ◌∷◌, ◌++◌}
use mathlib.Core.Bool.{Bool, true, false, cond, not}
use lib.ListN.{length, replicate}
use lib.Dec.{eqb, leb}
use lib.IntN.{nat_abs}
use Rattle.base_refusal.specs.declared.Unwritten.TheVariants as unwritten
use Rattle.base_digits.specs.digits.Digits.{digits}
use Rattle.base_digits.specs.digits.Columns.{Entry, agreed, refused, room_of}
use Rattle.base_digits.specs.signs.Signs.{is_minus}
use Rattle.value_number.specs.number_entry.Spelling.{plain, decimal_in}
use Rattle.value_date.specs.Calendar.{is_date}
use Rattle.value_date.specs.Dates.{number_of, date_in}
use Rattle.value_coordinate.specs.declared.axes.Axis.{Axis}
use Rattle.value_coordinate.specs.declared.axes.Axis.TheVariants.{Y, X}
use Rattle.value_coordinate.specs.coordinate_entry.Plotting.{figures_in, angle_in, lettered, grid_in}
use Rattle.value_coordinate.specs.axes.Axes.{bound_of, letter_of}
use Rattle.value_text.specs.text.Texts.{printable, well_formed, text_in}
use Rattle.base_value.specs.declared.Columns.{Columns}
use Rattle.base_value.specs.declared.Value.{Value}
use Rattle.base_value.specs.declared.Value.TheVariants.{Absent, Whole, Decimal, Angle, Date, Text}
use Rattle.value_field.specs.declared.spelling.Spelling.{Spelling}
use Rattle.value_field.specs.declared.spelling.Spelling.TheVariants as spelled
use Rattle.value_field.specs.writing.Writing.{no_value_in, whole_in, units_in, day_in, arc_in, grid_entry_in, entry_of, text_entry_of}
use Rattle.std.specs.Prelude.{Option, None, Some}

-- a refusal's reason is never that all is done
abbrev pub is_done : Entry → Bool
is_done (agreed t) = false
is_done (refused unwritten.Unprintable) = false
is_done (refused unwritten.Malformed) = false
is_done (refused unwritten.OutOfRange) = false
is_done (refused unwritten.OtherKind) = false
is_done (refused unwritten.NoRoom) = false

tested : (a b : Bool) (t : List ℕ)
    → is_done (cond a (cond b (agreed t) (refused unwritten.NoRoom)) (refused unwritten.OutOfRange)) ≡ false
tested true true t = refl
tested true false t = refl
tested false b t = refl

text_tested : (p f r : Bool) (t : List ℕ)
    → is_done (cond (not p) (refused unwritten.Unprintable)
    (cond (not f) (refused unwritten.Malformed) (cond r (agreed t) (refused unwritten.NoRoom)))) ≡ false
text_tested false f r t = refl
text_tested true false r t = refl
text_tested true true true t = refl
text_tested true true false t = refl

room_reason : (o : Option (List ℕ)) → is_done (room_of o) ≡ false
room_reason (Some t) = refl
room_reason None = refl

letter_reason : (b : Bool) (c : ℕ) (o : Option (List ℕ)) → is_done (cond b (refused unwritten.NoRoom) (lettered c o)) ≡ false
letter_reason true c o = refl
letter_reason false c (Some t) = refl
letter_reason false c None = refl

module _ (w : ℕ) where
  no_value_reason : (v : Value) → is_done (no_value_in w v) ≡ false
  unfolding no_value_in
  no_value_reason Absent = refl
  no_value_reason (Whole z) = refl
  no_value_reason (Decimal d) = refl
  no_value_reason (Angle z) = refl
  no_value_reason (Date d) = refl
  no_value_reason (Text c) = refl

  whole_reason : (v : Value) → is_done (whole_in w v) ≡ false
  unfolding whole_in
  whole_reason Absent = refl
  whole_reason (Whole z) = room_reason (decimal_in w (record { units = z; places = 0 }))
  whole_reason (Decimal d) = refl
  whole_reason (Angle z) = refl
  whole_reason (Date d) = refl
  whole_reason (Text c) = refl

  units_reason : (v : Value) → is_done (units_in w v) ≡ false
  unfolding units_in
  units_reason Absent = refl
  units_reason (Whole z) = refl
  units_reason (Decimal d) = room_reason (decimal_in w d)
  units_reason (Angle z) = refl
  units_reason (Date d) = refl
  units_reason (Text c) = refl

  day_reason : (v : Value) → is_done (day_in w v) ≡ false
  unfolding day_in date_in
  day_reason Absent = refl
  day_reason (Whole z) = refl
  day_reason (Decimal d) = refl
  day_reason (Angle z) = refl
  day_reason (Date d) = tested (is_date d) (eqb w 8) (digits 8 (number_of d))
  day_reason (Text c) = refl

  arc_reason : (a : Axis) (v : Value) → is_done (arc_in a w v) ≡ false
  unfolding arc_in angle_in
  arc_reason a Absent = refl
  arc_reason a (Whole z) = refl
  arc_reason a (Decimal d) = refl
  arc_reason a (Angle z) =
      tested (leb (nat_abs z) (bound_of a)) (eqb w 12) (plain 7 3 (figures_in (nat_abs z)) ++ (letter_of a (is_minus z) ∷ []))
  arc_reason a (Date d) = refl
  arc_reason a (Text c) = refl

  grid_reason : (a : Axis) (v : Value) → is_done (grid_entry_in a w v) ≡ false
  unfolding grid_entry_in grid_in
  grid_reason a Absent = refl
  grid_reason a (Whole z) = refl
  grid_reason a (Decimal d) = letter_reason (eqb w 0) (letter_of a false) (decimal_in (w - 1) d)
  grid_reason a (Angle z) = refl
  grid_reason a (Date d) = refl
  grid_reason a (Text c) = refl

  pub value_reason : (k : Spelling) (v : Value) → is_done (entry_of k w v) ≡ false
  unfolding entry_of
  value_reason spelled.Text v = no_value_reason v
  value_reason spelled.Comment v = no_value_reason v
  value_reason spelled.Whole v = whole_reason v
  value_reason spelled.Decimal v = units_reason v
  value_reason spelled.Date v = day_reason v
  value_reason spelled.Latitude v = arc_reason Y v
  value_reason spelled.Longitude v = arc_reason X v
  value_reason spelled.Northing v = grid_reason Y v
  value_reason spelled.Easting v = grid_reason X v

  text_in_reason : (lead : Bool) (x : List ℕ) → is_done (text_in lead w x) ≡ false
  unfolding text_in
  text_in_reason lead x =
      text_tested (printable x) (well_formed lead x) (leb (length x) w) (x ++ replicate (w - length x) 32)

  pub text_reason : (k : Spelling) (x : List ℕ) → is_done (text_entry_of k w x) ≡ false
  unfolding text_entry_of
  text_reason spelled.Text x = text_in_reason false x
  text_reason spelled.Comment x = text_in_reason true x
  text_reason spelled.Whole x = refl
  text_reason spelled.Decimal x = refl
  text_reason spelled.Date x = refl
  text_reason spelled.Latitude x = refl
  text_reason spelled.Longitude x = refl
  text_reason spelled.Northing x = refl
  text_reason spelled.Easting x = refl

-- no spelling takes a text as a value
pub text_no_value : (k : Spelling) (w : ℕ) (c : Columns) → entry_of k w (Text c) ≡ refused unwritten.OtherKind
unfolding entry_of no_value_in whole_in units_in day_in arc_in grid_entry_in
text_no_value spelled.Text w c = refl
text_no_value spelled.Comment w c = refl
text_no_value spelled.Whole w c = refl
text_no_value spelled.Decimal w c = refl
text_no_value spelled.Date w c = refl
text_no_value spelled.Latitude w c = refl
text_no_value spelled.Longitude w c = refl
text_no_value spelled.Northing w c = refl
text_no_value spelled.Easting w c = refl
