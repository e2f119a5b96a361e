-- What an entry agreed to write reads back as the same value, in the same width.
use Prim.Native.Nat.{ℕ, ◌≤◌}
use native.Mathlib.Omega.{arith}
use mathlib.Core.Path.{◌≡◌, refl, sym, ap, subst, ◌∙◌}
use mathlib.Core.List.{List, []}
use mathlib.Core.Bool.{Bool, true, false}
use lib.ListN.{length, replicate, length-replicate}
use borrow.Author.Tests.{ne_eqb}
use Rattle.base_digits.specs.digits.Columns.{agreed, refused, room_of}
use Rattle.value_number.specs.number_entry.Spelling.{decimal_in}
use Rattle.value_number.proofs.number_entry.Back.{number_back}
use Rattle.value_date.proofs.Back.{date_back}
use Rattle.value_coordinate.specs.declared.axes.Axis.{Axis}
use Rattle.value_coordinate.specs.declared.axes.Axis.TheVariants.{Y, X}
use Rattle.value_coordinate.specs.angle.Angles.{angle_of}
use Rattle.value_coordinate.specs.grid.Grid.{grid_of}
use Rattle.value_coordinate.proofs.coordinate_entry.ArcBack.{angle_back}
use Rattle.value_coordinate.proofs.coordinate_entry.GridBack.{grid_back}
use Rattle.value_text.specs.text.Texts.{text_end}
use Rattle.value_text.proofs.text.Back.{PutText, text_back, end_blanks}
use Rattle.base_value.specs.declared.Decimal.{Decimal as DecimalOf}
use Rattle.base_value.specs.declared.Value.{Value}
use Rattle.base_value.specs.declared.Value.TheVariants.{Absent, Whole, Decimal, Angle, Date, Text}
use Rattle.value_field.specs.declared.spelling.Spelling.{Spelling}
use Rattle.value_field.specs.declared.spelling.Spelling.TheVariants as spelled
use Rattle.value_field.specs.spelling.Reading.{text_reading, pushed_left, whole_reading, reading_of, misplaced_in, is_text, text_read}
use Rattle.value_field.specs.writing.Writing.{blanked, no_value_in, whole_in, units_in, day_in, arc_in, grid_entry_in, entry_of, text_entry_of}
use Rattle.value_field.proofs.spelling.Absence.{blank_read}
use Rattle.value_field.proofs.spelling.Standing.{strict_alike, strict_placed, blank_placed}
use Rattle.std.specs.Prelude.{Result, Ok, Option, None, Some}
use Rattle.base_value.specs.declared.Unread.{Unread}
use Rattle.base_refusal.specs.declared.Unwritten.{Unwritten}

-- what t says is v, and t is w columns wide
abbrev pub ReadsBack : (List ℕ → Result Value Unread) → ℕ → Value → List ℕ → Type 0
ReadsBack says w v t = (says t ≡ Ok v) × (length t ≡ w)

pub never : {why : Unwritten} {t : List ℕ} → refused why ≡ agreed t → ⊥
never e = let x : ◌≡◌ {A = ℕ} 0 1 = cc in omega arith

pub room-is : (o : Option (List ℕ)) (t : List ℕ) → room_of o ≡ agreed t → o ≡ Some t
room-is (Some u) t e = let q : u ≡ t = cc in ap Some q
room-is None t e = absurd (never e)

module _ (w : ℕ) (t : List ℕ) where
  blank_back : (k : Spelling) → blanked w ≡ agreed t → ReadsBack (reading_of k) w Absent t
  blank_back k e =
      let q : replicate w 32 ≡ t = cc in
      subst (λ (l : List ℕ). ReadsBack (reading_of k) w Absent l) q (blank_read w k, length-replicate {A = ℕ} w 32)

  nothing_back : (k : Spelling) (v : Value) → no_value_in w v ≡ agreed t → ReadsBack (reading_of k) w v t
  unfolding no_value_in
  nothing_back k Absent e = blank_back k e
  nothing_back k (Whole z) e = absurd (never e)
  nothing_back k (Decimal d) e = absurd (never e)
  nothing_back k (Angle z) e = absurd (never e)
  nothing_back k (Date d) e = absurd (never e)
  nothing_back k (Text c) e = absurd (never e)

  whole_back : (v : Value) → whole_in w v ≡ agreed t → ReadsBack (reading_of spelled.Whole) w v t
  unfolding whole_in reading_of whole_reading
  whole_back Absent e = blank_back spelled.Whole e
  whole_back (Whole z) e =
      let b = number_back false w (record { units = z; places = 0 }) t (λ (h : 1 ≤ 0). absurd (omega arith)) (room-is (decimal_in w (record { units = z; places = 0 })) t e) in
      (ap whole_reading (strict_alike false t _ b.0), b.1)
  whole_back (Decimal d) e = absurd (never e)
  whole_back (Angle z) e = absurd (never e)
  whole_back (Date d) e = absurd (never e)
  whole_back (Text c) e = absurd (never e)

  decimal_back : (v : Value) → units_in w v ≡ agreed t → ReadsBack (reading_of spelled.Decimal) w v t
  unfolding units_in reading_of
  decimal_back Absent e = blank_back spelled.Decimal e
  decimal_back (Whole z) e = absurd (never e)
  decimal_back (Decimal d) e =
      let b = number_back true w d t (λ h. refl) (room-is (decimal_in w d) t e) in
      (strict_alike true t d b.0, b.1)
  decimal_back (Angle z) e = absurd (never e)
  decimal_back (Date d) e = absurd (never e)
  decimal_back (Text c) e = absurd (never e)

  day_back : (v : Value) → day_in w v ≡ agreed t → ReadsBack (reading_of spelled.Date) w v t
  unfolding day_in reading_of
  day_back Absent e = blank_back spelled.Date e
  day_back (Whole z) e = absurd (never e)
  day_back (Decimal d) e = absurd (never e)
  day_back (Angle z) e = absurd (never e)
  day_back (Date d) e = date_back w d t e
  day_back (Text c) e = absurd (never e)

  arc_back : (k : Spelling) (a : Axis) → ((s : List ℕ) → reading_of k s ≡ angle_of a s) → (v : Value) → arc_in a w v ≡ agreed t
      → ReadsBack (reading_of k) w v t
  unfolding arc_in
  arc_back k a q Absent e = blank_back k e
  arc_back k a q (Whole z) e = absurd (never e)
  arc_back k a q (Decimal d) e = absurd (never e)
  arc_back k a q (Angle z) e = let b = angle_back a w z t e in (q t ∙ b.0, b.1)
  arc_back k a q (Date d) e = absurd (never e)
  arc_back k a q (Text c) e = absurd (never e)

  grid_entry_back : (k : Spelling) (a : Axis) → ((s : List ℕ) → reading_of k s ≡ grid_of a s) → (v : Value)
      → grid_entry_in a w v ≡ agreed t → ReadsBack (reading_of k) w v t
  unfolding grid_entry_in
  grid_entry_back k a q Absent e = blank_back k e
  grid_entry_back k a q (Whole z) e = absurd (never e)
  grid_entry_back k a q (Decimal d) e = let b = grid_back a w d t e in (q t ∙ b.0, b.1)
  grid_entry_back k a q (Angle z) e = absurd (never e)
  grid_entry_back k a q (Date d) e = absurd (never e)
  grid_entry_back k a q (Text c) e = absurd (never e)

  -- a value that was written is read
  pub value_back : (k : Spelling) (v : Value) → entry_of k w v ≡ agreed t → ReadsBack (reading_of k) w v t
  unfolding entry_of reading_of
  value_back spelled.Text v e = nothing_back spelled.Text v e
  value_back spelled.Comment v e = nothing_back spelled.Comment v e
  value_back spelled.Whole v e = whole_back v e
  value_back spelled.Decimal v e = decimal_back v e
  value_back spelled.Date v e = day_back v e
  value_back spelled.Latitude v e = arc_back spelled.Latitude Y (λ s. refl) v e
  value_back spelled.Longitude v e = arc_back spelled.Longitude X (λ s. refl) v e
  value_back spelled.Northing v e = grid_entry_back spelled.Northing Y (λ s. refl) v e
  value_back spelled.Easting v e = grid_entry_back spelled.Easting X (λ s. refl) v e

-- a value that was written is not misplaced
module _ (w : ℕ) (t : List ℕ) where
  blank_left : blanked w ≡ agreed t → pushed_left t ≡ false
  unfolding text_end
  blank_left e = blank_placed t (let q : replicate w 32 ≡ t = cc in ap text_end (sym q) ∙ end_blanks [] w)

  decimal_left : (point : Bool) (d : DecimalOf) → (1 ≤ d.places → point ≡ true) → room_of (decimal_in w d) ≡ agreed t → pushed_left t ≡ false
  decimal_left point d l e = strict_placed point t d (number_back point w d t l (room-is (decimal_in w d) t e)).0

  whole_left : (v : Value) → whole_in w v ≡ agreed t → pushed_left t ≡ false
  unfolding whole_in
  whole_left Absent e = blank_left e
  whole_left (Whole z) e = decimal_left false (record { units = z; places = 0 }) (λ (h : 1 ≤ 0). absurd (omega arith)) e
  whole_left (Decimal d) e = absurd (never e)
  whole_left (Angle z) e = absurd (never e)
  whole_left (Date d) e = absurd (never e)
  whole_left (Text c) e = absurd (never e)

  units_left : (v : Value) → units_in w v ≡ agreed t → pushed_left t ≡ false
  unfolding units_in
  units_left Absent e = blank_left e
  units_left (Whole z) e = absurd (never e)
  units_left (Decimal d) e = decimal_left true d (λ h. refl) e
  units_left (Angle z) e = absurd (never e)
  units_left (Date d) e = absurd (never e)
  units_left (Text c) e = absurd (never e)

  pub value_placed : (k : Spelling) (v : Value) → entry_of k w v ≡ agreed t → misplaced_in k t ≡ false
  unfolding entry_of misplaced_in
  value_placed spelled.Text v e = refl
  value_placed spelled.Comment v e = refl
  value_placed spelled.Whole v e = whole_left v e
  value_placed spelled.Decimal v e = units_left v e
  value_placed spelled.Date v e = refl
  value_placed spelled.Latitude v e = refl
  value_placed spelled.Longitude v e = refl
  value_placed spelled.Northing v e = refl
  value_placed spelled.Easting v e = refl

-- a text that was put is the text handed back
put_read : (k : Spelling) (lead : Bool) → ((s : List ℕ) → reading_of k s ≡ text_reading lead s) → (w : ℕ) (x t : List ℕ) → PutText lead w x t
    → (text_read k t ≡ x) × (length t ≡ w)
unfolding text_read text_reading is_text
put_read k lead q w x t p = (rw (q t, ne_eqb (text_end t) 0 p.some, p.front) p.text, p.width)

-- and is no misplaced number
pub text-placed : (k : Spelling) (w : ℕ) (x t : List ℕ) → text_entry_of k w x ≡ agreed t → misplaced_in k t ≡ false
unfolding text_entry_of misplaced_in
text-placed spelled.Text w x t e = refl
text-placed spelled.Comment w x t e = refl
text-placed spelled.Whole w x t e = absurd (never e)
text-placed spelled.Decimal w x t e = absurd (never e)
text-placed spelled.Date w x t e = refl
text-placed spelled.Latitude w x t e = refl
text-placed spelled.Longitude w x t e = refl
text-placed spelled.Northing w x t e = refl
text-placed spelled.Easting w x t e = refl

pub text-read_back : (k : Spelling) (w : ℕ) (x t : List ℕ) → text_entry_of k w x ≡ agreed t → (text_read k t ≡ x) × (length t ≡ w)
unfolding text_entry_of reading_of
text-read_back spelled.Text w x t e = put_read spelled.Text false (λ s. refl) w x t (text_back false w x t e)
text-read_back spelled.Comment w x t e = put_read spelled.Comment true (λ s. refl) w x t (text_back true w x t e)
text-read_back spelled.Whole w x t e = absurd (never e)
text-read_back spelled.Decimal w x t e = absurd (never e)
text-read_back spelled.Date w x t e = absurd (never e)
text-read_back spelled.Latitude w x t e = absurd (never e)
text-read_back spelled.Longitude w x t e = absurd (never e)
text-read_back spelled.Northing w x t e = absurd (never e)
text-read_back spelled.Easting w x t e = absurd (never e)
