-- Blank columns are absent whatever their spelling, and nothing else is: blank is never zero.
use Prim.Native.Nat.{ℕ, ◌-◌}
use native.Mathlib.Omega.{arith}
use native.Mathlib.Nat.{sub-zero}
use mathlib.Core.Path.{◌≡◌, refl, sym, ap, ap₂, ◌∙◌}
use mathlib.Core.List.{List, [], ◌∷◌, ◌++◌}
use mathlib.Core.Bool.{Bool, true, false, cond, ◌||◌, ◌&&◌, not}
use lib.ListN.{length, get_or, take, replicate, length-replicate, take-append-drop}
use lib.Dec.{eqb, leb, ltb}
use borrow.Author.Tests.{eq-eqb, eqb-true}
use Rattle.base_digits.specs.digits.Figures.{blanks, unpadded, value_from, limit}
use Rattle.base_digits.proofs.digits.Walk.{blank_all, all_blank, unpadded-none}
use Rattle.value_number.specs.number.Reading.{all_digits, figures_of, held_of, number_of, sign_of}
use Rattle.base_digits.specs.signs.Signs.{signed_of}
use Rattle.value_date.specs.Calendar.{is_date}
use Rattle.value_date.specs.Dates.{date_of, dated_of, parts_of}
use Rattle.value_coordinate.specs.declared.axes.Axis.{Axis}
use Rattle.value_coordinate.specs.declared.axes.Axis.TheVariants.{Y, X}
use Rattle.value_coordinate.specs.angle.Angles.{units_of, parts_of as parts_in, arc_of, is_spelled, angled_of, angle_of}
use Rattle.value_coordinate.specs.axes.Axes.{bound_of, letter_of}
use Rattle.value_coordinate.specs.declared.angle.Parts.{Parts}
use Rattle.value_coordinate.specs.grid.Grid.{present_of, grid_of}
use Rattle.value_text.specs.text.Texts.{text_end, text_of, leading_blank}
use Rattle.value_text.proofs.text.Back.{end_blanks}
use Rattle.value_text.proofs.text.Agreed.{blank_behind}
use Rattle.base_value.specs.declared.Value.TheVariants.{Absent, Whole, Decimal, Angle, Date, Text}
use Rattle.base_value.specs.declared.Unread.TheVariants.{Malformed, OutOfRange}
use Rattle.value_field.specs.declared.spelling.Spelling.{Spelling}
use Rattle.value_field.specs.declared.spelling.Spelling.TheVariants as spelled
use Rattle.value_field.specs.spelling.Reading.{text_reading, number_in, whole_reading, reading_of}
use Rattle.std.specs.Prelude.{Result, Ok, Err, Option, Some, None}
use Rattle.base_value.specs.declared.Unread.{Unread}
use Rattle.base_value.specs.declared.Value.{Value}
use Rattle.value_number.specs.declared.number.Figures.{Figures}

-- no number is absent where there is anything
held_present : (minus : Bool) (f : Option Figures) → held_of minus f ≡ Ok Absent → ⊥
unfolding held_of
held_present minus None e = let x : ◌≡◌ {A = ℕ} 0 1 = cc in omega arith
held_present minus (Some f) e = go (ltb f.units limit) e
  where
    go : (t : Bool) → cond t (Ok (Decimal (record { units = signed_of minus f.units; places = f.places }))) (Err OutOfRange) ≡ Ok Absent → ⊥
    go true h = let x : ◌≡◌ {A = ℕ} 0 1 = cc in omega arith
    go false h = let x : ◌≡◌ {A = ℕ} 0 1 = cc in omega arith

absent_blank : (point : Bool) (s : List ℕ) → number_of point s ≡ Ok Absent → unpadded s ≡ []
unfolding number_of sign_of
absent_blank point s e = go (unpadded s) e
  where
    test : (b : ℕ) (t : List ℕ) (x y : Bool)
        → cond x (held_of true (figures_of point t)) (cond y (held_of false (figures_of point t)) (held_of false (figures_of point (b ∷ t)))) ≡ Ok Absent
        → b ∷ t ≡ []
    test b t true y h = absurd (held_present true (figures_of point t) h)
    test b t false true h = absurd (held_present false (figures_of point t) h)
    test b t false false h = absurd (held_present false (figures_of point (b ∷ t)) h)

    go : (v : List ℕ) → sign_of point v ≡ Ok Absent → v ≡ []
    go [] h = refl
    go (b ∷ t) h = test b t (eqb b 45) (eqb b 43) h

-- blank columns
abbrev pub blank_in : ℕ → List ℕ
blank_in w = replicate w 32

pub zero_one : ◌≡◌ {A = ℕ} 0 1 → ⊥
zero_one h = omega arith

-- what a blank field's columns say
module _ (w : ℕ) where
  full : eqb (blanks (blank_in w)) (length (blank_in w)) ≡ true
  full = eq-eqb (blanks (blank_in w)) (length (blank_in w)) (blank_all w ∙ sym (length-replicate {A = ℕ} w 32))

  no_text : text_end (blank_in w) ≡ 0
  unfolding text_end
  no_text = end_blanks [] w

  text_blank : (lead : Bool) → text_reading lead (blank_in w) ≡ Ok Absent
  unfolding text_reading
  text_blank lead = rw no_text

  number_blank : (point : Bool) → number_in point (blank_in w) ≡ Ok Absent
  unfolding number_in text_of number_of unpadded blanks sign_of
  number_blank point = rw no_text

  date_blank : date_of (blank_in w) ≡ Ok Absent
  unfolding date_of
  date_blank = rw full

  angle_blank : (a : Axis) → angle_of a (blank_in w) ≡ Ok Absent
  unfolding angle_of
  angle_blank a = rw full

  grid_blank : (a : Axis) → grid_of a (blank_in w) ≡ Ok Absent
  unfolding grid_of
  grid_blank a = rw full

  pub blank_read : (k : Spelling) → reading_of k (blank_in w) ≡ Ok Absent
  unfolding reading_of whole_reading
  blank_read spelled.Text = text_blank false
  blank_read spelled.Comment = text_blank true
  blank_read spelled.Whole = ap whole_reading (number_blank false)
  blank_read spelled.Decimal = number_blank true
  blank_read spelled.Date = date_blank
  blank_read spelled.Latitude = angle_blank Y
  blank_read spelled.Longitude = angle_blank X
  blank_read spelled.Northing = grid_blank Y
  blank_read spelled.Easting = grid_blank X

-- nothing else is absent
module _ (s : List ℕ) where
  nothing-there : text_end s ≡ 0 → s ≡ blank_in (length s)
  nothing-there z = rw (z, sub-zero (length s)) at (blank_behind s)

  text_absent : (lead : Bool) → text_reading lead s ≡ Ok Absent → s ≡ blank_in (length s)
  unfolding text_reading
  text_absent lead e = go (eqb (text_end s) 0) refl (lead || not (leading_blank s)) e
    where
      go : (b : Bool) → eqb (text_end s) 0 ≡ b → (c : Bool)
          → cond b (Ok Absent) (cond c (Ok (Text (record { first = 1; last = text_end s }))) (Err Malformed)) ≡ Ok Absent
          → s ≡ blank_in (length s)
      go true q c h = nothing-there (eqb-true (text_end s) 0 q)
      go false q true h = let x : ◌≡◌ {A = ℕ} 0 1 = cc in absurd (omega arith)
      go false q false h = let x : ◌≡◌ {A = ℕ} 0 1 = cc in absurd (omega arith)

  whole_absent : (r : Result Value Unread) → whole_reading r ≡ Ok Absent → r ≡ Ok Absent
  unfolding whole_reading
  whole_absent (Ok Absent) e = refl
  whole_absent (Ok (Whole z)) e = cc
  whole_absent (Ok (Decimal d)) e = cc
  whole_absent (Ok (Angle z)) e = cc
  whole_absent (Ok (Date d)) e = cc
  whole_absent (Ok (Text c)) e = cc
  whole_absent (Err Malformed) e = cc
  whole_absent (Err OutOfRange) e = cc

  number-none : (point : Bool) → number_in point s ≡ Ok Absent → s ≡ blank_in (length s)
  unfolding number_in text_of text_end
  number-none point e =
      let n = take (text_end s) s in
      let b = all_blank n (unpadded-none n (absent_blank point n e)) in
      let k = length s - text_end s in
      let all : s ≡ blank_in (length n) ++ blank_in k = sym (take-append-drop (text_end s) s) ∙ ap₂ (λ (x y : List ℕ). x ++ y) b (blank_behind s) in
      nothing-there (ap text_end all ∙ end_blanks (blank_in (length n)) k ∙ end_blanks [] (length n))

  -- a date, an angle or a grid coordinate is absent only by the test that all is blank
  blank_test : {A : Type 0} (none odd held : A) (c : Bool) → (odd ≡ none → ⊥) → (held ≡ none → ⊥)
      → cond (eqb (blanks s) (length s)) none (cond c held odd) ≡ none → s ≡ blank_in (length s)
  blank_test {A} none odd held c n m e = go (eqb (blanks s) (length s)) refl c e
    where
      go : (b : Bool) → eqb (blanks s) (length s) ≡ b → (c : Bool) → cond b none (cond c held odd) ≡ none → s ≡ blank_in (length s)
      go true q c h = all_blank s (eqb-true (blanks s) (length s) q)
      go false q true h = absurd (m h)
      go false q false h = absurd (n h)

  date-none : date_of s ≡ Ok Absent → s ≡ blank_in (length s)
  unfolding date_of dated_of
  date-none e = blank_test (Ok Absent) (Err Malformed) (dated_of (parts_of (value_from 0 s))) (eqb (length s) 8 && all_digits s) (λ h. zero_one cc) (go (is_date (parts_of (value_from 0 s)))) e
    where
      go : (b : Bool) → cond b (Ok (Date (parts_of (value_from 0 s)))) (Err OutOfRange) ≡ Ok Absent → ⊥
      go true h = zero_one cc
      go false h = zero_one cc

  angled : (a : Axis) (m : Bool) (p : Parts) → angled_of a m p ≡ Ok Absent → ⊥
  unfolding angled_of
  angled a m p h = go ((ltb (units_of p.minutes) 60 && ltb (units_of p.seconds) 60) && leb (arc_of p) (bound_of a)) h
    where
      go : (b : Bool) → cond b (Ok (Angle (signed_of m (arc_of p)))) (Err OutOfRange) ≡ Ok Absent → ⊥
      go true h = zero_one cc
      go false h = zero_one cc

  angle_none : (a : Axis) → angle_of a s ≡ Ok Absent → s ≡ blank_in (length s)
  unfolding angle_of
  angle_none a e =
      let minus = eqb (get_or s 11 0) (letter_of a true) in
      blank_test (Ok Absent) (Err Malformed) (angled_of a minus (parts_in s)) (eqb (length s) 12 && is_spelled a (parts_in s) (get_or s 7 0) (get_or s 11 0)) (λ h. zero_one cc) (angled a minus (parts_in s)) e

  present : (r : Result Value Unread) → present_of r ≡ Ok Absent → ⊥
  unfolding present_of
  present (Ok Absent) h = zero_one cc
  present (Ok (Whole z)) h = zero_one cc
  present (Ok (Decimal d)) h = zero_one cc
  present (Ok (Angle z)) h = zero_one cc
  present (Ok (Date d)) h = zero_one cc
  present (Ok (Text c)) h = zero_one cc
  present (Err Malformed) h = zero_one cc
  present (Err OutOfRange) h = zero_one cc

  grid_none : (a : Axis) → grid_of a s ≡ Ok Absent → s ≡ blank_in (length s)
  unfolding grid_of
  grid_none a e =
      let n = number_of true (take (length s - 1) s) in
      blank_test (Ok Absent) (Err Malformed) (present_of n) (eqb (get_or s (length s - 1) 0) (letter_of a false)) (λ h. zero_one cc) (present n) e

  pub absent_only : (k : Spelling) → reading_of k s ≡ Ok Absent → s ≡ blank_in (length s)
  unfolding reading_of
  absent_only spelled.Text e = text_absent false e
  absent_only spelled.Comment e = text_absent true e
  absent_only spelled.Whole e = number-none false (whole_absent (number_in false s) e)
  absent_only spelled.Decimal e = number-none true e
  absent_only spelled.Date e = date-none e
  absent_only spelled.Latitude e = angle_none Y e
  absent_only spelled.Longitude e = angle_none X e
  absent_only spelled.Northing e = grid_none Y e
  absent_only spelled.Easting e = grid_none X e
