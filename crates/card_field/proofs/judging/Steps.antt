-- What each way through judging a field finds.
use Prim.Native.Nat.{ℕ, ◌+◌, ◌-◌, ◌≤◌, min}
use native.Mathlib.Omega.{arith}
use mathlib.Core.Path.{◌≡◌, refl, ap, ◌∙◌}
use mathlib.Core.List.{List}
use mathlib.Core.Bool.{Bool, true, false, cond, ◌||◌, not}
use lib.ListN.{length, take, drop, length-take}
use lib.Dec.{eqb}
use lib.IntN.{ℤ}
use Rattle.value_date.specs.Dates.{date_of}
use Rattle.value_coordinate.specs.declared.axes.Axis.TheVariants.{Y, X}
use Rattle.value_coordinate.specs.angle.Angles.{angle_of}
use Rattle.value_coordinate.specs.grid.Grid.{grid_of}
use Rattle.value_text.specs.text.Texts.{text_end, leading_blank}
use Rattle.value_text.proofs.text.Agreed.{end_le}
use Rattle.base_value.specs.declared.Columns.{Columns}
use Rattle.base_value.specs.declared.Value.{Value}
use Rattle.base_value.specs.declared.Value.TheVariants as value
use Rattle.base_value.specs.declared.Unread.TheVariants as unread
use Rattle.value_field.specs.declared.spelling.Spelling.{Spelling}
use Rattle.value_field.specs.declared.spelling.Spelling.TheVariants as spelled
use Rattle.value_field.specs.spelling.Reading.{text_reading, number_in, whole_reading, reading_of, misplaced_in}
use Rattle.value_field.proofs.spelling.OneKind.{OfKind, number_in_kind, date_kind, angle_kind, grid_kind}
use Rattle.format_layout.specs.declared.Field.{Field}
use Rattle.format_layout.specs.declared.Form.{Form}
use Rattle.format_layout.specs.declared.Kind.{Kind}
use Rattle.format_layout.specs.declared.Range.{Range}
use Rattle.format_layout.specs.ranges.Ranges.{in_range}
use Rattle.card_field.specs.needing.Needs.{columns_of, needed_on}
use Rattle.card_field.specs.judging.Fields.{read_last, value_of, held_of, spelling_of, judged_of, misplaced_on}
use Rattle.std.specs.Prelude.{Result, Ok, Err}
use Rattle.base_value.specs.declared.Unread.{Unread}

-- a text that was read ends in its columns
module _ (s : List ℕ) where
  none : {n : ℕ} → n ≡ 0 → n ≤ length s
  none h = omega arith

  whole-last : read_last (whole_reading (number_in false s)) ≤ length s
  unfolding whole_reading
  whole-last = none (number_in_kind false s (λ r. read_last (whole_reading r) ≡ 0) refl (λ d. refl) refl refl)

  kind_last : {A : Type 0} (kind : A → Value) (r : Result Value Unread) → OfKind kind r → ((x : A) → read_last (Ok (kind x)) ≡ 0) → read_last r ≤ length s
  kind_last kind r of-kind h = none (of-kind (λ x. read_last x ≡ 0) refl h refl refl)

  text-last : (lead : Bool) → read_last (text_reading lead s) ≤ length s
  unfolding text_reading
  text-last lead = go (eqb (text_end s) 0) (lead || not (leading_blank s))
    where
      go : (b c : Bool)
          → read_last (cond b (Ok value.Absent) (cond c (Ok (value.Text (record { first = 1; last = text_end s }))) (Err unread.Malformed))) ≤ length s
      go true c = omega arith
      go false true = end_le s
      go false false = omega arith

  pub read-last : (k : Spelling) → read_last (reading_of k s) ≤ length s
  unfolding reading_of
  read-last spelled.Text = text-last false
  read-last spelled.Comment = text-last true
  read-last spelled.Whole = whole-last
  read-last spelled.Decimal = kind_last value.Decimal (number_in true s) (number_in_kind true s) (λ d. refl)
  read-last spelled.Date = kind_last value.Date (date_of s) (date_kind s) (λ d. refl)
  read-last spelled.Latitude = kind_last value.Angle (angle_of Y s) (angle_kind Y s) (λ z. refl)
  read-last spelled.Longitude = kind_last value.Angle (angle_of X s) (angle_kind X s) (λ z. refl)
  read-last spelled.Northing = kind_last value.Decimal (grid_of Y s) (grid_kind Y s) (λ d. refl)
  read-last spelled.Easting = kind_last value.Decimal (grid_of X s) (grid_kind X s) (λ d. refl)

-- a value held against need and range
module _ (needed : Bool) (f : Field) (v : Value) where
  pub value_missing : v ≡ value.Absent → needed ≡ true → value_of needed f v ≡ Err 11
  unfolding value_of
  value_missing q h = rw (q, h)

  pub value_absent : v ≡ value.Absent → needed ≡ false → value_of needed f v ≡ Ok value.Absent
  unfolding value_of
  value_absent q h = rw (q, h)

  module _ (z y : ℤ) (q : v ≡ value.Whole z) (e : y ≡ z) (g : Range) (r : g ≡ f.range) where
    pub value_within : in_range g y ≡ true → value_of needed f v ≡ Ok (value.Whole y)
    unfolding value_of
    value_within h = rw (q, ← e, ← r, h)

    pub value_outside : in_range g y ≡ false → value_of needed f v ≡ Err 10
    unfolding value_of
    value_outside h = rw (q, ← e, ← r, h)

  pub value_text : (c : Columns) → v ≡ value.Text c → (first : ℕ) → first ≡ f.first
      → value_of needed f v ≡ Ok (value.Text (record { first = first; last = first - 1 + c.last }))
  unfolding value_of
  value_text c q first e = rw (q, ← e)

-- a field's columns are no more than a card has
pub columns-few : (s t : List ℕ) (first last : ℕ) → last ≤ 80 → t ≡ take (last - (first - 1)) (drop (first - 1) s) → length t ≤ 80
columns-few s t first last h e =
    let q : length t ≡ min (last - (first - 1)) (length (drop (first - 1) s)) = ap length e ∙ length-take (last - (first - 1)) (drop (first - 1) s) in
    omega arith

-- what judging a field puts together
pub judged_is : (k : ℕ) (s : List ℕ) (f : Field) (form : Form) (first last : ℕ) → first ≡ f.first → last ≡ f.last
    → (t : List ℕ) → t ≡ take (last - (first - 1)) (drop (first - 1) s) → (d : Kind) → d ≡ f.kind → (x : Spelling) → x ≡ spelling_of d form
    → (r : Result Value Unread) → r ≡ reading_of x t → held_of (needed_on k s f) f r ≡ judged_of k s f form
unfolding judged_of columns_of
judged_is k s f form first last a b t c d e x g r h = rw (h, g, e, c, a, b)

-- what looking for a misplaced number puts together
pub misplaced-is : (s : List ℕ) (f : Field) (form : Form) (first last : ℕ) → first ≡ f.first → last ≡ f.last
    → (t : List ℕ) → t ≡ take (last - (first - 1)) (drop (first - 1) s) → (d : Kind) → d ≡ f.kind → (x : Spelling) → x ≡ spelling_of d form
    → (b : Bool) → b ≡ misplaced_in x t → b ≡ misplaced_on s f form
unfolding misplaced_on columns_of
misplaced-is s f form first last a b t c d e x g m h = h ∙ rw (g, e, c, a, b)
