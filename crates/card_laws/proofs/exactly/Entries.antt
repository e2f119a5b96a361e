-- Putting a value or a text is refused exactly as its table says.
use Prim.Native.Nat.{ℕ, ◌+◌, ◌-◌, ◌≤◌}
use native.Mathlib.Omega.{arith}
use native.Mathlib.Nat.{add-zero}
use native.Mathlib.Decide.{dec_le}
use mathlib.Core.Path.{◌≡◌, refl, sym, ap, ◌∙◌}
use mathlib.Core.List.{List, [], ◌∷◌, ◌++◌}
use mathlib.Core.Logic.{◌↔◌}
use mathlib.Core.Bool.{Bool, true, false, cond, ◌&&◌, not}
use lib.ListN.{length, replicate}
use lib.Dec.{T, leb, ltb, leb→le, eqb→eq}
use lib.IntN.{ℤ, nat_abs}
use borrow.Author.Tests.{le-ltb, lt-ltb, le-leb, lt-leb}
use Rattle.base_refusal.specs.declared.Unwritten.TheVariants as unwritten
use Rattle.base_digits.specs.digits.Columns.{Entry, agreed, refused, fits, room_of}
use Rattle.base_value.specs.declared.Decimal.{Decimal as Units}
use Rattle.base_digits.specs.digits.Digits.{digits}
use Rattle.base_digits.specs.signs.Signs.{is_minus}
use Rattle.value_number.specs.number_entry.Spelling.{plain, decimal_in}
use Rattle.base_value.specs.declared.Date.{Date as Day}
use Rattle.value_date.specs.Calendar.{is_date}
use Rattle.value_date.specs.Dates.{number_of, date_in}
use Rattle.value_coordinate.specs.declared.axes.Axis.{Axis}
use Rattle.value_coordinate.specs.declared.axes.Axis.TheVariants.{Y, X}
use Rattle.value_coordinate.specs.axes.Axes.{bound_of, letter_of}
use Rattle.value_coordinate.specs.coordinate_entry.Plotting.{figures_in, angle_in, lettered, grid_in}
use Rattle.value_text.specs.text.Texts.{printable, well_formed, text_in}
use Rattle.base_value.specs.declared.Value.{Value}
use Rattle.base_value.specs.declared.Value.TheVariants.{Absent, Whole, Decimal, Angle, Date, Text}
use Rattle.value_field.proofs.spelling.Absence.{zero_one}
use Rattle.value_field.specs.declared.spelling.Spelling.TheVariants as spelled
use Rattle.value_field.specs.writing.Writing.{no_value_in, whole_in, units_in, day_in, arc_in, grid_entry_in, entry_of, text_entry_of}
use Rattle.format_layout.specs.declared.Kind.{Kind}
use Rattle.format_layout.specs.declared.Kind.TheVariants as kind
use Rattle.format_layout.specs.declared.Field.{Field}
use Rattle.format_layout.specs.declared.Form.{Form}
use Rattle.format_layout.specs.declared.Form.TheVariants.{Angles, Grid, Unknown}
use Rattle.format_layout.specs.Forms.{is_grid, form_numbered}
use Rattle.format_layout.specs.ranges.Ranges.{in_range}
use Rattle.format_layout.specs.Columns.{wide_as, width}
use Rattle.format_layout.proofs.Numbers.{found_wide}
use Rattle.base_refusal.specs.declared.Refusal.{Refusal}
use Rattle.base_refusal.specs.Refusals.{refusal, no_refusal}
use Rattle.card_field.specs.seeking.Card.{sought_of}
use Rattle.card_field.specs.judging.Fields.{spelling_of}
use Rattle.card_field.proofs.seeking.Steps.{found-there}
use Rattle.card_put.specs.Putting.{stays, answer_of, is_absent, within, is_other, came_of, by_entry, value_put, value_at, text_at, putting_of, putting_text_of}
use Rattle.card_field.specs.needing.Needs.{needed_after}
use Rattle.card_laws.specs.exactly.Rows.{given, Exactly}
use Rattle.card_laws.specs.exactly.Words.{field_at, is_needed, is_outside, is_decimal, is_angle, takes, axis_of, number_columns, columns_for, blanked_in, takes_text, is_comment}
use Rattle.card_laws.specs.exactly.Tables.{way_rows, value_rows, text_rows, put_rows, put_text_rows, in_entry}
use Rattle.card_laws.proofs.exactly.Given.{or_else, given-append, exactly}
use Rattle.card_laws.proofs.exactly.Way.{in_seeking, way_rows_lem, found-field}
use Rattle.card_laws.proofs.exactly.Blanked.{needed_blank}
use Rattle.card_laws.proofs.exactly.Room.{number-room}
use Rattle.std.specs.Prelude.{Result, Ok, Err, ⊤, Option, None, Some}
use Rattle.card_field.specs.seeking.Found.{Sought}

-- a test and its contrary
not-leb : (a b : ℕ) → not (leb a b) ≡ ltb b a
not-leb a b = elim (dec_le a b) [
  | yes h ↦ rw (le-leb a b h, le-ltb b a h)
  | no h ↦ rw (lt-leb a b (omega arith), lt-ltb b a (omega arith))
]

module _ (s : List ℕ) (f : Field) where
  -- what the rows 12, 11, 10 and 14 give by their tests, and what putting answers
  abbrev rows : Bool → Bool → Bool → Bool → Option Refusal
  rows other missing outside wide =
      cond other (Some (refusal 12 1 0)) (cond missing (Some (refusal 11 1 f.first))
      (cond outside (Some (refusal 10 1 0)) (cond wide (Some (refusal 14 1 0)) None)))

  abbrev puts : Bool → Bool → Entry → Option Refusal
  puts missing inside e =
      in_entry (answer_of (cond (is_other e) (stays (refusal 12 1 0)) (cond missing (stays (refusal 11 1 f.first))
      (cond inside (by_entry f s e) (stays (refusal 10 1 0))))))

  absent_puts : (w : ℕ) (need : Bool) (t : List ℕ) → rows false need false (ltb w 0) ≡ puts need true (agreed t)
  unfolding is_other by_entry
  absent_puts w need t = rw (le-ltb w 0 (omega arith)) (go need)
    where
      go : (b : Bool) → rows false b false false ≡ puts b true (agreed t)
      go true = refl
      go false = refl

  -- a number, for which there may be no room
  room_puts : (inside room : Bool) (o : Option (List ℕ)) → fits o ≡ room
      → rows false false (not inside) (not room) ≡ puts false inside (room_of o)
  unfolding is_other by_entry came_of
  room_puts inside room None q = rw (← q) (go inside)
    where
      go : (b : Bool) → rows false false (not b) true ≡ puts false b (refused unwritten.NoRoom)
      go true = refl
      go false = refl
  room_puts inside room (Some t) q = rw (← q) (go inside)
    where
      go : (b : Bool) → rows false false (not b) false ≡ puts false b (agreed t)
      go true = refl
      go false = refl

  number_puts : (inside : Bool) (w : ℕ) (d : Units) → w ≤ 18
      → rows false false (not inside) (ltb w (number_columns d)) ≡ puts false inside (room_of (decimal_in w d))
  number_puts inside w d h =
      rw (← not-leb (number_columns d) w) (room_puts inside (leb (number_columns d) w) (decimal_in w d) (number-room w d h))

  grid_puts : (a : Axis) (w : ℕ) (d : Units) → w ≡ 12
      → rows false false false (ltb w (number_columns d + 1)) ≡ puts false true (grid_in a w d)
  unfolding grid_in is_other by_entry came_of
  grid_puts a w d q = rw q (go (decimal_in 11 d) refl)
    where
      fit : ltb 12 (number_columns d + 1) ≡ not (leb (number_columns d) 11)
      fit = elim (dec_le (number_columns d) 11) [
        | yes h ↦ rw (le-leb (number_columns d) 11 h, le-ltb 12 (number_columns d + 1) (omega arith))
        | no h ↦ rw (lt-leb (number_columns d) 11 (omega arith), lt-ltb 12 (number_columns d + 1) (omega arith))
      ]

      go : (o : Option (List ℕ)) → decimal_in 11 d ≡ o
          → rows false false false (ltb 12 (number_columns d + 1)) ≡ puts false true (lettered (letter_of a false) o)
      go None e = rw (fit, ← number-room 11 d (omega arith), e)
      go (Some t) e = rw (fit, ← number-room 11 d (omega arith), e)

  outside_puts : (inside : Bool) (t : List ℕ)
      → rows false false (not inside) false ≡ puts false true (cond inside (agreed t) (refused unwritten.OutOfRange))
  unfolding is_other by_entry came_of
  outside_puts true t = refl
  outside_puts false t = refl

  date_puts : (w : ℕ) (d : Day) → w ≡ 8 → rows false false (not (is_date d)) (ltb w 8) ≡ puts false true (date_in w d)
  unfolding date_in
  date_puts w d q = rw q (outside_puts (is_date d) (digits 8 (number_of d)))

  angle_puts : (a : Axis) (w : ℕ) (z : ℤ) → w ≡ 12
      → rows false false (ltb (bound_of a) (nat_abs z)) (ltb w 12) ≡ puts false true (angle_in a w z)
  unfolding angle_in
  angle_puts a w z q =
      rw (q, ← not-leb (nat_abs z) (bound_of a))
      (outside_puts (leb (nat_abs z) (bound_of a)) (plain 7 3 (figures_in (nat_abs z)) ++ (letter_of a (is_minus z) ∷ [])))

  -- the value by the field's kind and width
  module _ (need : Bool) (w : ℕ) where
    abbrev asks : Kind → Form → Value → Type 0
    asks x form v =
        rows (not (takes x form v)) (is_absent v && need) (is_outside f v) (ltb w (columns_for x v))
        ≡ puts (is_absent v && need) (within f v) (entry_of (spelling_of x form) w v)

    text_asks : (form : Form) (v : Value) → asks kind.Text form v
    unfolding spelling_of entry_of no_value_in is_other
    text_asks form Absent = absent_puts w need (replicate w 32)
    text_asks form (Whole z) = refl
    text_asks form (Decimal d) = refl
    text_asks form (Angle z) = refl
    text_asks form (Date d) = refl
    text_asks form (Text c) = refl

    comment_asks : (form : Form) (v : Value) → asks kind.Comment form v
    unfolding spelling_of entry_of no_value_in is_other
    comment_asks form Absent = absent_puts w need (replicate w 32)
    comment_asks form (Whole z) = refl
    comment_asks form (Decimal d) = refl
    comment_asks form (Angle z) = refl
    comment_asks form (Date d) = refl
    comment_asks form (Text c) = refl

    whole_asks : w ≤ 18 → (form : Form) (v : Value) → asks kind.Whole form v
    unfolding spelling_of entry_of whole_in is_other
    whole_asks h form Absent = absent_puts w need (replicate w 32)
    whole_asks h form (Whole z) = number_puts (in_range f.range z) w (record { units = z; places = 0 }) h
    whole_asks h form (Decimal d) = refl
    whole_asks h form (Angle z) = refl
    whole_asks h form (Date d) = refl
    whole_asks h form (Text c) = refl

    decimal_asks : w ≤ 18 → (form : Form) (v : Value) → asks kind.Decimal form v
    unfolding spelling_of entry_of units_in is_other
    decimal_asks h form Absent = absent_puts w need (replicate w 32)
    decimal_asks h form (Whole z) = refl
    decimal_asks h form (Decimal d) = rw (add-zero (number_columns d)) (number_puts true w d h)
    decimal_asks h form (Angle z) = refl
    decimal_asks h form (Date d) = refl
    decimal_asks h form (Text c) = refl

    date_asks : w ≡ 8 → (form : Form) (v : Value) → asks kind.Date form v
    unfolding spelling_of entry_of day_in is_other
    date_asks h form Absent = absent_puts w need (replicate w 32)
    date_asks h form (Whole z) = refl
    date_asks h form (Decimal d) = refl
    date_asks h form (Angle z) = refl
    date_asks h form (Date d) = date_puts w d h
    date_asks h form (Text c) = refl

    latitude_asks : f.kind ≡ kind.Latitude → w ≡ 12 → (form : Form) (v : Value) → asks kind.Latitude form v
    unfolding spelling_of entry_of arc_in grid_entry_in is_other
    latitude_asks q h form v = go (is_grid form) v
      where
        go : (grid : Bool) (v : Value)
            → rows (not (cond grid (is_decimal v) (is_angle v))) (is_absent v && need) (is_outside f v) (ltb w (columns_for kind.Latitude v))
            ≡ puts (is_absent v && need) (within f v) (entry_of (cond grid spelled.Northing spelled.Latitude) w v)
        go false Absent = absent_puts w need (replicate w 32)
        go false (Whole z) = refl
        go false (Decimal d) = refl
        go false (Angle z) =
            ap (λ x. rows false false (ltb (bound_of (axis_of x)) (nat_abs z)) (ltb w 12)) q ∙ angle_puts Y w z h
        go false (Date d) = refl
        go false (Text c) = refl
        go true Absent = absent_puts w need (replicate w 32)
        go true (Whole z) = refl
        go true (Decimal d) = grid_puts Y w d h
        go true (Angle z) = refl
        go true (Date d) = refl
        go true (Text c) = refl

    longitude_asks : f.kind ≡ kind.Longitude → w ≡ 12 → (form : Form) (v : Value) → asks kind.Longitude form v
    unfolding spelling_of entry_of arc_in grid_entry_in is_other
    longitude_asks q h form v = go (is_grid form) v
      where
        go : (grid : Bool) (v : Value)
            → rows (not (cond grid (is_decimal v) (is_angle v))) (is_absent v && need) (is_outside f v) (ltb w (columns_for kind.Longitude v))
            ≡ puts (is_absent v && need) (within f v) (entry_of (cond grid spelled.Easting spelled.Longitude) w v)
        go false Absent = absent_puts w need (replicate w 32)
        go false (Whole z) = refl
        go false (Decimal d) = refl
        go false (Angle z) =
            ap (λ x. rows false false (ltb (bound_of (axis_of x)) (nat_abs z)) (ltb w 12)) q ∙ angle_puts X w z h
        go false (Date d) = refl
        go false (Text c) = refl
        go true Absent = absent_puts w need (replicate w 32)
        go true (Whole z) = refl
        go true (Decimal d) = grid_puts X w d h
        go true (Angle z) = refl
        go true (Date d) = refl
        go true (Text c) = refl

    all_ask : (x : Kind) → f.kind ≡ x → T (wide_as x w) → (form : Form) (v : Value) → asks x form v
    all_ask kind.Text q t form v = text_asks form v
    all_ask kind.Comment q t form v = comment_asks form v
    all_ask kind.Whole q t form v = whole_asks (leb→le w 18 t) form v
    all_ask kind.Decimal q t form v = decimal_asks (leb→le w 18 t) form v
    all_ask kind.Date q t form v = date_asks (eqb→eq w 8 t) form v
    all_ask kind.Latitude q t form v = latitude_asks q (eqb→eq w 12 t) form v
    all_ask kind.Longitude q t form v = longitude_asks q (eqb→eq w 12 t) form v

-- the rows of a value are what putting it into its field answers
value_rows_lem : (k : ℕ) (s : List ℕ) (n : ℕ) (form : Form) (v : Value) (f : Field)
    → is_needed (blanked_in f s) f ≡ needed_after k s n f → T (wide_as f.kind (width f))
    → given (value_rows s form v f) ≡ in_entry (answer_of (value_put k s n f form v))
unfolding given value_rows value_put
value_rows_lem k s n form v f q t =
    ap (λ b. rows s f (not (takes f.kind form v)) (is_absent v && b) (is_outside f v) (ltb (width f) (columns_for f.kind v))) q
    ∙ all_ask s f (needed_after k s n f) (width f) f.kind refl t form v

-- a text by the field's kind
module _ (s : List ℕ) (f : Field) (t : List ℕ) where
  abbrev asks_text : Kind → Form → Type 0
  asks_text x form =
      cond (not (takes_text x)) (Some (refusal 12 1 0))
      (cond (not (printable t)) (Some (refusal 4 1 0))
      (cond (not (well_formed (is_comment x) t)) (Some (refusal 9 1 0))
      (cond (ltb (width f) (length t)) (Some (refusal 14 1 0)) None)))
      ≡ in_entry (answer_of (by_entry f s (text_entry_of (spelling_of x form) (width f) t)))

  text_puts : (lead : Bool)
      → cond (not (printable t)) (Some (refusal 4 1 0))
      (cond (not (well_formed lead t)) (Some (refusal 9 1 0)) (cond (ltb (width f) (length t)) (Some (refusal 14 1 0)) None))
      ≡ in_entry (answer_of (by_entry f s (text_in lead (width f) t)))
  unfolding text_in by_entry came_of
  text_puts lead = rw (← not-leb (length t) (width f)) (go (printable t) (well_formed lead t) (leb (length t) (width f)))
    where
      go : (a b c : Bool)
          → cond (not a) (Some (refusal 4 1 0)) (cond (not b) (Some (refusal 9 1 0)) (cond (not c) (Some (refusal 14 1 0)) None))
          ≡ in_entry (answer_of (by_entry f s (cond (not a) (refused unwritten.Unprintable) (cond (not b) (refused unwritten.Malformed)
          (cond c (agreed (t ++ replicate (width f - length t) 32)) (refused unwritten.NoRoom))))))
      go false b c = refl
      go true false c = refl
      go true true false = refl
      go true true true = refl

  all_ask_text : (x : Kind) (form : Form) → asks_text x form
  unfolding spelling_of text_entry_of by_entry came_of
  all_ask_text kind.Text form = text_puts false
  all_ask_text kind.Comment form = text_puts true
  all_ask_text kind.Whole form = refl
  all_ask_text kind.Decimal form = refl
  all_ask_text kind.Date form = refl
  all_ask_text kind.Latitude Angles = refl
  all_ask_text kind.Latitude Grid = refl
  all_ask_text kind.Latitude Unknown = refl
  all_ask_text kind.Longitude Angles = refl
  all_ask_text kind.Longitude Grid = refl
  all_ask_text kind.Longitude Unknown = refl

-- the rows of a text are what putting it answers
text_rows_lem : (s : List ℕ) (form : Form) (t : List ℕ) (f : Field)
    → given (text_rows t f) ≡ in_entry (answer_of (by_entry f s (text_entry_of (spelling_of f.kind form) (width f) t)))
unfolding given text_rows
text_rows_lem s form t f = all_ask_text s f t f.kind form

value_is : (s : List ℕ) (n form : ℕ) (v : Value) (o : Result Sought Refusal) → sought_of s n form ≡ o
    → in_entry (answer_of (value_at s n (form_numbered form) v o)) ≡ or_else (in_seeking o) (given (value_rows s (form_numbered form) v (field_at s n)))
unfolding value_at
value_is s n form v (Err r) q = refl
value_is s n form v (Ok o) q =
    rw (found-field s n form o.layout o.field q)
    (sym (value_rows_lem o.layout s n (form_numbered form) v o.field (needed_blank s n form o.layout o.field q) (found_wide o.layout n o.field (found-there s n form o.layout o.field q).field)))

text-is : (s : List ℕ) (n form : ℕ) (t : List ℕ) (o : Result Sought Refusal) → sought_of s n form ≡ o
    → in_entry (answer_of (text_at s (form_numbered form) t o)) ≡ or_else (in_seeking o) (given (text_rows t (field_at s n)))
unfolding text_at
text-is s n form t (Err r) q = refl
text-is s n form t (Ok o) q = rw (found-field s n form o.layout o.field q) (sym (text_rows_lem s (form_numbered form) t o.field))

-- the refusal in the answer to a put is the first that its table gives
pub put_given : (s : List ℕ) (n form : ℕ) (v : Value) → in_entry (answer_of (putting_of s n form v)) ≡ given (put_rows s n form v)
unfolding putting_of put_rows
put_given s n form v =
    value_is s n form v (sought_of s n form) refl
    ∙ ap (λ o. or_else o (given (value_rows s (form_numbered form) v (field_at s n)))) (sym (way_rows_lem s n form))
    ∙ sym (given-append (way_rows s n form) (value_rows s (form_numbered form) v (field_at s n)))

pub put_text-given : (s : List ℕ) (n form : ℕ) (t : List ℕ)
    → in_entry (answer_of (putting_text_of s n form t)) ≡ given (put_text_rows s n form t)
unfolding putting_text_of put_text_rows
put_text-given s n form t =
    text-is s n form t (sought_of s n form) refl
    ∙ ap (λ o. or_else o (given (text_rows t (field_at s n)))) (sym (way_rows_lem s n form))
    ∙ sym (given-append (way_rows s n form) (text_rows t (field_at s n)))

refused_as : (a : Result ⊤ Refusal) (r : Refusal) → (a ≡ Err r) ↔ (in_entry a ≡ Some r)
refused_as (Ok _) r = (λ e. absurd (zero_one cc), λ e. absurd (zero_one cc))
refused_as (Err q) r = (λ e. ap in_entry e, λ e. let x : q ≡ r = cc in ap Err x)

done_as : (a : Result ⊤ Refusal) → (a ≡ no_refusal) ↔ (in_entry a ≡ None)
done_as (Ok _) = (λ e. refl, λ e. refl)
done_as (Err q) = (λ e. absurd (zero_one cc), λ e. absurd (zero_one cc))

module _ (s : List ℕ) (n form : ℕ) where
  -- putting a value into a field of a card
  pub put_exactly : (v : Value)
      → Exactly (put_rows s n form v) (λ r. answer_of (putting_of s n form v) ≡ Err r) (answer_of (putting_of s n form v) ≡ no_refusal)
  put_exactly v =
      let a = answer_of (putting_of s n form v) in
      exactly (put_rows s n form v) (in_entry a) (put_given s n form v) (refused_as a) (done_as a)

  -- putting a text into it
  pub put_text_exactly : (t : List ℕ)
      → Exactly (put_text_rows s n form t) (λ r. answer_of (putting_text_of s n form t) ≡ Err r)
      (answer_of (putting_text_of s n form t) ≡ no_refusal)
  put_text_exactly t =
      let a = answer_of (putting_text_of s n form t) in
      exactly (put_text_rows s n form t) (in_entry a) (put_text-given s n form t) (refused_as a) (done_as a)
