-- Reading a field is refused exactly as its table says.
use Prim.Native.Nat.{ℕ}
use native.Mathlib.Nat.{sub-zero}
use mathlib.Core.Path.{◌≡◌, refl, sym, ap, ◌∙◌}
use mathlib.Core.List.{List, []}
use mathlib.Core.Logic.{◌↔◌}
use mathlib.Core.Bool.{Bool, true, false, cond, ◌&&◌, ◌||◌, not, false≢true}
use lib.ListN.{length}
use borrow.Author.Tests.{eqb-true, eq-eqb}
use Rattle.value_text.specs.text.Texts.{text_end}
use Rattle.value_text.proofs.text.Back.{end_blanks}
use Rattle.value_text.proofs.text.Agreed.{blank_behind}
use Rattle.base_value.specs.declared.Value.{Value}
use Rattle.base_value.specs.declared.Value.TheVariants.{Absent, Whole, Decimal, Angle, Date, Text}
use Rattle.base_value.specs.declared.Unread.TheVariants as unread
use Rattle.value_field.specs.declared.spelling.Spelling.{Spelling}
use Rattle.value_field.specs.spelling.Reading.{reading_of}
use Rattle.value_field.proofs.spelling.Absence.{zero_one, blank_in, blank_read, absent_only}
use Rattle.format_layout.specs.declared.Field.{Field}
use Rattle.format_layout.specs.declared.Form.{Form}
use Rattle.format_layout.specs.Forms.{form_numbered}
use Rattle.format_layout.specs.Layouts.{fields_of}
use Rattle.format_layout.specs.ranges.Ranges.{in_range}
use Rattle.base_refusal.specs.declared.Refusal.{Refusal}
use Rattle.base_refusal.specs.Refusals.{refusal}
use Rattle.card_field.specs.seeking.Card.{sought_of}
use Rattle.card_field.specs.judging.Fields.{spelling_of, value_of, held_of, judged_of}
use Rattle.card_field.specs.needing.Needs.{columns_of, is_blank, any_second, needed_on}
use Rattle.card_field.specs.Reading.{answered_of, field_on, field_reading}
use Rattle.card_laws.specs.exactly.Rows.{given, Exactly}
use Rattle.card_laws.specs.exactly.Words.{fields_on, field_at, is_needed, reading_in, is_malformed, reads_outside}
use Rattle.card_laws.specs.exactly.Tables.{way_rows, field_rows, read_rows, in_reading}
use Rattle.card_laws.proofs.exactly.Given.{or_else, given-append, exactly}
use Rattle.card_laws.proofs.exactly.Way.{in_seeking, way_rows_lem, found-fields, found-field}
use Rattle.std.specs.Prelude.{Result, Ok, Err, Option, None, Some}
use Rattle.card_field.specs.declared.FieldRead.{FieldRead}
use Rattle.base_value.specs.declared.Unread.{Unread}
use Rattle.card_field.specs.Fields.{field_read}
use Rattle.card_field.specs.seeking.Found.{Sought}

-- blank columns are those that read as absent, whatever the spelling
pub blank_absent : (k : Spelling) (s : List ℕ) → is_blank s ≡ true → reading_of k s ≡ Ok Absent
unfolding is_blank
blank_absent k s h =
    let z : text_end s ≡ 0 = eqb-true (text_end s) 0 h in
    let e : s ≡ blank_in (length s) = rw (z, sub-zero (length s)) at (blank_behind s) in
    ap (reading_of k) e ∙ blank_read (length s) k

pub absent_blank : (k : Spelling) (s : List ℕ) → reading_of k s ≡ Ok Absent → is_blank s ≡ true
unfolding is_blank text_end
absent_blank k s h = eq-eqb (text_end s) 0 (ap text_end (absent_only s k h) ∙ end_blanks [] (length s))

-- a field held against its need and range; whether its number is misplaced plays no part
module _ (needed left : Bool) (f : Field) where
  own : Bool → Result Value Unread → Option Refusal
  own blank r =
      cond (needed && blank) (Some (refusal 11 1 f.first))
      (cond (is_malformed r) (Some (refusal 9 1 f.first))
      (cond (reads_outside f r) (Some (refusal 10 1 f.first)) None))

  held_rows : (blank : Bool) (r : Result Value Unread) → (blank ≡ true → r ≡ Ok Absent) → (r ≡ Ok Absent → blank ≡ true)
      → own blank r ≡ in_reading (answered_of f left (held_of needed f r))
  unfolding own answered_of held_of value_of
  held_rows true r a b = rw (a refl) (go needed)
    where
      go : (x : Bool) → cond (x && true) (Some (refusal 11 1 f.first)) None
          ≡ in_reading (answered_of f left (cond x (Err 11) (Ok Absent)))
      go true = refl
      go false = refl
  held_rows false r a b = rw (never needed) (go r b)
    where
      never : (x : Bool) → (x && false) ≡ false
      never true = refl
      never false = refl

      ranged : (x : Bool) (z : Value)
          → cond (not x) (Some (refusal 10 1 f.first)) None ≡ in_reading (answered_of f left (cond x (Ok z) (Err 10)))
      ranged true z = refl
      ranged false z = refl

      go : (r : Result Value Unread) → (r ≡ Ok Absent → false ≡ true)
          → cond (is_malformed r) (Some (refusal 9 1 f.first)) (cond (reads_outside f r) (Some (refusal 10 1 f.first)) None)
          ≡ in_reading (answered_of f left (held_of needed f r))
      go (Err unread.Malformed) b = refl
      go (Err unread.OutOfRange) b = refl
      go (Ok Absent) b = absurd (false≢true (b refl))
      go (Ok (Whole z)) b = ranged (in_range f.range z) (Whole z)
      go (Ok (Decimal d)) b = refl
      go (Ok (Angle z)) b = refl
      go (Ok (Date d)) b = refl
      go (Ok (Text c)) b = refl

-- the rows of a field are its judgement
pub field_rows_lem : (k : ℕ) (s : List ℕ) (form : Form) (f : Field) → fields_on s ≡ fields_of k
    → (left : Bool) → given (field_rows s form f) ≡ in_reading (answered_of f left (judged_of k s f form))
unfolding given field_rows is_needed reading_in judged_of needed_on own
field_rows_lem k s form f q left =
    rw q
    (held_rows (f.needed && (not f.second || any_second s (fields_of k))) left f (is_blank (columns_of f s))
    (reading_of (spelling_of f.kind form) (columns_of f s))
    (blank_absent (spelling_of f.kind form) (columns_of f s)) (absent_blank (spelling_of f.kind form) (columns_of f s)))

reading_is : (s : List ℕ) (n form : ℕ) (o : Result Sought Refusal) → sought_of s n form ≡ o
    → in_reading (field_on s (form_numbered form) o) ≡ or_else (in_seeking o) (given (field_rows s (form_numbered form) (field_at s n)))
unfolding field_on
reading_is s n form (Err r) q = refl
reading_is s n form (Ok o) q =
    rw (found-field s n form o.layout o.field q) (sym (field_rows_lem o.layout s (form_numbered form) o.field (found-fields s n form o.layout o.field q) _))

-- the refusal in the reading of a field is the first that its table gives
pub reading_given : (s : List ℕ) (n form : ℕ) → in_reading (field_reading s n form) ≡ given (read_rows s n form)
unfolding field_reading read_rows
reading_given s n form =
    reading_is s n form (sought_of s n form) refl
    ∙ ap (λ o. or_else o (given (field_rows s (form_numbered form) (field_at s n)))) (sym (way_rows_lem s n form))
    ∙ sym (given-append (way_rows s n form) (field_rows s (form_numbered form) (field_at s n)))

module _ (s : List ℕ) (n form : ℕ) where
  refused_as : (a : Result FieldRead Refusal) (r : Refusal) → (a ≡ Err r) ↔ (in_reading a ≡ Some r)
  refused_as (Ok f) r = (λ e. absurd (zero_one cc), λ e. absurd (zero_one cc))
  refused_as (Err q) r = (λ e. ap in_reading e, λ e. let x : q ≡ r = cc in ap Err x)

  value_as : (a : Result FieldRead Refusal) → ((v : Value) × (b : Bool) × (a ≡ Ok (field_read v b))) ↔ (in_reading a ≡ None)
  value_as (Ok f) = (λ e. refl, λ e. (f.value, f.misplaced, refl))
  value_as (Err q) = (λ e. absurd (zero_one cc), λ e. absurd (zero_one cc))

  -- reading a field of a card
  pub reading_exactly : Exactly (read_rows s n form) (λ r. field_reading s n form ≡ Err r)
      ((v : Value) × (b : Bool) × (field_reading s n form ≡ Ok (field_read v b)))
  reading_exactly =
      exactly (read_rows s n form) (in_reading (field_reading s n form)) (reading_given s n form)
      (refused_as (field_reading s n form)) (value_as (field_reading s n form))
