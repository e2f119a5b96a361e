-- The rows of each operation on one card, in the paper's order: number, card, column, and when.
use Rattle.std.specs.Prelude.{ℕ, zero, suc, ◌+◌, List, [], ◌∷◌, ◌++◌, cond, ◌&&◌, not, length, take, eqb, ltb, Option, None, Some, Result, Ok, Err, ⊤}
use Rattle.value_text.specs.text.Texts.{printable, well_formed}
use Rattle.base_value.specs.declared.Value.{Value}
use Rattle.format_layout.specs.declared.Field.{Field}
use Rattle.format_layout.specs.declared.Form.{Form}
use Rattle.format_layout.specs.Forms.{is_open, form_numbered}
use Rattle.format_code.specs.Codes.{code_of}
use Rattle.base_refusal.specs.declared.Refusal.{Refusal}
use Rattle.base_refusal.specs.Refusals.{refusal}
use Rattle.value_text.specs.printable.Bytes.{first_bad}
use Rattle.card_field.specs.needing.Needs.{columns_of, is_blank}
use Rattle.card_put.specs.Putting.{is_absent}
use Rattle.format_layout.specs.Columns.{width}
use Rattle.card_check.specs.Judging.{is_coordinate, filled_at}
use Rattle.card_laws.specs.exactly.Rows.{Row, row}
use Rattle.card_laws.specs.exactly.Words.{is_unknown, fields_on, counts, field_at, is_needed, reading_in, is_malformed, is_outside, reads_outside, takes, columns_for, blanked_in, takes_text, is_comment, label_differs, is_gap}
use Rattle.card_field.specs.declared.FieldRead.{FieldRead}
use Rattle.card_check.specs.declared.Offence.{Offence}

-- on the way to the field with a number: the card's length, bytes and code, the number, the form
unfoldable pub way_rows : List ℕ → ℕ → ℕ → List Row
way_rows s n form =
    row 1 0 0 (eqb (length s) 0) ∷
    row 2 0 0 (not (eqb (length s) 80)) ∷
    row 4 1 (first_bad s + 1) (not (printable s)) ∷
    row 5 1 1 (is_unknown (code_of (take 5 s))) ∷
    row 13 0 0 (not (counts (fields_on s) n)) ∷
    row 10 0 0 (ltb 1 form) ∷ []

-- of the field itself when it is read: needed and blank, badly formed, out of range
unfoldable pub field_rows : List ℕ → Form → Field → List Row
field_rows s form f =
    row 11 1 f.first (is_needed s f && is_blank (columns_of f s)) ∷
    row 9 1 f.first (is_malformed (reading_in s form f)) ∷
    row 10 1 f.first (reads_outside f (reading_in s form f)) ∷ []

-- when a value is put: of another kind, needed and to be blank, out of range, too wide
unfoldable pub value_rows : List ℕ → Form → Value → Field → List Row
value_rows s form v f =
    row 12 1 0 (not (takes f.kind form v)) ∷
    row 11 1 f.first (is_absent v && is_needed (blanked_in f s) f) ∷
    row 10 1 0 (is_outside f v) ∷
    row 14 1 0 (ltb (width f) (columns_for f.kind v)) ∷ []

-- when a text is put: it has no range, and as it is not empty it leaves no field blank, so there is no 10 and no 11
unfoldable pub text_rows : List ℕ → Field → List Row
text_rows t f =
    row 12 1 0 (not (takes_text f.kind)) ∷
    row 4 1 0 (not (printable t)) ∷
    row 9 1 0 (not (well_formed (is_comment f.kind) t)) ∷
    row 14 1 0 (ltb (width f) (length t)) ∷ []

-- reading a field of a card
unfoldable pub read_rows : List ℕ → ℕ → ℕ → List Row
read_rows s n form = way_rows s n form ++ field_rows s (form_numbered form) (field_at s n)

-- putting a value into it, and a text
unfoldable pub put_rows : List ℕ → ℕ → ℕ → Value → List Row
put_rows s n form v = way_rows s n form ++ value_rows s (form_numbered form) v (field_at s n)

unfoldable pub put_text_rows : List ℕ → ℕ → ℕ → List ℕ → List Row
put_text_rows s n form t = way_rows s n form ++ text_rows t (field_at s n)

-- opening a card of so many bytes with a code
unfoldable pub open_rows : List ℕ → ℕ → List Row
open_rows text size =
    row 1 0 0 (eqb size 0) ∷
    row 2 0 0 (not (eqb size 80)) ∷
    row 5 1 1 (is_unknown (code_of text)) ∷ []

-- a field under a form; a coordinate whose form is not known is passed over
unfoldable pub form_rows : Form → List ℕ → Field → List Row
form_rows form s f = cond (is_open form && is_coordinate f.kind) [] (field_rows s form f)

-- the field that begins in a column, if one does
unfoldable pub begin_rows : Form → List ℕ → List Field → ℕ → List Row
begin_rows form s [] c = []
begin_rows form s (f ∷ fs) c = cond (eqb c f.first) (form_rows form s f) [] ++ begin_rows form s fs c

-- a column of a card: the label stands from column 6, no field covers it, or a field begins there
unfoldable pub column_rows : Form → List ℕ → ℕ → List Row
column_rows form s c =
    row 8 1 6 (eqb c 6 && label_differs s) ∷
    row 7 1 c (is_gap s c && filled_at s c) ∷
    begin_rows form s (fields_on s) c

-- so many columns from c on, from left to right
unfoldable pub columns_from : Form → List ℕ → ℕ → ℕ → List Row
columns_from form s zero c = []
columns_from form s (suc m) c = column_rows form s c ++ columns_from form s m (suc c)

-- judging a card by itself: the columns from 6 to 80
unfoldable pub judge_rows : List ℕ → Form → List Row
judge_rows s form =
    row 1 0 0 (eqb (length s) 0) ∷
    row 2 0 0 (not (eqb (length s) 80)) ∷
    row 4 1 (first_bad s + 1) (not (printable s)) ∷
    row 5 1 1 (is_unknown (code_of (take 5 s))) ∷
    columns_from form s 75 6

-- the refusal in each operation's answer
abbrev pub in_reading : Result FieldRead Refusal → Option Refusal
in_reading (Ok f) = None
in_reading (Err r) = Some r

abbrev pub in_entry : Result ⊤ Refusal → Option Refusal
in_entry (Ok _) = None
in_entry (Err r) = Some r

abbrev pub in_opening : Result ⊤ Refusal → Option Refusal
in_opening (Ok _) = None
in_opening (Err r) = Some r

-- a verdict names no card: it is the one card, and none for the length
abbrev pub card_of : ℕ → ℕ
card_of zero = 0
card_of (suc c) = 1

abbrev pub in_verdict : Result ⊤ Offence → Option Refusal
in_verdict (Ok _) = None
in_verdict (Err o) = Some (refusal o.number (card_of o.column) o.column)
