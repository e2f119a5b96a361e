-- The offence of each column of a card, and the card's verdict: the first column with an offence.
use Rattle.std.specs.Prelude.{ℕ, ◌+◌, ◌-◌, List, [], ◌∷◌, Bool, true, false, cond, ◌&&◌, not, length, get_or, take, drop, eqb, leb, ltb, Result, Err, ⊤}
use Rattle.base_lists.specs.Count.{first_from}
use Rattle.base_lists.specs.Parts.{alike}
use Rattle.format_code.specs.declared.Code.{Code}
use Rattle.format_code.specs.declared.Code.TheVariants as code
use Rattle.format_layout.specs.declared.Kind.{Kind}
use Rattle.format_layout.specs.declared.Kind.TheVariants as kind
use Rattle.format_layout.specs.declared.Field.{Field}
use Rattle.format_layout.specs.declared.Form.{Form}
use Rattle.format_layout.specs.Forms.{is_open}
use Rattle.format_code.specs.Codes.{code_of}
use Rattle.format_layout.specs.Layouts.{fields_of, label_of}
use Rattle.value_text.specs.printable.Bytes.{first_bad}
use Rattle.card_field.specs.judging.Fields.{judged_of, number_of}
use Rattle.card_check.specs.declared.Offence.{Offence}
use Rattle.base_refusal.specs.Refusals.{no_refusal}
use Rattle.card_check.specs.Verdicts.{offending}

-- the kinds that a form tells how to read
abbrev pub is_coordinate : Kind → Bool
is_coordinate kind.Text = false
is_coordinate kind.Comment = false
is_coordinate kind.Whole = false
is_coordinate kind.Decimal = false
is_coordinate kind.Date = false
is_coordinate kind.Latitude = true
is_coordinate kind.Longitude = true

-- the offence of a field: 9, 10, 11 or none; a coordinate whose form is not known has none
unfoldable pub field_offence : ℕ → Form → List ℕ → Field → ℕ
field_offence k form s f = cond (is_open form && is_coordinate f.kind) 0 (number_of (judged_of k s f form))

-- a column, counted from 1, is not blank
unfoldable pub filled_at : List ℕ → ℕ → Bool
filled_at s c = not (eqb (get_or s (c - 1) 0) 32)

-- the offence of a column that no field covers
unfoldable pub gap_offence : List ℕ → ℕ → ℕ
gap_offence s c = cond (filled_at s c) 7 0

-- the offence of a column behind the label: a field's stands at its first column, its other columns have none
unfoldable pub column_offence : ℕ → Form → List ℕ → List Field → ℕ → ℕ
column_offence k form s [] c = gap_offence s c
column_offence k form s (f ∷ fs) c =
    cond (eqb c f.first) (field_offence k form s f)
    (cond (leb f.first c && leb c f.last) 0 (column_offence k form s fs c))

-- the verdict on the columns from c up to a field, and on that field
unfoldable pub next_verdict : ℕ → Form → List ℕ → Field → ℕ → Result ⊤ Offence
next_verdict k form s f c =
    cond (ltb (first_from (filled_at s) (f.first - c) c) f.first) (Err (offending 7 (first_from (filled_at s) (f.first - c) c)))
    (cond (eqb (field_offence k form s f) 0) no_refusal (Err (offending (field_offence k form s f) f.first)))

-- the label stands in its columns, from column 6
unfoldable pub label_stands : ℕ → List ℕ → Bool
label_stands k s = alike (take (length (label_of k)) (drop 5 s)) (label_of k)

-- the offence of a column of the label: 8, at column 6
unfoldable pub label_offence : ℕ → List ℕ → ℕ → ℕ
label_offence k s c = cond (eqb c 6 && not (label_stands k s)) 8 0

-- the offence of a column from 6 on, 0 for none
unfoldable pub offence_at : ℕ → Form → List ℕ → ℕ → ℕ
offence_at k form s c = cond (ltb c (6 + length (label_of k))) (label_offence k s c) (column_offence k form s (fields_of k) c)

-- the verdict where a column of a card is the first with an offence; column 81 stands for none
unfoldable pub verdict_at : (ℕ → ℕ) → ℕ → Result ⊤ Offence
verdict_at offence c = cond (leb c 80) (Err (offending (offence c) c)) no_refusal

-- the verdict on the columns from c on: the first with an offence decides
unfoldable pub verdict_from : (ℕ → ℕ) → ℕ → Result ⊤ Offence
verdict_from offence c = verdict_at offence (first_from (λ j. not (eqb (offence j) 0)) (81 - c) c)

-- a card with a code: 5 for an unknown one, a passed one is fine, a read one is judged from column 6 to 80
unfoldable pub code_verdict : Code → Form → List ℕ → Result ⊤ Offence
code_verdict code.Unknown form s = Err (offending 5 1)
code_verdict code.Passed form s = no_refusal
code_verdict (code.Read k) form s = verdict_from (offence_at k form s) 6

-- a card's verdict: 1 where it has no columns, 2 where they are not 80, 4 at its leftmost byte that is not printable, 5, and then
-- its columns
unfoldable pub verdict_of : List ℕ → Form → Result ⊤ Offence
verdict_of s form =
    cond (eqb (length s) 0) (Err (offending 1 0))
    (cond (not (eqb (length s) 80)) (Err (offending 2 0))
    (cond (ltb (first_bad s) 80) (Err (offending 4 (first_bad s + 1))) (code_verdict (code_of (take 5 s)) form s)))
