-- The rows of a column give its offence.
use Prim.Native.Nat.{ℕ, suc, ◌+◌, ◌≤◌, ◌<◌}
use native.Mathlib.Omega.{arith}
use native.Mathlib.Decide.{ℕ_discrete, dec_lt, dec_le}
use mathlib.Core.Path.{◌≡◌, refl, sym, ap, ◌∙◌}
use mathlib.Core.List.{List, [], ◌∷◌}
use mathlib.Core.Bool.{Bool, true, false, cond, ◌&&◌, not, true≢false}
use lib.ListN.{length, take, drop}
use lib.Dec.{T, eqb}
use borrow.Author.Tests.{eq-eqb, ne_eqb, le-leb, lt-leb, lt-ltb, le-ltb, eqb-true}
use Rattle.base_lists.specs.Parts.{alike}
use Rattle.base_value.specs.declared.Value.TheVariants as value
use Rattle.base_value.specs.declared.Unread.TheVariants as unread
use Rattle.value_field.specs.spelling.Reading.{reading_of}
use Rattle.format_code.specs.declared.Code.{Code}
use Rattle.format_code.specs.declared.Code.TheVariants as code
use Rattle.format_layout.specs.declared.Field.{Field}
use Rattle.format_layout.specs.declared.Form.{Form}
use Rattle.format_layout.specs.Forms.{is_open}
use Rattle.format_code.specs.Codes.{code_of}
use Rattle.format_layout.specs.Layouts.{fields_of, label_of}
use Rattle.format_layout.specs.ranges.Ranges.{in_range}
use Rattle.format_layout.proofs.Columns.{is_in_order, front, rest}
use Rattle.base_refusal.specs.declared.Refusal.{Refusal}
use Rattle.base_refusal.specs.Refusals.{refusal}
use Rattle.card_field.specs.judging.Fields.{spelling_of, value_of, held_of, judged_of, number_of}
use Rattle.card_field.specs.needing.Needs.{columns_of, needed_on}
use Rattle.card_field.specs.Reading.{answered_of}
use Rattle.card_check.specs.Judging.{is_coordinate, field_offence, filled_at, gap_offence, column_offence, label_stands, label_offence, offence_at}
use Rattle.card_check.proofs.Walked.{in_order}
use Rattle.card_laws.specs.exactly.Rows.{row, given}
use Rattle.card_laws.specs.exactly.Words.{fields_under, fields_on, label_on, label_differs, is_read, covered, is_gap}
use Rattle.card_laws.specs.exactly.Tables.{field_rows, form_rows, begin_rows, column_rows, in_reading}
use Rattle.card_laws.proofs.exactly.Given.{or_else, given-append}
use Rattle.card_laws.proofs.exactly.Fields.{field_rows_lem}
use Rattle.std.specs.Prelude.{Result, Ok, Err, Option, None, Some}
use Rattle.base_value.specs.declared.Unread.{Unread}
use Rattle.base_value.specs.declared.Value.{Value}

-- an offence at a column, none for 0
abbrev pub marked : ℕ → ℕ → Option Refusal
marked n c = cond (eqb n 0) None (Some (refusal n 1 c))

or-none : (o : Option Refusal) → or_else o None ≡ o
or-none None = refl
or-none (Some r) = refl

-- a field's judgement as an offence at its first column
judged_mark : (needed : Bool) (f : Field) (r : Result Value Unread)
    → in_reading (answered_of f false (held_of needed f r)) ≡ marked (number_of (held_of needed f r)) f.first
unfolding answered_of held_of value_of
judged_mark needed f (Err unread.Malformed) = refl
judged_mark needed f (Err unread.OutOfRange) = refl
judged_mark needed f (Ok value.Absent) = go needed
  where
    go : (b : Bool) → in_reading (answered_of f false (cond b (Err 11) (Ok value.Absent)))
        ≡ marked (number_of (cond b (Err 11) (Ok value.Absent))) f.first
    go true = refl
    go false = refl
judged_mark needed f (Ok (value.Whole z)) = go (in_range f.range z)
  where
    go : (b : Bool) → in_reading (answered_of f false (cond b (Ok (value.Whole z)) (Err 10)))
        ≡ marked (number_of (cond b (Ok (value.Whole z)) (Err 10))) f.first
    go true = refl
    go false = refl
judged_mark needed f (Ok (value.Decimal d)) = refl
judged_mark needed f (Ok (value.Angle z)) = refl
judged_mark needed f (Ok (value.Date d)) = refl
judged_mark needed f (Ok (value.Text c)) = refl

module _ (s : List ℕ) (k : ℕ) (fields : fields_on s ≡ fields_of k) where
  field-mark : (form : Form) (f : Field) → given (field_rows s form f) ≡ marked (number_of (judged_of k s f form)) f.first
  unfolding judged_of
  field-mark form f = field_rows_lem k s form f fields false
      ∙ judged_mark (needed_on k s f) f (reading_of (spelling_of f.kind form) (columns_of f s))

  form-mark : (form : Form) (f : Field) → given (form_rows form s f) ≡ marked (field_offence k form s f) f.first
  unfolding form_rows field_offence given
  form-mark form f = go (is_open form && is_coordinate f.kind)
    where
      go : (b : Bool) → given (cond b [] (field_rows s form f)) ≡ marked (cond b 0 (number_of (judged_of k s f form))) f.first
      go true = refl
      go false = field-mark form f

  module _ (form : Form) (c : ℕ) where
    -- fields behind a column do not begin there
    later_none : (b : ℕ) (fs : List Field) → T (is_in_order b fs) → c < b → given (begin_rows form s fs c) ≡ None
    unfolding begin_rows given
    later_none b [] t h = refl
    later_none b (f ∷ fs) t h =
        let l = front b f fs t in
        rw (ne_eqb c f.first (λ e. absurd (omega (arith, l.after))))
        (later_none (suc f.last) fs (rest b f fs t) (omega (arith, l.after, l.forward)))

    -- the column by the fields: none covers it, one begins there, or it is inside one
    behind-mark : (b : ℕ) (fs : List Field) → T (is_in_order b fs)
        → given (row 7 1 c (not (covered fs c) && filled_at s c) ∷ begin_rows form s fs c) ≡ marked (column_offence k form s fs c) c
    unfolding given begin_rows covered column_offence gap_offence
    behind-mark b [] t = go (filled_at s c)
      where
        go : (x : Bool) → cond x (Some (refusal 7 1 c)) None ≡ marked (cond x 7 0) c
        go true = refl
        go false = refl
    behind-mark b (f ∷ fs) t =
        let l = front b f fs t in
        let more = rest b f fs t in
        elim (ℕ_discrete c f.first) [
          | yes e ↦
              rw (le-leb f.first c (omega arith), le-leb c f.last (omega (arith, l.forward)), eq-eqb c f.first e)
              (given-append (form_rows form s f) (begin_rows form s fs c)
              ∙ ap (or_else (given (form_rows form s f))) (later_none (suc f.last) fs more (omega (arith, l.forward)))
              ∙ or-none (given (form_rows form s f))
              ∙ form-mark form f
              ∙ ap (marked (field_offence k form s f)) (sym e))
          | no e ↦ elim (dec_lt c f.first) [
            | yes h ↦ rw (lt-leb f.first c h, ne_eqb c f.first e) (behind-mark (suc f.last) fs more)
            | no h ↦ elim (dec_le c f.last) [
              | yes g ↦
                  rw (le-leb f.first c (omega arith), le-leb c f.last g, ne_eqb c f.first e)
                  (later_none (suc f.last) fs more (omega arith))
              | no g ↦
                  rw (le-leb f.first c (omega arith), lt-leb c f.last (omega arith), ne_eqb c f.first e)
                  (behind-mark (suc f.last) fs more)
            ]
          ]
        ]

never : (b : Bool) → (b && false) ≡ false
never true = refl
never false = refl

-- a column of a card with a read code
module _ (s : List ℕ) (form : Form) (k : ℕ) (q : code_of (take 5 s) ≡ code.Read k) (c : ℕ) where
  fields : fields_on s ≡ fields_of k
  unfolding fields_on
  fields = ap fields_under q

  -- behind a label there is none at column 6
  label_past : (l u : List ℕ) → 6 + length l ≤ c → (eqb c 6 && not (alike (take (length l) u) l)) ≡ false
  unfolding alike
  label_past [] u h = never (eqb c 6)
  label_past (x ∷ l) u h = rw (ne_eqb c 6 (λ e. absurd (omega arith)))

  label-mark : (x : Bool) → eqb c 6 ≡ x → (y : Bool)
      → cond (x && not y) (Some (refusal 8 1 6)) None ≡ marked (cond (x && not y) 8 0) c
  label-mark true e true = refl
  label-mark true e false = ap (λ j. Some (refusal 8 1 j)) (sym (eqb-true c 6 e))
  label-mark false e y = refl

  pub column_rows_lem : given (column_rows form s c) ≡ marked (offence_at k form s c) c
  unfolding given column_rows label_differs label_on is_gap offence_at label_offence label_stands
  column_rows_lem = rw (fields, q) (elim (dec_lt c (6 + length (label_of k))) [
    | yes h ↦
        rw (
          lt-ltb c (6 + length (label_of k)) h,
          lt-leb (6 + length (label_of k)) c h,
          later_none s k fields form c
              (6 + length (label_of k)) (fields_of k) (in_order k) h,
        )
        (label-mark (eqb c 6) refl (alike (take (length (label_of k)) (drop 5 s)) (label_of k)))
    | no h ↦
        rw (
          le-ltb c (6 + length (label_of k)) (omega arith),
          le-leb (6 + length (label_of k)) c (omega arith),
          label_past
              (label_of k) (drop 5 s) (omega arith),
        )
        (behind-mark s k fields form c (6 + length (label_of k)) (fields_of k) (in_order k))
  ])

-- a column of any other card has no row that holds
pub not-read : (s : List ℕ) (form : Form) (c : ℕ) → is_read (code_of (take 5 s)) ≡ false → given (column_rows form s c) ≡ None
unfolding given column_rows label_differs label_on is_gap fields_on begin_rows alike
not-read s form c h = go (code_of (take 5 s)) refl h
  where
    go : (x : Code) → code_of (take 5 s) ≡ x → is_read x ≡ false → given (column_rows form s c) ≡ None
    go (code.Read k) q e = absurd (true≢false e)
    go code.Passed q e = rw (q, never (eqb c 6))
    go code.Unknown q e = rw (q, never (eqb c 6))
