-- What a put placed on a card is what reading says: every value, absence too, and every text.
use Prim.Native.Nat.{ℕ, ◌+◌, ◌-◌}
use mathlib.Core.Path.{◌≡◌, refl, sym, ap, ◌∙◌}
use mathlib.Core.List.{List, []}
use mathlib.Core.Bool.{Bool, true, false}
use lib.ListN.{length}
use lib.Seq.{length-take-le}
use borrow.Author.Tests.{eq-eqb, ne_eqb}
use Rattle.base_digits.specs.digits.Columns.{agreed}
use Rattle.value_text.specs.text.Texts.{text_end, text_of, printable}
use Rattle.value_text.proofs.text.Agreed.{end_le}
use Rattle.value_text.proofs.text.Back.{PutText, text_back, end_blanks}
use Rattle.base_value.specs.declared.Value.{Value}
use Rattle.base_value.specs.declared.Value.TheVariants.{Absent, Whole, Decimal, Angle, Date, Text}
use Rattle.value_field.specs.declared.spelling.Spelling.{Spelling}
use Rattle.value_field.specs.declared.spelling.Spelling.TheVariants as spelled
use Rattle.value_field.specs.spelling.Reading.{reading_of, text_reading, misplaced_in}
use Rattle.value_field.specs.writing.Writing.{text_entry_of}
use Rattle.value_field.proofs.spelling.Absence.{absent_only}
use Rattle.value_field.proofs.writing.Back.{never, value_back, value_placed, text-placed, text-read_back}
use Rattle.value_field.proofs.writing.Printed.{value_printed, text-printed}
use Rattle.format_layout.specs.declared.Field.{Field}
use Rattle.format_layout.specs.Forms.{form_numbered}
use Rattle.card_field.specs.seeking.Card.{sought_of}
use Rattle.card_field.specs.judging.Fields.{value_of, held_of, judged_of}
use Rattle.card_field.specs.needing.Needs.{columns_of, is_blank, needed_on}
use Rattle.card_field.specs.Reading.{answered_of, field_reading, holds_text, field_text}
use Rattle.card_field.proofs.seeking.Steps.{found-there}
use Rattle.card_field.proofs.Steps.{reading_is}
use Rattle.card_put.specs.Putting.{placed, placed_in, is_absent, putting_of, putting_text_of}
use Rattle.format_layout.specs.Columns.{width}
use Rattle.card_put.proofs.Back.{still_there, now_holds, now_placed, value_read_back, text-read_back as text-handed-back}
use Rattle.card_laws.proofs.rewriting.Need.{blanked_need}
use Rattle.card_laws.proofs.rewriting.Reasons.{text_no_value}
use Rattle.card_laws.proofs.rewriting.Untouched.{value_outside}
use Rattle.card_laws.proofs.rewriting.Answers.{spelling_in, Put, put_made, PutText as PlacedText, text_made}
use Rattle.std.specs.Prelude.{Ok}
use Rattle.card_field.specs.Fields.{field_read}
use Rattle.card_field.specs.seeking.Found.{sought, Sought}

-- columns that say nothing are blank
pub nothing_blank : (k : Spelling) (t : List ℕ) → reading_of k t ≡ Ok Absent → is_blank t ≡ true
unfolding is_blank text_end
nothing_blank k t e = eq-eqb (text_end t) 0 (ap text_end (absent_only t k e) ∙ end_blanks [] (length t))

-- a text from a column on
abbrev text_from : ℕ → ℕ → Value
text_from first last = Text (record { first = first; last = last })

-- the columns of a text that was put say where it stands
text-reads : (lead : Bool) (w : ℕ) (x t : List ℕ) → PutText lead w x t → text_reading lead t ≡ Ok (text_from 1 (length x))
unfolding text_reading text_of
text-reads lead w x t p =
    let e : text_end t ≡ length x = sym (length-take-le (text_end t) t (end_le t)) ∙ ap length p.text in
    rw (ne_eqb (text_end t) 0 p.some, p.front, e)

text_says : (k : Spelling) (w : ℕ) (x t : List ℕ) → text_entry_of k w x ≡ agreed t
    → reading_of k t ≡ Ok (text_from 1 (length x))
unfolding text_entry_of reading_of
text_says spelled.Text w x t e = text-reads false w x t (text_back false w x t e)
text_says spelled.Comment w x t e = text-reads true w x t (text_back true w x t e)
text_says spelled.Whole w x t e = absurd (never e)
text_says spelled.Decimal w x t e = absurd (never e)
text_says spelled.Date w x t e = absurd (never e)
text_says spelled.Latitude w x t e = absurd (never e)
text_says spelled.Longitude w x t e = absurd (never e)
text_says spelled.Northing w x t e = absurd (never e)
text_says spelled.Easting w x t e = absurd (never e)

module _ (s : List ℕ) (n form : ℕ) where
  -- what a field says on a card with other columns in it
  placed-reads : (k : ℕ) (f : Field) → sought_of s n form ≡ Ok (sought k f) → (t : List ℕ) → length t ≡ width f
      → printable t ≡ true → (v : Value) → reading_of (spelling_in f form) t ≡ Ok v → misplaced_in (spelling_in f form) t ≡ false
      → field_reading (placed_in f s t) n form ≡ answered_of f false (value_of (needed_on k (placed_in f s t) f) f v)
  unfolding answered_of held_of judged_of
  placed-reads k f q t l p v e m =
      let card = placed_in f s t in
      sym (reading_is card n form k f (still_there s n form k f q t l p) (judged_of k card f (form_numbered form)) refl false
      (sym (now_placed s n form k f q t l p ∙ m)))
      ∙ ap (λ c. answered_of f false (held_of (needed_on k card f) f (reading_of (spelling_in f form) c))) (now_holds s n form k f q t l p)
      ∙ ap (λ r. answered_of f false (held_of (needed_on k card f) f r)) e

  -- a blanked field is read as absent: its need looks at the other fields only, and they are as they were
  absent_back : (card : List ℕ) → putting_of s n form Absent ≡ placed card → Put s n form Absent card
      → field_reading card n form ≡ Ok (field_read Absent false)
  unfolding answered_of value_of
  absent_back card e p =
      let k = p.code in
      let f = p.field in
      let t = p.columns in
      let sp = spelling_in f form in
      let there = (found-there s n form k f p.found).field in
      let b = value_back (width f) t sp Absent p.entry in
      let printed = value_printed (width f) t sp Absent p.entry in
      let c = placed_in f s t in
      let o = value_outside s n form k f p.found c Absent (e ∙ ap placed (sym p.card_is)) in
      let holds = now_holds s n form k f p.found t b.1 printed in
      let blank : is_blank (columns_of f c) ≡ true = ap is_blank holds ∙ nothing_blank sp t b.0 in
      let free : needed_on k c f ≡ false = blanked_need k n f there s c o blank ∙ p.free in
      ap (λ x. field_reading x n form) (sym p.card_is)
      ∙ placed-reads k f p.found t b.1 printed Absent b.0 (value_placed (width f) t sp Absent p.entry)
      ∙ ap (λ x. answered_of f false (value_of x f Absent)) free

  -- a value that was put is the value read, and is not misplaced
  pub value_put_back : (v : Value) (card : List ℕ) → putting_of s n form v ≡ placed card → field_reading card n form ≡ Ok (field_read v false)
  unfolding holds_text
  value_put_back v card e = go v e (put_made s n form v card e)
    where
      there : (v : Value) → is_absent v ≡ false → holds_text (Ok v) ≡ false → Put s n form v card
          → field_reading card n form ≡ Ok (field_read v false)
      there v a x p =
          ap (λ c. field_reading c n form) (sym p.card_is)
          ∙ value_read_back s n form p.code p.field p.found v p.columns p.entry p.ranged a x

      go : (v : Value) → putting_of s n form v ≡ placed card → Put s n form v card → field_reading card n form ≡ Ok (field_read v false)
      go Absent e p = absent_back card e p
      go (Whole z) e p = there (Whole z) refl refl p
      go (Decimal d) e p = there (Decimal d) refl refl p
      go (Angle z) e p = there (Angle z) refl refl p
      go (Date d) e p = there (Date d) refl refl p
      go (Text c) e p = absurd (never (sym (text_no_value (spelling_in p.field form) (width p.field) c) ∙ p.entry))

  -- a text that was put is the text handed back
  pub text_put_back : (x card : List ℕ) → putting_text_of s n form x ≡ placed card → field_text card n form ≡ x
  text_put_back x card e =
      let p = text_made s n form x card e in
      ap (λ c. field_text c n form) (sym p.card_is)
      ∙ text-handed-back s n form p.code p.field p.found x p.columns p.entry

  -- and its columns are read from the field's first one on
  pub text-columns_back : (k : ℕ) (f : Field) → sought_of s n form ≡ Ok (sought k f) → (x card : List ℕ)
      → putting_text_of s n form x ≡ placed card
      → field_reading card n form ≡ Ok (field_read (Text (record { first = f.first; last = f.first - 1 + length x })) false)
  unfolding answered_of value_of
  text-columns_back k f q x card e = go (text_made s n form x card e)
    where
      go : PlacedText s n form x card → field_reading card n form ≡ Ok (field_read (text_from f.first (f.first - 1 + length x)) false)
      go p =
          let g = p.field in
          let t = p.columns in
          let one : sought p.code g ≡ sought k f = cc p.found in
          let same : g ≡ f = ap (λ (x : Sought). x.field) one in
          let sp = spelling_in g form in
          let wide = (text-read_back sp (width g) x t p.entry).1 in
          let printed = text-printed (width g) t sp x p.entry in
          ap (λ c. field_reading c n form) (sym p.card_is)
          ∙ placed-reads p.code g p.found t wide printed (text_from 1 (length x)) (text_says sp (width g) x t p.entry)
          (text-placed sp (width g) x t p.entry)
          ∙ ap (λ (y : Field). Ok (field_read (text_from y.first (y.first - 1 + length x)) false)) same
