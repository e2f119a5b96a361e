-- What was read from a card can be put into it again: a value in its one spelling, a text and absence as they stand.
use Prim.Native.Nat.{ℕ, ◌-◌}
use native.Mathlib.Omega.{arith}
use mathlib.Core.Path.{◌≡◌, refl, sym, ap, subst, ◌∙◌}
use mathlib.Core.List.{List}
use mathlib.Core.Bool.{Bool, true, false, cond, ◌&&◌, true≢false}
use lib.ListN.{length, drop}
use borrow.Rule.Slice.PartMut.{put_same}
use Rattle.base_digits.specs.digits.Columns.{agreed}
use Rattle.value_text.specs.text.Texts.{text_of, printable}
use Rattle.value_text.proofs.text.Agreed.{printable_front}
use Rattle.base_value.specs.declared.Columns.{Columns}
use Rattle.base_value.specs.declared.Value.{Value}
use Rattle.base_value.specs.declared.Value.TheVariants.{Absent, Whole, Decimal, Angle, Date, Text}
use Rattle.value_field.specs.declared.spelling.Spelling.{Spelling}
use Rattle.value_field.specs.spelling.Reading.{reading_of, is_text}
use Rattle.value_field.specs.writing.Writing.{entry_of, text_entry_of, again_in, rewritten_of}
use Rattle.value_field.proofs.spelling.Absence.{zero_one, blank_in, absent_only}
use Rattle.value_field.proofs.writing.Agreed.{value_rewritten as columns-rewritten, text_rewritten as columns-kept}
use Rattle.value_field.proofs.writing.Back.{value_back}
use Rattle.format_layout.specs.declared.Field.{Field}
use Rattle.format_layout.specs.Forms.{form_numbered}
use Rattle.format_layout.specs.ranges.Ranges.{in_range}
use Rattle.card_field.specs.seeking.Card.{sought_of}
use Rattle.card_field.specs.judging.Fields.{on_card, value_of, held_of, judged_of}
use Rattle.card_field.specs.needing.Needs.{columns_of, needed_on, needed_after}
use Rattle.card_field.specs.Reading.{field_reading, holds_text, field_text}
use Rattle.card_field.proofs.seeking.Steps.{found-there, found-coded}
use Rattle.card_field.proofs.Steps.{text-is}
use Rattle.card_put.specs.Putting.{placed, placed_in, is_absent, within, by_entry, putting_of, putting_text_of}
use Rattle.format_layout.specs.Columns.{width}
use Rattle.card_field.proofs.seeking.Bytes.{bad-none, rest_printable}
use Rattle.card_put.proofs.Steps.{columns_wide, field_fits, text-is as text-put-is}
use Rattle.card_laws.proofs.rewriting.Need.{blank_need}
use Rattle.card_laws.proofs.rewriting.Answers.{spelling_in, Read, was_read, put_so}
use Rattle.card_laws.proofs.rewriting.Untouched.{value_outside}
use Rattle.card_laws.proofs.rewriting.Back.{nothing_blank, value_put_back}
use Rattle.card_laws.proofs.rewriting.Anew.{value_twice}
use Rattle.std.specs.Prelude.{Ok, Err, Result}
use Rattle.card_field.specs.Fields.{field_read}
use Rattle.card_field.specs.seeking.Found.{sought}

-- a value that passed need and range, and is no text, is the one that its columns say
abbrev Passed : Bool → Field → Value → Value → Type 0
Passed needed f u v = (u ≡ v) × (within f v ≡ true) × ((is_absent v && needed) ≡ false)

value_passed : (needed : Bool) (f : Field) (u v : Value) → value_of needed f u ≡ Ok v → holds_text (Ok v) ≡ false
    → Passed needed f u v
unfolding value_of holds_text
value_passed needed f Absent v h x = go needed h
  where
    go : (b : Bool) → cond {A = Result Value ℕ} b (Err 11) (Ok Absent) ≡ Ok v → Passed b f Absent v
    go true h = absurd (zero_one cc)
    go false h = let q : Absent ≡ v = cc in subst (Passed false f Absent) q (refl, refl, refl)
value_passed needed f (Whole z) v h x = go (in_range f.range z) refl h
  where
    go : (b : Bool) → in_range f.range z ≡ b → cond {A = Result Value ℕ} b (Ok (Whole z)) (Err 10) ≡ Ok v
        → Passed needed f (Whole z) v
    go true y h = let q : Whole z ≡ v = cc in subst (Passed needed f (Whole z)) q (refl, y, refl)
    go false y h = absurd (zero_one cc)
value_passed needed f (Decimal d) v h x = let q : Decimal d ≡ v = cc in subst (Passed needed f (Decimal d)) q (refl, refl, refl)
value_passed needed f (Angle z) v h x = let q : Angle z ≡ v = cc in subst (Passed needed f (Angle z)) q (refl, refl, refl)
value_passed needed f (Date d) v h x = let q : Date d ≡ v = cc in subst (Passed needed f (Date d)) q (refl, refl, refl)
value_passed needed f (Text c) v h x =
    let q : on_card f (Text c) ≡ v = cc in
    absurd (true≢false (ap (λ u. holds_text (Ok u)) q ∙ x))

-- a text was a text in its columns
text-passed : (needed : Bool) (f : Field) (u : Value) (c : Columns) → value_of needed f u ≡ Ok (Text c)
    → (d : Columns) × (u ≡ Text d)
unfolding value_of
text-passed needed f Absent c h = go needed h
  where
    go : (b : Bool) → cond {A = Result Value ℕ} b (Err 11) (Ok Absent) ≡ Ok (Text c) → (d : Columns) × (Absent ≡ Text d)
    go true h = absurd (zero_one cc)
    go false h = absurd (zero_one cc)
text-passed needed f (Whole z) c h = go (in_range f.range z) h
  where
    go : (b : Bool) → cond {A = Result Value ℕ} b (Ok (Whole z)) (Err 10) ≡ Ok (Text c) → (d : Columns) × (Whole z ≡ Text d)
    go true h = absurd (zero_one cc)
    go false h = absurd (zero_one cc)
text-passed needed f (Decimal d) c h = absurd (zero_one cc)
text-passed needed f (Angle z) c h = absurd (zero_one cc)
text-passed needed f (Date d) c h = absurd (zero_one cc)
text-passed needed f (Text d) c h = (d, refl)

-- what columns say can be entered in their width
module _ (k : Spelling) (t : List ℕ) where
  rewritten : (v : Value) → reading_of k t ≡ Ok v → is_text (Ok v) ≡ false
      → (u : List ℕ) × (again_in k t (Ok v) ≡ agreed u)
  unfolding rewritten_of
  rewritten v e x = let r = columns-rewritten k t v e x in (r.columns, sym (ap (again_in k t) e) ∙ r.rewritten)

  entry_agrees : (v : Value) → reading_of k t ≡ Ok v → holds_text (Ok v) ≡ false
      → (u : List ℕ) × (entry_of k (length t) v ≡ agreed u)
  unfolding again_in is_text holds_text
  entry_agrees Absent e x = rewritten Absent e refl
  entry_agrees (Whole z) e x = rewritten (Whole z) e refl
  entry_agrees (Decimal d) e x = rewritten (Decimal d) e refl
  entry_agrees (Angle z) e x = rewritten (Angle z) e refl
  entry_agrees (Date d) e x = rewritten (Date d) e refl
  entry_agrees (Text c) e x = absurd (true≢false x)

  text_agrees : (c : Columns) → reading_of k t ≡ Ok (Text c) → printable t ≡ true
      → text_entry_of k (length t) (text_of t) ≡ agreed t
  unfolding rewritten_of again_in
  text_agrees c e p = sym (ap (again_in k t) e) ∙ columns-kept k t c e p

module _ (s : List ℕ) (n form k : ℕ) (f : Field) (q : sought_of s n form ≡ Ok (sought k f)) where
  wide : length (columns_of f s) ≡ width f
  unfolding columns_of
  wide =
      let h = field_fits s n form k f q in
      columns_wide s (f.first - 1) f.last (omega (arith, h.2)) (omega (arith, h.0, h.3))

  same_columns : placed_in f s (columns_of f s) ≡ s
  unfolding placed_in columns_of
  same_columns = put_same (f.first - 1) (width f) s

  printed : printable (columns_of f s) ≡ true
  unfolding columns_of
  printed =
      let b = (found-coded s n form k f q).0 in
      let w = (found-there s n form k f q).whole in
      printable_front (width f) (drop (f.first - 1) s) (rest_printable (f.first - 1) s (bad-none s (omega arith)))

  handed : holds_text (judged_of k s f (form_numbered form)) ≡ true → text_of (columns_of f s) ≡ field_text s n form
  unfolding columns_of
  handed h = text-is s n form k f q (judged_of k s f (form_numbered form)) refl h f.first f.last refl refl (columns_of f s) refl

  -- a value whose need the card met does not become needed by being put again
  still_free : (v : Value) → reading_of (spelling_in f form) (columns_of f s) ≡ Ok v
      → (is_absent v && needed_on k s f) ≡ false → (is_absent v && needed_after k s n f) ≡ false
  still_free Absent e h =
      sym (blank_need k n f (found-there s n form k f q).field s (nothing_blank (spelling_in f form) (columns_of f s) e)) ∙ h
  still_free (Whole z) e h = refl
  still_free (Decimal d) e h = refl
  still_free (Angle z) e h = refl
  still_free (Date d) e h = refl
  still_free (Text c) e h = refl

-- what putting a value again leaves: a card of 80 columns that says the same, not misplaced, and that putting it once more leaves as it is
pub record Rewritten (s : List ℕ) (n form : ℕ) (v : Value) : Type 0 where
  pub card : List ℕ
  pub put : putting_of s n form v ≡ placed card
  pub says : field_reading card n form ≡ Ok (field_read v false)
  pub twice : putting_of card n form v ≡ placed card
  pub whole : length card ≡ 80

-- columns that say a value, and the entry by which it is put into them again
record Again (s : List ℕ) (n form : ℕ) (v : Value) (f : Field) : Type 0 where
  says : reading_of (spelling_in f form) (columns_of f s) ≡ Ok v
  columns : List ℕ
  entry : entry_of (spelling_in f form) (length (columns_of f s)) v ≡ agreed columns
  put : putting_of s n form v ≡ placed (placed_in f s columns)

module _ (s : List ℕ) (n form : ℕ) where
  again : (v : Value) (r : Read s n form v) → holds_text (Ok v) ≡ false → Again s n form v r.field
  again v r x =
      let k = r.code in
      let f = r.field in
      let q = r.found in
      let h = value_passed (needed_on k s f) f r.value v r.held x in
      let e = r.says ∙ ap Ok h.0 in
      let a = entry_agrees (spelling_in f form) (columns_of f s) v e x in
      let fits = ap (λ w. entry_of (spelling_in f form) w v) (sym (wide s n form k f q)) ∙ a.1 in
      let free = still_free s n form k f q v e h.2 in
      record { says = e; columns = a.0; entry = a.1; put = put_so s n form k f q v a.0 fits h.1 free }

  -- a value that was read, misplaced or not, put again
  pub value_rewritten : (v : Value) {b : Bool} → field_reading s n form ≡ Ok (field_read v b) → holds_text (Ok v) ≡ false → Rewritten s n form v
  value_rewritten v e x =
      let r = was_read s n form v e in
      let a = again v r x in
      let card = placed_in r.field s a.columns in
      let outside = value_outside s n form r.code r.field r.found card v a.put in
      record {
        card = card;
        put = a.put;
        says = value_put_back s n form v card a.put;
        twice = value_twice s card n form v a.put;
        whole = outside.length-is ∙ (found-there s n form r.code r.field r.found).whole;
      }

  -- a text that was read, put again, leaves the very card
  pub text_rewritten : (c : Columns) {b : Bool} → field_reading s n form ≡ Ok (field_read (Text c) b)
      → putting_text_of s n form (field_text s n form) ≡ placed s
  unfolding by_entry held_of judged_of holds_text
  text_rewritten c e =
      let r = was_read s n form (Text c) e in
      let k = r.code in
      let f = r.field in
      let sp = spelling_in f form in
      let h = text-passed (needed_on k s f) f r.value c r.held in
      let t = columns_of f s in
      let a = text_agrees sp t h.0 (r.says ∙ ap Ok h.1) (printed s n form k f r.found) in
      let j : judged_of k s f (form_numbered form) ≡ Ok (Text c) = ap (held_of (needed_on k s f) f) r.says ∙ r.held in
      let x : text_of t ≡ field_text s n form = handed s n form k f r.found (ap holds_text j) in
      text-put-is s n form k f r.found (form_numbered form) refl (field_text s n form)
      ∙ ap (λ y. by_entry f s (text_entry_of sp (width f) y)) (sym x)
      ∙ ap (λ w. by_entry f s (text_entry_of sp w (text_of t))) (sym (wide s n form k f r.found))
      ∙ ap (by_entry f s) a
      ∙ ap placed (same_columns s n form k f r.found)

  -- a field that is blank, blanked, leaves the very card
  pub absent_rewritten : {b : Bool} → field_reading s n form ≡ Ok (field_read Absent b) → putting_of s n form Absent ≡ placed s
  unfolding holds_text
  absent_rewritten e =
      let r = was_read s n form Absent e in
      let f = r.field in
      let sp = spelling_in f form in
      let t = columns_of f s in
      let a = again Absent r refl in
      let u = a.columns in
      let b = value_back (length t) u sp Absent a.entry in
      let same : u ≡ t = absent_only u sp b.0 ∙ ap blank_in b.1 ∙ sym (absent_only t sp a.says) in
      a.put ∙ ap (λ x. placed (placed_in f s x)) same ∙ ap placed (same_columns s n form r.code f r.found)
