-- What was put into a field of a card is what reading that field says.
use Prim.Native.Nat.{ℕ, ◌-◌, ◌≤◌}
use native.Mathlib.Omega.{arith}
use mathlib.Core.Path.{◌≡◌, refl, sym, ap, ◌∙◌}
use mathlib.Core.List.{List, [], ◌++◌}
use mathlib.Core.Bool.{Bool, true, false, cond, true≢false}
use lib.ListN.{length, take, drop}
use lib.Seq.{length-take-le, take-append-le, take-take, drop_at, take_at}
use borrow.Rule.Slice.PartMut.{same_len_mid}
use Rattle.base_digits.specs.digits.Columns.{agreed}
use Rattle.value_text.specs.text.Texts.{text_of, printable}
use Rattle.value_text.proofs.text.Agreed.{printable_front}
use Rattle.base_value.specs.declared.Value.{Value}
use Rattle.base_value.specs.declared.Value.TheVariants.{Absent, Whole, Decimal, Angle, Date, Text}
use Rattle.base_value.specs.declared.Unread.TheVariants as unread
use Rattle.value_field.specs.spelling.Reading.{reading_of, misplaced_in, is_text, text_read}
use Rattle.value_field.specs.writing.Writing.{entry_of, text_entry_of}
use Rattle.value_field.proofs.writing.Back.{value_back, value_placed, text-read_back as field-text-back}
use Rattle.value_field.proofs.writing.Printed.{both, value_printed, text-printed}
use Rattle.format_layout.specs.declared.Field.{Field}
use Rattle.format_layout.specs.Forms.{form_numbered}
use Rattle.format_code.specs.Codes.{code_of}
use Rattle.format_layout.specs.ranges.Ranges.{in_range}
use Rattle.format_layout.proofs.Numbers.{found_lies}
use Rattle.card_field.specs.seeking.Card.{coded, sought_of}
use Rattle.value_text.specs.printable.Bytes.{first_bad}
use Rattle.card_field.specs.judging.Fields.{spelling_of, value_of, held_of, judged_of, misplaced_on}
use Rattle.card_field.specs.needing.Needs.{columns_of, needed_on}
use Rattle.card_field.specs.Reading.{answered_of, field_reading, holds_text, text_on, field_text}
use Rattle.card_field.proofs.seeking.Steps.{found-there, found-coded, sought_coded}
use Rattle.card_field.proofs.Steps.{reading_is}
use Rattle.format_layout.specs.Columns.{width}
use Rattle.card_put.specs.Putting.{placed_in, is_absent, within}
use Rattle.card_field.proofs.seeking.Bytes.{none-bad, bad-none, rest_printable}
use Rattle.card_put.proofs.Steps.{columns_wide}
use Rattle.std.specs.Prelude.{Result, Ok, Err}
use Rattle.base_value.specs.declared.Unread.{Unread}
use Rattle.card_field.specs.Fields.{field_read}
use Rattle.card_field.specs.seeking.Found.{sought}

-- a card with other bytes in a field's columns, as many and printable
module _ (s : List ℕ) (n form k : ℕ) (f : Field) (q : sought_of s n form ≡ Ok (sought k f))
    (t : List ℕ) (wide : length t ≡ width f) (printed : printable t ≡ true) where
  whole : length s ≡ 80
  whole = (found-there s n form k f q).whole

  after_code : 6 ≤ f.first
  after_code = let l = found_lies k n f (found-there s n form k f q).field in omega (arith, l.after)

  forward : f.first ≤ f.last
  forward = (found_lies k n f (found-there s n form k f q).field).forward

  on_card_lem : f.last ≤ length s
  on_card_lem = let l = found_lies k n f (found-there s n form k f q).field in omega (arith, whole, l.on_card)

  before : length (take (f.first - 1) s) ≡ f.first - 1
  before = length-take-le (f.first - 1) s (omega (arith, after_code, forward, on_card_lem))

  still_whole : length (placed_in f s t) ≡ 80
  unfolding placed_in
  still_whole =
      same_len_mid (f.first - 1) (width f) s t (wide ∙ sym (columns_wide s (f.first - 1) f.last (omega (arith, forward)) on_card_lem)) ∙ whole

  same_code : take 5 (placed_in f s t) ≡ take 5 s
  unfolding placed_in
  same_code =
      take-append-le 5 (take (f.first - 1) s) (t ++ drop (width f) (drop (f.first - 1) s)) (omega (arith, before, after_code))
      ∙ take-take 5 (f.first - 1) s (omega (arith, after_code))

  still_printable : printable (placed_in f s t) ≡ true
  unfolding placed_in
  still_printable =
      let p : printable s ≡ true = bad-none s (omega (arith, whole, (found-coded s n form k f q).0)) in
      both (take (f.first - 1) s) (t ++ drop (width f) (drop (f.first - 1) s)) (printable_front (f.first - 1) s p)
      (both t (drop (width f) (drop (f.first - 1) s)) printed (rest_printable (width f) (drop (f.first - 1) s) (rest_printable (f.first - 1) s p)))

  -- the field is found again
  pub still_there : sought_of (placed_in f s t) n form ≡ Ok (sought k f)
  still_there =
      sought_coded (placed_in f s t) n form (λ z. omega (arith, still_whole)) still_whole (first_bad (placed_in f s t)) refl
      (omega (arith, none-bad (placed_in f s t) still_printable, still_whole))
      ∙ ap (λ c. coded (code_of c) n form) same_code
      ∙ (found-coded s n form k f q).1

  -- and its columns are the bytes that were put
  pub now_holds : columns_of f (placed_in f s t) ≡ t
  unfolding columns_of placed_in
  now_holds =
      ap (take (width f)) (drop_at (take (f.first - 1) s) (t ++ drop (width f) (drop (f.first - 1) s)) (f.first - 1) before)
      ∙ take_at t (drop (width f) (drop (f.first - 1) s)) (width f) wide

  -- and a number among them is misplaced where it was before it was put
  pub now_placed : misplaced_on (placed_in f s t) f (form_numbered form) ≡ misplaced_in (spelling_of f.kind (form_numbered form)) t
  unfolding misplaced_on
  now_placed = ap (misplaced_in (spelling_of f.kind (form_numbered form))) now_holds

-- a value in its range, held against its field, is itself
held-again : (needed : Bool) (f : Field) (v : Value) → is_absent v ≡ false → holds_text (Ok v) ≡ false → within f v ≡ true → value_of needed f v ≡ Ok v
unfolding value_of holds_text
held-again needed f Absent a x h = absurd (true≢false a)
held-again needed f (Whole z) a x h = rw h
held-again needed f (Decimal d) a x h = refl
held-again needed f (Angle z) a x h = refl
held-again needed f (Date d) a x h = refl
held-again needed f (Text c) a x h = absurd (true≢false x)

-- a value that was put into a field is read from it, and is not misplaced
pub value_read_back : (s : List ℕ) (n form k : ℕ) (f : Field) → sought_of s n form ≡ Ok (sought k f) → (v : Value) (t : List ℕ)
    → entry_of (spelling_of f.kind (form_numbered form)) (width f) v ≡ agreed t → within f v ≡ true → is_absent v ≡ false → holds_text (Ok v) ≡ false
    → field_reading (placed_in f s t) n form ≡ Ok (field_read v false)
unfolding answered_of held_of judged_of
value_read_back s n form k f q v t e h a x =
    let sp = spelling_of f.kind (form_numbered form) in
    let b = value_back (width f) t sp v e in
    let p = value_printed (width f) t sp v e in
    let card = placed_in f s t in
    let m = now_placed s n form k f q t b.1 p ∙ value_placed (width f) t sp v e in
    sym (reading_is card n form k f (still_there s n form k f q t b.1 p) (judged_of k card f (form_numbered form)) refl false (sym m))
    ∙ ap (λ c. answered_of f false (held_of (needed_on k card f) f (reading_of sp c))) (now_holds s n form k f q t b.1 p)
    ∙ ap (λ r. answered_of f false (held_of (needed_on k card f) f r)) b.0
    ∙ ap (answered_of f false) (held-again (needed_on k card f) f v a x h)

-- need and range do not turn a text into none
texts_alike : (needed : Bool) (f : Field) (r : Result Value Unread) → holds_text (held_of needed f r) ≡ is_text r
unfolding held_of value_of holds_text is_text
texts_alike needed f (Err unread.Malformed) = refl
texts_alike needed f (Err unread.OutOfRange) = refl
texts_alike needed f (Ok Absent) = go needed
  where
    go : (b : Bool) → holds_text (cond b (Err 11) (Ok Absent)) ≡ false
    go true = refl
    go false = refl
texts_alike needed f (Ok (Whole z)) = go (in_range f.range z)
  where
    go : (b : Bool) → holds_text (cond b (Ok (Whole z)) (Err 10)) ≡ false
    go true = refl
    go false = refl
texts_alike needed f (Ok (Decimal d)) = refl
texts_alike needed f (Ok (Angle z)) = refl
texts_alike needed f (Ok (Date d)) = refl
texts_alike needed f (Ok (Text c)) = refl

-- a text that was put into a field is the text handed back
pub text-read_back : (s : List ℕ) (n form k : ℕ) (f : Field) → sought_of s n form ≡ Ok (sought k f) → (x t : List ℕ)
    → text_entry_of (spelling_of f.kind (form_numbered form)) (width f) x ≡ agreed t → field_text (placed_in f s t) n form ≡ x
unfolding field_text text_on judged_of text_read
text-read_back s n form k f q x t e =
    let sp = spelling_of f.kind (form_numbered form) in
    let b = field-text-back sp (width f) x t e in
    let p = text-printed (width f) t sp x e in
    let card = placed_in f s t in
    ap (text_on card (form_numbered form)) (still_there s n form k f q t b.1 p)
    ∙ ap (λ c. cond (holds_text (held_of (needed_on k card f) f (reading_of sp c))) (text_of c) []) (now_holds s n form k f q t b.1 p)
    ∙ ap (λ y. cond y (text_of t) []) (texts_alike (needed_on k card f) f (reading_of sp t))
    ∙ b.0
