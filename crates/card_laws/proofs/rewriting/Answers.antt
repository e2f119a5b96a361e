-- What an answer tells: of a value or a text that was put, and of a value that was read.
use Prim.Native.Nat.{ℕ}
use mathlib.Core.Path.{◌≡◌, refl, ap, ◌∙◌}
use mathlib.Core.List.{List}
use mathlib.Core.Bool.{Bool, true, false, cond, ◌&&◌}
use Rattle.base_refusal.specs.declared.Unwritten.TheVariants as unwritten
use Rattle.base_digits.specs.digits.Columns.{Entry, agreed, refused}
use Rattle.base_value.specs.declared.Value.{Value}
use Rattle.base_value.specs.declared.Unread.TheVariants as unread
use Rattle.value_field.specs.declared.spelling.Spelling.{Spelling}
use Rattle.value_field.specs.spelling.Reading.{reading_of}
use Rattle.value_field.specs.writing.Writing.{entry_of, text_entry_of}
use Rattle.value_field.proofs.spelling.Absence.{zero_one}
use Rattle.format_layout.specs.declared.Field.{Field}
use Rattle.format_layout.specs.Forms.{form_numbered}
use Rattle.base_refusal.specs.Refusals.{refusal}
use Rattle.card_field.specs.seeking.Card.{sought_of}
use Rattle.card_field.specs.judging.Fields.{spelling_of, value_of, held_of, judged_of, misplaced_on}
use Rattle.card_field.specs.needing.Needs.{columns_of, needed_on, needed_after}
use Rattle.card_field.specs.Reading.{answered_of, field_on, field_reading}
use Rattle.card_put.specs.Putting.{Putting, placed, stays, placed_in, is_absent, within, is_other, came_of, by_entry, value_put, value_at, text_at, putting_of, putting_text_of}
use Rattle.format_layout.specs.Columns.{width}
use Rattle.card_put.proofs.Steps.{value_is, put_entered}
use Rattle.card_laws.proofs.rewriting.Reasons.{is_done, value_reason, text_reason}
use Rattle.std.specs.Prelude.{Result, Ok, Err}
use Rattle.card_field.specs.declared.FieldRead.{FieldRead}
use Rattle.base_refusal.specs.declared.Refusal.{Refusal}
use Rattle.base_value.specs.declared.Unread.{Unread}
use Rattle.card_field.specs.Fields.{field_read}
use Rattle.card_field.specs.seeking.Found.{Sought, sought}

-- how a field is spelled in a form
abbrev pub spelling_in : Field → ℕ → Spelling
spelling_in f form = spelling_of f.kind (form_numbered form)

-- a put that a 12, an 11 or a 10 comes before, in this order
abbrev pub unless : Field → Bool → Bool → Bool → Putting → Putting
unless f other missing ranged made =
    cond other (stays (refusal 12 1 0))
    (cond missing (stays (refusal 11 1 f.first)) (cond ranged made (stays (refusal 10 1 0))))

-- an entry that was made on a card: its columns, and the card with them
entry_made : (f : Field) (s card : List ℕ) (e : Entry) → is_done e ≡ false → by_entry f s e ≡ placed card
    → (t : List ℕ) × (e ≡ agreed t) × (placed_in f s t ≡ card)
unfolding by_entry came_of
entry_made f s card (agreed t) d h = (t, refl, cc)
entry_made f s card (refused unwritten.Unprintable) d h = absurd (zero_one cc)
entry_made f s card (refused unwritten.Malformed) d h = absurd (zero_one cc)
entry_made f s card (refused unwritten.OutOfRange) d h = absurd (zero_one cc)
entry_made f s card (refused unwritten.OtherKind) d h = absurd (zero_one cc)
entry_made f s card (refused unwritten.NoRoom) d h = absurd (zero_one cc)

-- a value that was put: the field that was found, what its columns now hold, and that neither range nor need forbade it
pub record Put (s : List ℕ) (n form : ℕ) (v : Value) (card : List ℕ) : Type 0 where
  pub code : ℕ
  pub field : Field
  pub found : sought_of s n form ≡ Ok (sought code field)
  pub columns : List ℕ
  pub entry : entry_of (spelling_in field form) (width field) v ≡ agreed columns
  pub card_is : placed_in field s columns ≡ card
  pub ranged : within field v ≡ true
  pub free : (is_absent v && needed_after code s n field) ≡ false

pub put_made : (s : List ℕ) (n form : ℕ) (v : Value) (card : List ℕ) → putting_of s n form v ≡ placed card → Put s n form v card
unfolding putting_of value_at value_put
put_made s n form v card e = go (sought_of s n form) refl e
  where
    made : (k : ℕ) (f : Field) → sought_of s n form ≡ Ok (sought k f) → (a b : Bool) → (is_absent v && needed_after k s n f) ≡ b
        → (c : Bool) → within f v ≡ c
        → unless f a b c (by_entry f s (entry_of (spelling_in f form) (width f) v)) ≡ placed card → Put s n form v card
    made k f q true b x c y h = absurd (zero_one cc)
    made k f q false true x c y h = absurd (zero_one cc)
    made k f q false false x false y h = absurd (zero_one cc)
    made k f q false false x true y h =
        let sp = spelling_in f form in
        let m = entry_made f s card (entry_of sp (width f) v) (value_reason (width f) sp v) h in
        record { code = k; field = f; found = q; columns = m.0; entry = m.1; card_is = m.2; ranged = y; free = x }

    go : (o : Result Sought Refusal) → sought_of s n form ≡ o → value_at s n (form_numbered form) v o ≡ placed card → Put s n form v card
    go (Err r) q h = absurd (zero_one cc)
    go (Ok o) q h =
        let e = entry_of (spelling_in o.field form) (width o.field) v in
        made o.layout o.field q (is_other e) (is_absent v && needed_after o.layout s n o.field) refl (within o.field v) refl h

-- and that is all it takes
pub put_so : (s : List ℕ) (n form k : ℕ) (f : Field) → sought_of s n form ≡ Ok (sought k f) → (v : Value) (t : List ℕ)
    → entry_of (spelling_in f form) (width f) v ≡ agreed t → within f v ≡ true → (is_absent v && needed_after k s n f) ≡ false
    → putting_of s n form v ≡ placed (placed_in f s t)
unfolding by_entry
put_so s n form k f q v t e h g =
    value_is s n form k f q (form_numbered form) refl v ∙ put_entered k s n f (form_numbered form) v h g ∙ ap (by_entry f s) e

-- a text that was put
pub record PutText (s : List ℕ) (n form : ℕ) (x card : List ℕ) : Type 0 where
  pub code : ℕ
  pub field : Field
  pub found : sought_of s n form ≡ Ok (sought code field)
  pub columns : List ℕ
  pub entry : text_entry_of (spelling_in field form) (width field) x ≡ agreed columns
  pub card_is : placed_in field s columns ≡ card

pub text_made : (s : List ℕ) (n form : ℕ) (x card : List ℕ) → putting_text_of s n form x ≡ placed card → PutText s n form x card
unfolding putting_text_of text_at
text_made s n form x card e = go (sought_of s n form) refl e
  where
    go : (o : Result Sought Refusal) → sought_of s n form ≡ o → text_at s (form_numbered form) x o ≡ placed card → PutText s n form x card
    go (Err r) q h = absurd (zero_one cc)
    go (Ok o) q h =
        let sp = spelling_in o.field form in
        let m = entry_made o.field s card (text_entry_of sp (width o.field) x) (text_reason (width o.field) sp x) h in
        record { code = o.layout; field = o.field; found = q; columns = m.0; entry = m.1; card_is = m.2 }

-- a value that was read: the field that was found, and what its columns say
pub record Read (s : List ℕ) (n form : ℕ) (v : Value) : Type 0 where
  pub code : ℕ
  pub field : Field
  pub found : sought_of s n form ≡ Ok (sought code field)
  pub value : Value
  pub says : reading_of (spelling_in field form) (columns_of field s) ≡ Ok value
  pub held : value_of (needed_on code s field) field value ≡ Ok v

-- misplaced or not
pub was_read : (s : List ℕ) (n form : ℕ) (v : Value) {b : Bool} → field_reading s n form ≡ Ok (field_read v b) → Read s n form v
unfolding field_reading field_on answered_of judged_of held_of
was_read s n form v {b} e = go (sought_of s n form) refl e
  where
    judgment : (f : Field) (a : Bool) (j : Result Value ℕ) → answered_of f a j ≡ Ok (field_read v b) → j ≡ Ok v
    judgment f a (Ok u) h = let same : field_read u a ≡ field_read v b = cc in ap (λ (x : FieldRead). Ok x.value) same
    judgment f a (Err m) h = absurd (zero_one cc)

    by : (k : ℕ) (f : Field) → sought_of s n form ≡ Ok (sought k f) → (r : Result Value Unread)
        → reading_of (spelling_in f form) (columns_of f s) ≡ r → answered_of f (misplaced_on s f (form_numbered form)) (held_of (needed_on k s f) f r) ≡ Ok (field_read v b)
        → Read s n form v
    by k f q (Err unread.Malformed) x h = absurd (zero_one cc)
    by k f q (Err unread.OutOfRange) x h = absurd (zero_one cc)
    by k f q (Ok u) x h =
        record { code = k; field = f; found = q; value = u; says = x; held = judgment f _ (value_of (needed_on k s f) f u) h }

    go : (o : Result Sought Refusal) → sought_of s n form ≡ o → field_on s (form_numbered form) o ≡ Ok (field_read v b) → Read s n form v
    go (Err r) q h = absurd (zero_one cc)
    go (Ok o) q h = by o.layout o.field q (reading_of (spelling_in o.field form) (columns_of o.field s)) refl h
