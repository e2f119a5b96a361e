-- What each way through reading a field finds.
use Prim.Native.Nat.{ℕ, ◌-◌, ◌≤◌}
use native.Mathlib.Omega.{arith}
use mathlib.Core.Path.{◌≡◌, refl}
use mathlib.Core.List.{List, [], ◌∷◌}
use mathlib.Core.Bool.{Bool, true, false}
use lib.ListN.{length, take, drop}
use denote.Enum.Declared.{tag_of}
use types.Run.{OneOf, miss}
use Rattle.base_refusal.specs.declared.Refusal.{Refusal}
use Rattle.base_value.specs.contracts.Value.{the_type as value-type}
use Rattle.value_text.specs.text.Texts.{text_of}
use Rattle.base_value.specs.declared.Value.{Value}
use Rattle.base_value.specs.declared.Value.TheVariants as value
use Rattle.format_layout.specs.declared.Field.{Field}
use Rattle.format_layout.specs.Forms.{form_numbered}
use Rattle.base_refusal.specs.Refusals.{refusal}
use Rattle.card_field.specs.seeking.Card.{sought_of, way_for}
use Rattle.format_layout.proofs.Numbers.{found_lies}
use Rattle.card_field.proofs.seeking.Steps.{found-there, way_refused}
use Rattle.card_field.specs.judging.Fields.{judged_of, misplaced_on}
use Rattle.card_field.specs.needing.Needs.{columns_of}
use Rattle.card_field.specs.Reading.{answered_of, field_on, field_reading, holds_text, text_on, field_text}
use Rattle.std.specs.Prelude.{Result, Ok, Err}
use Rattle.card_field.specs.seeking.Found.{sought}
use Rattle.card_field.specs.declared.seeking.FieldRow.{FieldRow}

-- a field that was found is where the functions below ask it to be
pub found-fits : (s : List ℕ) (n form k : ℕ) (f : Field) → sought_of s n form ≡ Ok (sought k f)
    → (length s ≡ 80) × (1 ≤ f.first) × (f.first ≤ f.last) × (f.last ≤ 80)
found-fits s n form k f q =
    let h = found-there s n form k f q in
    let l = found_lies k n f h.field in
    (h.whole, omega (arith, l.after), l.forward, l.on_card)

-- the answer for a field, at its first column
pub answered_not : (f : Field) (b : Bool) (j : Result Value ℕ) (n column : ℕ) → j ≡ Err n → column ≡ f.first
    → Err (refusal n 1 column) ≡ answered_of f b j
unfolding answered_of
answered_not f b j n column q e = rw (q, e)

-- what reading a field puts together
pub reading_is : (s : List ℕ) (n form k : ℕ) (f : Field) → sought_of s n form ≡ Ok (sought k f) → (j : Result Value ℕ) → j ≡ judged_of k s f (form_numbered form)
    → (b : Bool) → b ≡ misplaced_on s f (form_numbered form) → answered_of f b j ≡ field_reading s n form
unfolding field_reading field_on
reading_is s n form k f q j e b m = rw (q, e, m)

-- whether a field says a text, and the text
pub text-other : (v : Value) → OneOf (0 ∷ 1 ∷ 2 ∷ 3 ∷ 4 ∷ []) (tag_of value-type v) → holds_text (Ok v) ≡ false
unfolding holds_text
text-other value.Absent h = refl
text-other (value.Whole z) h = refl
text-other (value.Decimal d) h = refl
text-other (value.Angle z) h = refl
text-other (value.Date d) h = refl
text-other (value.Text c) h = absurd (miss (0 ∷ 1 ∷ 2 ∷ 3 ∷ 4 ∷ []) 5 tt h)

pub text-refused : (s : List ℕ) (n form : ℕ) (w : Result FieldRow Refusal) (r : Refusal) → w ≡ way_for n (sought_of s n form) → w ≡ Err r
    → field_text s n form ≡ []
unfolding field_text text_on
text-refused s n form w r e h = rw (way_refused s n form w e r h)

module _ (s : List ℕ) (n form k : ℕ) (f : Field) (q : sought_of s n form ≡ Ok (sought k f)) (j : Result Value ℕ) (e : j ≡ judged_of k s f (form_numbered form)) where
  pub text-none : holds_text j ≡ false → field_text s n form ≡ []
  unfolding field_text text_on
  text-none h = rw (q, ← e, h)

  pub text-is : holds_text j ≡ true → (first last : ℕ) → first ≡ f.first → last ≡ f.last
      → (t : List ℕ) → t ≡ take (last - (first - 1)) (drop (first - 1) s) → text_of t ≡ field_text s n form
  unfolding field_text text_on columns_of
  text-is h first last a b t c = rw (q, ← e, h, c, a, b)
