-- A key is what reading its field answers: the whole number of a field, the text of another.
use Prim.Native.Nat.{ℕ}
use mathlib.Core.Path.{◌≡◌, refl, sym, ◌∙◌}
use mathlib.Core.Bool.{Bool, true, false, cond, not}
use mathlib.Core.List.{List, []}
use lib.Dec.{eqb}
use lib.IntN.{pos, negsuc}
use native.Mathlib.Omega.{arith}
use borrow.Author.Tests.{eqb-true}
use Rattle.base_value.specs.declared.Value.{Value}
use Rattle.base_value.specs.declared.Value.TheVariants.{Absent, Whole, Decimal, Angle, Date, Text}
use Rattle.base_value.specs.declared.Unread.TheVariants as unread
use Rattle.value_text.specs.text.Texts.{text_end, text_of, leading_blank}
use Rattle.value_field.specs.declared.spelling.Spelling.TheVariants as spelled
use Rattle.value_field.specs.spelling.Reading.{reading_of, text_reading}
use Rattle.format_layout.specs.declared.Kind.TheVariants as kind
use Rattle.format_layout.specs.declared.Field.{Field}
use Rattle.format_layout.specs.declared.Form.TheVariants.{Angles}
use Rattle.format_layout.specs.Forms.{form_numbered}
use Rattle.format_layout.specs.ranges.Ranges.{in_range}
use Rattle.card_field.specs.seeking.Card.{sought_of}
use Rattle.card_field.specs.needing.Needs.{needed_on, columns_of}
use Rattle.card_field.specs.judging.Fields.{value_of, held_of, judged_of, spelling_of, misplaced_on}
use Rattle.card_field.specs.Reading.{answered_of, field_on, field_reading, holds_text, text_on, field_text}
use Rattle.tie_rules.specs.Keys.{between, whole_key, whole_in}
use Rattle.tie_rules.specs.Readings.{whole_of}
use Rattle.std.specs.Prelude.{Result, Ok, Err}
use Rattle.base_value.specs.declared.Unread.{Unread}
use Rattle.card_field.specs.Fields.{field_read}
use Rattle.card_field.specs.seeking.Found.{sought}

-- the value of a whole number's columns, where no refusal hides it
held_whole : (needed left : Bool) (f : Field) (r : Result Value Unread) (v : Value) → answered_of f left (held_of needed f r) ≡ Ok (field_read v left)
    → whole_key r ≡ whole_of (answered_of f left (held_of needed f r))
unfolding whole_key whole_of answered_of held_of value_of
held_whole needed left f (Err unread.Malformed) v e = refl
held_whole needed left f (Err unread.OutOfRange) v e = refl
held_whole needed left f (Ok Absent) v e = go needed
  where
    go : (b : Bool) → [] ≡ whole_of (answered_of f left (cond b (Err 11) (Ok Absent)))
    go true = refl
    go false = refl
held_whole needed left f (Ok (Whole z)) v e = go (in_range f.range z) e
  where
    go : (b : Bool) → answered_of f left (cond b (Ok (Whole z)) (Err 10)) ≡ Ok (field_read v left)
        → whole_key (Ok (Whole z)) ≡ whole_of (answered_of f left (cond b (Ok (Whole z)) (Err 10)))
    go true e = same z
      where
        same : (z : _) → whole_key (Ok (Whole z)) ≡ whole_of (Ok (field_read (Whole z) left))
        same (pos n) = refl
        same (negsuc n) = refl
    go false e = absurd (let z : ◌≡◌ {A = ℕ} 0 1 = cc in omega arith)
held_whole needed left f (Ok (Decimal d)) v e = refl
held_whole needed left f (Ok (Angle z)) v e = refl
held_whole needed left f (Ok (Date d)) v e = refl
held_whole needed left f (Ok (Text c)) v e = refl

-- a text that ends before its first column is none
no_text : (t : List ℕ) → text_end t ≡ 0 → text_of t ≡ []
unfolding text_of
no_text t z = rw z

-- the text in a field's columns
held-text : (needed left : Bool) (f : Field) (t : List ℕ) (v : Value) → answered_of f left (held_of needed f (text_reading false t)) ≡ Ok (field_read v left)
    → text_of t ≡ cond (holds_text (held_of needed f (text_reading false t))) (text_of t) []
unfolding text_reading answered_of held_of value_of holds_text
held-text needed left f t v e = go (eqb (text_end t) 0) refl (leading_blank t) e
  where
    blank : (b : Bool) → text_of t ≡ [] → text_of t ≡ cond (holds_text (cond b (Err 11) (Ok Absent))) (text_of t) []
    blank true z = z
    blank false z = z

    go : (b : Bool) → eqb (text_end t) 0 ≡ b → (lead : Bool)
        → answered_of f left (held_of needed f (cond b (Ok Absent)
        (cond (not lead) (Ok (Text (record { first = 1; last = text_end t }))) (Err unread.Malformed)))) ≡ Ok (field_read v left)
        → text_of t ≡ cond (holds_text (held_of needed f (cond b (Ok Absent)
        (cond (not lead) (Ok (Text (record { first = 1; last = text_end t }))) (Err unread.Malformed))))) (text_of t) []
    go true q lead e = blank needed (no_text t (eqb-true (text_end t) 0 q))
    go false q false e = refl
    go false q true e = absurd (let z : ◌≡◌ {A = ℕ} 0 1 = cc in omega arith)

-- a field of a card whose reading answers a value
module _ (s : List ℕ) (n k : ℕ) (f : Field) (q : sought_of s n 0 ≡ Ok (sought k f)) (v : Value)
    (r : field_reading s n 0 ≡ Ok (field_read v (misplaced_on s f Angles))) where
  pub whole-read : f.kind ≡ kind.Whole → whole_in f.first f.last s ≡ whole_of (field_reading s n 0)
  unfolding field_reading field_on judged_of spelling_of form_numbered whole_in between columns_of
  whole-read e =
      let t : List ℕ = columns_of f s in
      let j : field_reading s n 0 ≡ answered_of f (misplaced_on s f Angles) (held_of (needed_on k s f) f (reading_of spelled.Whole t)) = rw (q, e) in
      rw j (held_whole (needed_on k s f) (misplaced_on s f Angles) f (reading_of spelled.Whole t) v (sym j ∙ r))

  pub text-read : f.kind ≡ kind.Text → text_of (between f.first f.last s) ≡ field_text s n 0
  unfolding field_reading field_text field_on text_on judged_of spelling_of form_numbered reading_of between columns_of
  text-read e =
      let t : List ℕ = columns_of f s in
      let j : field_reading s n 0 ≡ answered_of f (misplaced_on s f Angles) (held_of (needed_on k s f) f (text_reading false t)) = rw (q, e) in
      held-text (needed_on k s f) (misplaced_on s f Angles) f t v (sym j ∙ r) ∙ rw (q, e)
