-- Kind 6 stands at the first column of a field whose reading answers that its number is misplaced.
use Prim.Native.Nat.{ℕ, zero, suc, ◌+◌, ◌-◌, ◌≤◌, ◌<◌}
use native.Mathlib.Omega.{arith}
use mathlib.Core.Path.{◌≡◌, refl, sym, ap, subst, ◌∙◌}
use mathlib.Core.Bool.{Bool, true, false, ◌||◌}
use mathlib.Core.List.{List, [], ◌∷◌}
use lib.Dec.{T}
use lib.ListN.{length, get_or}
use borrow.Author.Tests.{eq-eqb, ne_eqb}
use Rattle.base_value.specs.declared.Value.{Value}
use Rattle.format_layout.specs.declared.Field.{Field}
use Rattle.format_layout.specs.declared.Form.TheVariants.{Angles}
use Rattle.format_layout.specs.Layouts.{fields_of, field_of, label_of, no_field}
use Rattle.format_layout.proofs.Columns.{is_in_order, front, rest}
use Rattle.format_layout.proofs.Numbers.{numbered}
use Rattle.card_field.specs.judging.Fields.{misplaced_on}
use Rattle.card_field.specs.Reading.{field_reading}
use Rattle.card_check.specs.Judging.{is_coordinate}
use Rattle.card_check.proofs.Walked.{in_order}
use Rattle.header_check.specs.forms.Cards.{card_at, cards_in, layout_of, unread}
use Rattle.header_check.specs.Refusing.{refusal_of}
use Rattle.header_laws.proofs.Readings.{field-read}
use Rattle.tie_rules.specs.Faults.{misplaced_among, misplaced, broken_on, broken}
use Rattle.std.specs.Prelude.{Ok, Some}
use Rattle.card_field.specs.Fields.{field_read}
use Rattle.base_refusal.specs.Refusals.{no_refusal}

module _ (s : List ℕ) where
  -- fields behind a column do not begin there
  pub later_none : (b : ℕ) (fs : List Field) → T (is_in_order b fs) → (c : ℕ) → c < b → misplaced_among fs s c ≡ false
  unfolding misplaced_among
  later_none b [] t c h = refl
  later_none b (f ∷ fs) t c h =
      let l = front b f fs t in
      rw (ne_eqb f.first c (λ e. absurd (omega (arith, l.after))))
      (later_none (suc f.last) fs (rest b f fs t) c (omega (arith, l.after, l.forward)))

  behind : (b : ℕ) (fs : List Field) → T (is_in_order b fs) → (i : ℕ) → i < length fs → b ≤ (get_or fs i no_field).first
  behind b [] t i h = absurd (omega arith)
  behind b (f ∷ fs) t zero h = (front b f fs t).after
  behind b (f ∷ fs) t (suc i) h =
      let l = front b f fs t in
      omega (arith, l.after, l.forward, behind (suc f.last) fs (rest b f fs t) i (omega arith))

  -- one field begins in a column
  at_field : (b : ℕ) (fs : List Field) → T (is_in_order b fs) → (i : ℕ) → i < length fs
      → misplaced_among fs s (get_or fs i no_field).first ≡ misplaced_on s (get_or fs i no_field) Angles
  unfolding misplaced_among
  at_field b [] t i h = absurd (omega arith)
  at_field b (f ∷ fs) t zero h =
      let l = front b f fs t in
      rw (eq-eqb f.first f.first refl, later_none (suc f.last) fs (rest b f fs t) f.first (omega (arith, l.forward)))
      (or_false (misplaced_on s f Angles))
    where
      or_false : (x : Bool) → (x || false) ≡ x
      or_false true = refl
      or_false false = refl
  at_field b (f ∷ fs) t (suc i) h =
      let l = front b f fs t in
      rw (ne_eqb f.first (get_or fs i no_field).first
      (λ e. absurd (omega (arith, l.forward, behind (suc f.last) fs (rest b f fs t) i (omega arith), e))))
      (at_field (suc f.last) fs (rest b f fs t) i (omega arith))

  -- that of a field with a number, where it begins
  pub misplaced-field : (k n : ℕ) (f : Field) → field_of k n ≡ Some f → misplaced_among (fields_of k) s f.first ≡ misplaced_on s f Angles
  misplaced-field k n f e =
      let m = numbered k n f e in
      subst (λ (g : Field). misplaced_among (fields_of k) s g.first ≡ misplaced_on s g Angles) m.is
      (at_field (6 + length (label_of k)) (fields_of k) (in_order k) (n - 1) (omega (arith, m.counted, m.within)))

-- In an accepted header reading a field that is no coordinate answers a value, and whether kind 6 stands at its first column
pub misplaced-read : (h : List ℕ) → refusal_of h ≡ no_refusal → (c : ℕ) → c < cards_in h → layout_of (card_at h c) < unread
    → (n : ℕ) (f : Field) → field_of (layout_of (card_at h c)) n ≡ Some f → is_coordinate f.kind ≡ false
    → (v : Value) × (field_reading (card_at h c) n 0 ≡ Ok (field_read v (broken h c f.first 6)))
unfolding broken broken_on misplaced
misplaced-read h a c l read_by_lem n f e o =
    let k : ℕ = layout_of (card_at h c) in
    let r = field-read h a c l k refl read_by_lem n f e o in
    (r.0, r.1 ∙ ap (λ (m : Bool). Ok (field_read r.0 m)) (sym (misplaced-field (card_at h c) k n f e)))
