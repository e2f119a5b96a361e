-- In an accepted header every field of a card that is read answers its reading with a value; coordinates want their form for it.
use Prim.Native.Nat.{ℕ, zero, suc, ◌+◌, ◌-◌, ◌≤◌, ◌<◌}
use native.Mathlib.Omega.{arith}
use mathlib.Core.Path.{◌≡◌, refl, sym, ap, subst, ◌∙◌}
use mathlib.Core.Bool.{Bool, true, false, cond, ◌&&◌}
use mathlib.Core.List.{List, [], ◌∷◌}
use lib.ListN.{length, get_or, take}
use borrow.Author.Tests.{eq-eqb, ne_eqb, le-ltb, le-leb, lt-leb}
use Rattle.base_value.specs.declared.Value.{Value}
use Rattle.base_value.specs.declared.Value.TheVariants.{Absent, Whole, Decimal, Angle, Date, Text}
use Rattle.base_value.specs.declared.Unread.TheVariants as unread
use Rattle.value_text.specs.printable.Bytes.{first_bad}
use Rattle.value_field.specs.spelling.Reading.{reading_of}
use Rattle.format_code.specs.declared.Code.{Code}
use Rattle.format_code.specs.declared.Code.TheVariants as code
use Rattle.format_code.specs.Codes.{code_of}
use Rattle.format_layout.specs.declared.Kind.{Kind}
use Rattle.format_layout.specs.declared.Kind.TheVariants as kind
use Rattle.format_layout.specs.declared.Field.{Field}
use Rattle.format_layout.specs.declared.Form.{Form}
use Rattle.format_layout.specs.declared.Form.TheVariants.{Angles}
use Rattle.format_layout.specs.Forms.{is_open, form_numbered}
use Rattle.format_layout.specs.Layouts.{fields_of, field_of, label_of, no_field}
use Rattle.format_layout.specs.ranges.Ranges.{in_range}
use Rattle.format_layout.proofs.Columns.{after_label, ends-before}
use Rattle.format_layout.proofs.Numbers.{numbered, found_lies}
use Rattle.card_field.specs.seeking.Card.{coded, sought_of}
use Rattle.card_field.specs.needing.Needs.{needed_on, columns_of}
use Rattle.card_field.specs.judging.Fields.{spelling_of, value_of, held_of, judged_of, number_of, misplaced_on}
use Rattle.card_field.specs.Reading.{answered_of, field_on, field_reading}
use Rattle.card_field.proofs.seeking.Steps.{form_good, sought_coded}
use Rattle.card_check.specs.Judging.{is_coordinate, field_offence, column_offence, offence_at}
use Rattle.header_check.specs.forms.Cards.{card_at, cards_in, layout_of, unread, number_of as layout_number}
use Rattle.header_check.specs.forms.Forms.{form_of}
use Rattle.header_check.specs.Opening.{stands_at}
use Rattle.header_check.specs.Refusing.{refusal_of}
use Rattle.header_laws.proofs.Rows.{Clean, eighty, fine_exactly}
use Rattle.header_laws.proofs.Exactly.{accepted_exactly}
use Rattle.std.specs.Prelude.{Result, Ok, Err, Some}
use Rattle.base_value.specs.declared.Unread.{Unread}
use Rattle.card_field.specs.Fields.{field_read}
use Rattle.base_refusal.specs.Refusals.{no_refusal}
use Rattle.card_field.specs.seeking.Found.{sought}

-- the offence of a field stands at its first column: no field before it reaches there
module _ (k : ℕ) (form : Form) (s : List ℕ) where
  at_begin : (fs : List Field) (i : ℕ) → i < length fs
      → ((j : ℕ) → j < i → ((get_or fs j no_field).first ≤ (get_or fs j no_field).last) × ((get_or fs j no_field).last < (get_or fs i no_field).first))
      → column_offence k form s fs (get_or fs i no_field).first ≡ field_offence k form s (get_or fs i no_field)
  unfolding column_offence
  at_begin [] i l before = absurd (omega arith)
  at_begin (f ∷ fs) zero l before = rw (eq-eqb f.first f.first refl)
  at_begin (f ∷ fs) (suc i) l before =
      let c : ℕ = (get_or fs i no_field).first in
      let b = before 0 (omega arith) in
      rw (ne_eqb c f.first (λ e. omega (arith, b.0, b.1, e)), lt-leb c f.last b.1, le-leb f.first c (omega (arith, b.0, b.1)))
      (at_begin fs i (omega arith) (λ j m. before (suc j) (omega arith)))

  pub field-offence : (n : ℕ) (f : Field) → field_of k n ≡ Some f → offence_at k form s f.first ≡ field_offence k form s f
  unfolding offence_at
  field-offence n f e =
      let m = numbered k n f e in
      let i : ℕ = n - 1 in
      let l : i < length (fields_of k) = omega (arith, m.counted, m.within) in
      let lies = after_label k i l in
      subst (λ (g : Field). offence_at k form s g.first ≡ field_offence k form s g) m.is
      (rw (le-ltb (get_or (fields_of k) i no_field).first (6 + length (label_of k)) lies.after)
      (at_begin (fields_of k) i l (λ j b. ((after_label k j (omega (arith, b, l))).forward, ends-before k j i b l))))

-- a form says only how coordinates are spelled
same_spelling : (k : Kind) (form : Form) → is_coordinate k ≡ false → spelling_of k form ≡ spelling_of k Angles
unfolding spelling_of
same_spelling kind.Text form e = refl
same_spelling kind.Comment form e = refl
same_spelling kind.Whole form e = refl
same_spelling kind.Decimal form e = refl
same_spelling kind.Date form e = refl
same_spelling kind.Latitude form e = absurd (let z : ◌≡◌ {A = ℕ} 0 1 = cc in omega arith)
same_spelling kind.Longitude form e = absurd (let z : ◌≡◌ {A = ℕ} 0 1 = cc in omega arith)

-- a field without an offence says a value, misplaced or not
says_value : (needed left : Bool) (f : Field) (r : Result Value Unread) → number_of (held_of needed f r) ≡ 0
    → (v : Value) × (answered_of f left (held_of needed f r) ≡ Ok (field_read v left))
unfolding held_of value_of answered_of
says_value needed left f (Err unread.Malformed) e = absurd (omega arith)
says_value needed left f (Err unread.OutOfRange) e = absurd (omega arith)
says_value needed left f (Ok Absent) e = go needed e
  where
    go : (b : Bool) → number_of (cond b (Err 11) (Ok Absent)) ≡ 0
        → (v : Value) × (answered_of f left (cond b (Err 11) (Ok Absent)) ≡ Ok (field_read v left))
    go true e = absurd (omega arith)
    go false e = (Absent, refl)
says_value needed left f (Ok (Whole z)) e = go (in_range f.range z) e
  where
    go : (b : Bool) → number_of (cond b (Ok (Whole z)) (Err 10)) ≡ 0
        → (v : Value) × (answered_of f left (cond b (Ok (Whole z)) (Err 10)) ≡ Ok (field_read v left))
    go true e = (Whole z, refl)
    go false e = absurd (omega arith)
says_value needed left f (Ok (Decimal d)) e = (Decimal d, refl)
says_value needed left f (Ok (Angle z)) e = (Angle z, refl)
says_value needed left f (Ok (Date d)) e = (Date d, refl)
says_value needed left f (Ok (Text c)) e = (_, refl)

-- the code of a card that a layout reads
coded_by : (c : Code) (k : ℕ) → layout_number c ≡ k → k < unread → c ≡ code.Read k
coded_by (code.Read m) k e l = ap code.Read e
coded_by code.Passed k e l = absurd (omega arith)
coded_by code.Unknown k e l = absurd (omega arith)

module _ (h : List ℕ) (a : refusal_of h ≡ no_refusal) (c : ℕ) (l : c < cards_in h) where
  clean : Clean (card_at h c) (form_of h (card_at h c)) (stands_at h c)
  clean = (fine_exactly h c l).0 (((accepted_exactly h).0 a).1 c (omega arith))

  module _ (k : ℕ) (is : layout_of (card_at h c) ≡ k) (read_by_lem : k < unread) (n : ℕ) (f : Field) (e : field_of k n ≡ Some f) where
    code_is : code_of (take 5 (card_at h c)) ≡ code.Read k
    unfolding layout_of
    code_is = coded_by (code_of (take 5 (card_at h c))) k is read_by_lem

    -- the field with a number is found on the card
    pub field_found : sought_of (card_at h c) n 0 ≡ Ok (sought k f)
    unfolding coded
    field_found =
        sought_coded (card_at h c) n 0 (λ z. omega (arith, eighty h c l, z)) (eighty h c l) (first_bad (card_at h c)) refl clean.printable
        ∙ ap (λ x. coded x n 0) code_is
        ∙ form_good k 0 (field_of k n) f e (omega arith)

    no_offence : is_coordinate f.kind ≡ false → number_of (judged_of k (card_at h c) f Angles) ≡ 0
    unfolding field_offence judged_of
    no_offence o =
        let s : List ℕ = card_at h c in
        let form : Form = form_of h s in
        let lies = found_lies k n f e in
        let z = sym (field-offence k form s n f e) ∙ clean.columns k code_is f.first (omega (arith, lies.after)) (omega (arith, lies.forward, lies.on_card)) in
        ap (λ x. number_of (held_of (needed_on k s f) f (reading_of x (columns_of f s)))) (sym (same_spelling f.kind form o))
        ∙ go (is_open form) (rw o at z)
      where
        go : (b : Bool) → cond (b && false) 0 (number_of (judged_of k (card_at h c) f (form_of h (card_at h c)))) ≡ 0
            → number_of (judged_of k (card_at h c) f (form_of h (card_at h c))) ≡ 0
        go true z = z
        go false z = z

    -- and its reading is a value, and says whether that is misplaced
    pub field-read : is_coordinate f.kind ≡ false
        → (v : Value) × (field_reading (card_at h c) n 0 ≡ Ok (field_read v (misplaced_on (card_at h c) f Angles)))
    unfolding field_reading field_on judged_of form_numbered
    field-read o =
        let r = says_value (needed_on k (card_at h c) f) (misplaced_on (card_at h c) f Angles) f (reading_of (spelling_of f.kind Angles) (columns_of f (card_at h c))) (no_offence o) in
        (r.0, rw field_found r.1)
