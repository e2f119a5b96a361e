-- A card of which the screen is sure has no offence.
use Prim.Native.Nat.{ℕ, zero, suc, ◌+◌, ◌-◌, ◌≤◌, ◌<◌}
use native.Mathlib.Decide.{dec_lt}
use native.Mathlib.Omega.{arith}
use native.Mathlib.Nat.{add-zero}
use native.Mathlib.Numerals.{add-one}
use mathlib.Core.Path.{◌≡◌, refl, sym, ap, ◌∙◌, subst}
use mathlib.Core.List.{List, [], ◌∷◌}
use mathlib.Core.Bool.{true, true≢false}
use lib.Dec.{T}
use lib.ListN.{length}
use Rattle.base_lists.specs.Count.{first_from}
use Rattle.format_layout.specs.declared.Field.{Field}
use Rattle.format_layout.specs.declared.Form.{Form}
use Rattle.format_layout.specs.Layouts.{fields_of, label_of}
use Rattle.format_layout.specs.packed.Rows.{layout_count}
use Rattle.format_layout.proofs.Columns.{is_in_order, Lies, front, rest}
use Rattle.card_screen.specs.Roles.{sure}
use Rattle.card_screen.proofs.Lines.{past_plain}
use Rattle.card_screen.proofs.Cards.{Gap, Clean, unlabelled, clean}
use Rattle.card_check.specs.Judging.{filled_at, column_offence, offence_at, next_verdict, verdict_from}
use Rattle.card_check.proofs.Leftmost.{then_on, next_field}
use Rattle.card_check.proofs.Ways.{blank_here, no_offence, next_fine, label_here, label_right}
use Rattle.card_check.proofs.Walked.{in_order, end_fine}
use Rattle.std.specs.Prelude.{Result, ⊤}
use Rattle.card_check.specs.declared.Offence.{Offence}
use Rattle.base_refusal.specs.Refusals.{no_refusal}

-- blank columns
none_filled : (s : List ℕ) (n c : ℕ) → Gap s c (c + n) → first_from (filled_at s) n c ≡ c + n
unfolding first_from
none_filled s zero c h = sym (add-zero c)
none_filled s (suc n) c h =
    rw (blank_here s c (h c (omega arith) (omega arith)))
    (none_filled s n (suc c) (λ j a b. h j (omega arith) (omega arith)) ∙ omega arith)

module _ (k : ℕ) (form : Form) (s : List ℕ) where
  fields_fine : (fs : List Field) (c : ℕ) → c ≤ 81 → T (is_in_order c fs) → Clean k s c fs → verdict_from (column_offence k form s fs) c ≡ no_refusal
  unfolding column_offence
  fields_fine [] c m o h =
      let e : c + (81 - c) ≡ 81 = omega arith in
      let q : first_from (filled_at s) (81 - c) c ≡ c + (81 - c) = none_filled s (81 - c) c (subst (λ (d : ℕ). Gap s c d) (sym e) h) in
      end_fine s c (c + (81 - c)) m (sym q) (omega arith)
  fields_fine (f ∷ fs) c m o h =
      let li : Lies c f = front c f fs o in
      let e : c + (f.first - c) ≡ f.first = omega (arith, li.after) in
      let q : first_from (filled_at s) (f.first - c) c ≡ c + (f.first - c) = none_filled s (f.first - c) c (subst (λ (d : ℕ). Gap s c d) (sym e) h.0) in
      let z = no_offence k form s f 0 (sym (h.1 form).0) refl in
      let v : next_verdict k form s f c ≡ no_refusal = next_fine k form s f c (c + (f.first - c)) f.first refl (sym q) (omega (arith, e)) 0 (sym z) refl in
      let more = fields_fine fs (f.last + 1) (omega (arith, li.on_card)) (subst (λ j. T (is_in_order j fs)) (sym (add-one f.last)) (rest c f fs o)) h.2 in
      next_field k form s f fs c o ∙ ap (λ (x : Result ⊤ Offence). then_on x (verdict_from (column_offence k form s fs) (f.last + 1))) v ∙ more

  pub sure_fine : length s ≡ 80 → sure k s ≡ true → verdict_from (offence_at k form s) 6 ≡ no_refusal
  sure_fine whole h =
      let none : length (label_of k) ≡ 0 = unlabelled k s whole h in
      label_right k form s (label_here k s whole (omega (arith, none)) (λ j l. absurd (omega (arith, none)))) (omega (arith, none)) 6 (omega (arith, none))
      ∙ fields_fine (fields_of k) 6 (omega arith) (subst (λ (n : ℕ). T (is_in_order (6 + n) (fields_of k))) none (in_order k)) (clean k s whole h)

-- and has a layout
pub sure-read : (k : ℕ) (s : List ℕ) → sure k s ≡ true → k < layout_count
unfolding sure
sure-read k s h = elim (dec_lt k layout_count) [
  | yes l ↦ l
  | no l ↦ absurd (true≢false (sym (rw (past_plain k (omega (arith, l))) at h)))
]
