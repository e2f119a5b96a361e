-- The walk from field to field, one field at a time.
use Prim.Native.Nat.{ℕ, ◌+◌, ◌-◌, ◌≤◌, ◌<◌}
use native.Mathlib.Omega.{arith}
use native.Mathlib.Numerals.{add-one}
use mathlib.Core.Path.{◌≡◌, refl, sym, ap, ap₂, subst, ◌∙◌}
use mathlib.Core.List.{List, [], ◌∷◌}
use mathlib.Core.Bool.{cond}
use lib.ListN.{length, get_or, drop, drop_of_length-le}
use lib.Seq.{drop-cons}
use lib.Dec.{T, ltb}
use borrow.Author.Tests.{lt-ltb, le-ltb}
use Rattle.base_lists.specs.Count.{first_from}
use Rattle.format_layout.specs.declared.Field.{Field}
use Rattle.format_layout.specs.declared.Form.{Form}
use Rattle.format_layout.specs.Layouts.{fields_of, label_of, layout_at, field_of, no_field}
use Rattle.format_layout.proofs.Columns.{is_in_order, ordered, all_ordered, of_layout, Lies, front, rest}
use Rattle.format_layout.proofs.Places.{has_fields}
use Rattle.format_layout.proofs.Numbers.{numbered}
use Rattle.card_check.specs.Judging.{filled_at, gap_offence, column_offence, next_verdict, verdict_from}
use Rattle.card_check.proofs.Leftmost.{ends, gap, then_on, next_field}
use Rattle.std.specs.Prelude.{Result, Err, Some, ⊤}
use Rattle.card_check.specs.declared.Offence.{Offence}
use Rattle.base_refusal.specs.Refusals.{no_refusal}
use Rattle.card_check.specs.Verdicts.{offending}

-- the fields of a layout stand in order behind its label
pub in_order : (k : ℕ) → T (is_in_order (6 + length (label_of k)) (fields_of k))
unfolding fields_of label_of
in_order k = go (layout_at k).fields refl
  where
    go : (fs : List Field) → (layout_at k).fields ≡ fs → T (is_in_order (6 + length (layout_at k).label) (layout_at k).fields)
    go [] q = subst (λ (l : List Field). T (is_in_order (6 + length (layout_at k).label) l)) (sym q) tt
    go (f ∷ fs) q = of_layout ordered all_ordered k (has_fields k 0 (omega (arith, ap length q)))

-- one field more
module _ (k n c : ℕ) (f : Field) (inside : n < length (fields_of k)) (found : field_of k (n + 1) ≡ Some f) (t : T (is_in_order c (drop n (fields_of k)))) where
  split : drop n (fields_of k) ≡ f ∷ drop (n + 1) (fields_of k)
  split =
      let e : n + 1 - 1 ≡ n = omega arith in
      drop-cons (fields_of k) n no_field inside
      ∙ ap₂ (λ (x : Field) (l : List Field). x ∷ l)
      (ap (λ j. get_or (fields_of k) j no_field) (sym e) ∙ (numbered k (n + 1) f found).is) (ap (λ j. drop j (fields_of k)) (sym (add-one n)))

  in_place : T (is_in_order c (f ∷ drop (n + 1) (fields_of k)))
  in_place = subst (λ (l : List Field). T (is_in_order c l)) split t

  pub stands : Lies c f
  stands = front c f (drop (n + 1) (fields_of k)) in_place

  pub onward : T (is_in_order (f.last + 1) (drop (n + 1) (fields_of k)))
  onward =
      subst (λ j. T (is_in_order j (drop (n + 1) (fields_of k)))) (sym (add-one f.last)) (rest c f (drop (n + 1) (fields_of k)) in_place)

  module _ (form : Form) (s : List ℕ) (v : Result ⊤ Offence) (is : v ≡ next_verdict k form s f c) where
    walked : verdict_from (column_offence k form s (drop n (fields_of k))) c
        ≡ then_on v (verdict_from (column_offence k form s (drop (n + 1) (fields_of k))) (f.last + 1))
    walked =
        ap (λ (l : List Field). verdict_from (column_offence k form s l) c) split
        ∙ next_field k form s f (drop (n + 1) (fields_of k)) c in_place
        ∙ ap (λ x. then_on x (verdict_from (column_offence k form s (drop (n + 1) (fields_of k))) (f.last + 1))) (sym is)

    -- it goes on where nothing is found
    pub walks_on : v ≡ no_refusal
        → verdict_from (column_offence k form s (drop n (fields_of k))) c
        ≡ verdict_from (column_offence k form s (drop (n + 1) (fields_of k))) (f.last + 1)
    walks_on q = walked ∙ ap (λ x. then_on x (verdict_from (column_offence k form s (drop (n + 1) (fields_of k))) (f.last + 1))) q

    -- and stops at an offence
    pub halts : (a b : ℕ) → v ≡ Err (offending a b) → verdict_from (column_offence k form s (drop n (fields_of k))) c ≡ v
    halts a b q =
        walked ∙ ap (λ x. then_on x (verdict_from (column_offence k form s (drop (n + 1) (fields_of k))) (f.last + 1))) q ∙ sym q

-- the columns behind the last field
pub at_end : (k : ℕ) (form : Form) (s : List ℕ) (n c : ℕ) → length (fields_of k) ≤ n
    → verdict_from (column_offence k form s (drop n (fields_of k))) c ≡ verdict_from (gap_offence s) c
unfolding column_offence
at_end k form s n c over =
    ap (λ (l : List Field). verdict_from (column_offence k form s l) c) (drop_of_length-le (fields_of k) {i = n} over)

module _ (s : List ℕ) (c q : ℕ) (on : c ≤ 81) (is : q ≡ first_from (filled_at s) (81 - c) c) where
  rest_is : verdict_from (gap_offence s) c ≡ cond (ltb q 81) (Err (offending 7 q)) no_refusal
  rest_is =
      let e : c + (81 - c) ≡ 81 = omega arith in
      gap s (gap_offence s) (81 - c) c (omega arith) (λ j a b. refl) ∙ rw (e, ← is, ends (gap_offence s))

  pub end_fine : 80 < q → verdict_from (gap_offence s) c ≡ no_refusal
  end_fine h = rest_is ∙ rw (le-ltb q 81 (omega arith))

  pub end_filled : q ≤ 80 → verdict_from (gap_offence s) c ≡ Err (offending 7 q)
  end_filled h = rest_is ∙ rw (lt-ltb q 81 (omega arith))
