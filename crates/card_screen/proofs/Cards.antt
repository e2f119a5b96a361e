-- A card of which the machine is sure is blank between its fields, and no field has an offence or a misplaced number.
use Prim.Native.Nat.{ℕ, zero, suc, ◌+◌, ◌-◌, ◌≤◌, ◌<◌}
use native.Mathlib.Omega.{arith}
use native.Mathlib.Nat.{le_of_suc-le-suc, not-suc-le-zero}
use native.Mathlib.Numerals.{add-one}
use mathlib.Core.Path.{◌≡◌, refl, sym, ap, ◌∙◌, subst}
use mathlib.Core.List.{List, [], ◌∷◌, ◌++◌}
use mathlib.Core.Bool.{Bool, true, false, cond, ◌&&◌}
use lib.Dec.{T, eqb, leb, ltb}
use lib.ListN.{length, get_or, drop, replicate, length-replicate, length-drop}
use lib.Seq.{drop-drop, get_or-drop}
use borrow.Author.Tests.{eqb-true, ltb-true, ltb-false}
use Rattle.format_layout.specs.declared.Field.{Field}
use Rattle.format_layout.specs.declared.Form.{Form}
use Rattle.format_layout.specs.declared.Form.TheVariants as form
use Rattle.format_layout.specs.Table.{layouts}
use Rattle.format_layout.specs.Layouts.{layout_at, fields_of, label_of}
use Rattle.format_layout.specs.Columns.{width, wide_as, ranged}
use Rattle.format_layout.specs.packed.Rows.{layout_count}
use Rattle.format_layout.proofs.Columns.{is_in_order, Lies, front, rest, ordered, all_ordered, of_layout}
use Rattle.card_field.specs.judging.Fields.{number_of, judged_of, misplaced_on}
use Rattle.card_screen.specs.Machine.{class_of, ends, first_by, step_by, step, runs}
use Rattle.card_screen.specs.Roles.{roles_for, roles_in, roles_from, roles_of, have_roles, plain, sure}
use Rattle.card_screen.proofs.Lines.{past_plain}
use Rattle.card_screen.proofs.Rows.{all_to, all_at, both, is_true}
use Rattle.card_screen.proofs.Steps.{runs_append, unsure_never, blank_class, afresh}
use Rattle.card_screen.proofs.Fields.{field_fine}

-- the columns from one up to, but not with, another are blank
abbrev pub Gap : List ℕ → ℕ → ℕ → Type 0
Gap s c d = (j : ℕ) → c ≤ j → j < d → get_or s (j - 1) 0 ≡ 32

-- a field has no offence and no misplaced number, in any form
abbrev pub Good : ℕ → List ℕ → Field → Type 0
Good k s f = (form : Form) → (number_of (judged_of k s f form) ≡ 0) × (misplaced_on s f form ≡ false)

-- the columns from one on, by the fields that stand there
abbrev pub Clean : ℕ → List ℕ → ℕ → List Field → Type 0
Clean k s c [] = Gap s c 81
Clean k s c (f ∷ fs) = Gap s c f.first × Good k s f × Clean k s (f.last + 1) fs

-- a gap: what came before it may end, and its columns are blank
gap_blank : (n : ℕ) (t : List ℕ) (q : ℕ) → n ≤ length t → T (ends (runs (replicate n 0) t q)) → T (ends q) × ((j : ℕ) → j < n → get_or t j 0 ≡ 32)
unfolding runs step step_by first_by
gap_blank zero t q l h = (h, λ j k. absurd (not-suc-le-zero k))
gap_blank (suc n) [] q l h = absurd (not-suc-le-zero l)
gap_blank (suc n) (b ∷ t) q l h =
    let m = afresh 0 (replicate n 0) b t q refl h in
    (m.0, go (eqb (class_of b) 0) refl (gap_blank n t 0 (le_of_suc-le-suc l)) m.1)
  where
    go : (v : Bool) → eqb (class_of b) 0 ≡ v → (T (ends (runs (replicate n 0) t 0)) → T (ends 0) × ((j : ℕ) → j < n → get_or t j 0 ≡ 32))
        → T (ends (runs (replicate n 0) t (cond v 0 56))) → (j : ℕ) → j < suc n → get_or (b ∷ t) j 0 ≡ 32
    go true e on k zero m = blank_class b e
    go true e on k (suc j) m = (on k).1 j (le_of_suc-le-suc m)
    go false e on k j m = absurd (unsure_never (replicate n 0) t k)

-- a field with a role for each of its columns
abbrev suits : Field → Bool
suits f = eqb (length (roles_in f)) (width f) && (wide_as f.kind (width f) && ranged f.kind f.range)

abbrev suit_all : List Field → Bool
suit_all [] = true
suit_all (f ∷ fs) = suits f && suit_all fs

module _ (k : ℕ) (s : List ℕ) (whole : length s ≡ 80) where
  gap_run : (n c q : ℕ) → 1 ≤ c → c + n ≤ 81 → T (ends (runs (replicate n 0) (drop (c - 1) s) q)) → T (ends q) × Gap s c (c + n)
  gap_run n c q l m h =
      let g = gap_blank n (drop (c - 1) s) q (omega (arith, whole, length-drop (c - 1) s)) h in
      (g.0, λ j a b. let e : c - 1 + (j - c) ≡ j - 1 = omega arith in ap (λ i. get_or s i 0) (sym e) ∙ sym (get_or-drop (c - 1) s (j - c) 0) ∙ g.1 (j - c) (omega arith))

  to-field : (c : ℕ) (f : Field) → Lies c f → 1 ≤ c → drop (length {A = ℕ} (replicate (f.first - c) 0)) (drop (c - 1) s) ≡ drop (f.first - 1) s
  to-field c f li l =
      let e : c - 1 + (f.first - c) ≡ f.first - 1 = omega (arith, li.after) in
      ap (λ z. drop z (drop (c - 1) s)) (length-replicate {A = ℕ} (f.first - c) 0) ∙ drop-drop (f.first - c) (c - 1) s ∙ ap (λ z. drop z s) e

  past_field : (c : ℕ) (f : Field) → Lies c f → 1 ≤ c → length (roles_in f) ≡ width f → drop (length (roles_in f)) (drop (f.first - 1) s) ≡ drop (f.last + 1 - 1) s
  past_field c f li l w =
      let e : f.first - 1 + width f ≡ f.last + 1 - 1 = omega (arith, li.after, li.forward) in
      ap (λ y. drop y (drop (f.first - 1) s)) w ∙ drop-drop (width f) (f.first - 1) s ∙ ap (λ y. drop y s) e

  screened : (fs : List Field) (c q : ℕ) → 1 ≤ c → c ≤ 81 → T (is_in_order c fs) → T (suit_all fs) → T (ends (runs (roles_from c fs) (drop (c - 1) s) q))
      → T (ends q) × Clean k s c fs
  unfolding roles_from
  screened [] c q l m o u h =
      let g = gap_run (81 - c) c q l (omega arith) h in
      let e : c + (81 - c) ≡ 81 = omega arith in
      (g.0, subst (λ (d : ℕ). Gap s c d) e g.1)
  screened (f ∷ fs) c q l m o u h =
      let li : Lies c f = front c f fs o in
      let v = both (suits f) (suit_all fs) u in
      let w = both (eqb (length (roles_in f)) (width f)) (wide_as f.kind (width f) && ranged f.kind f.range) v.0 in
      let x = both (wide_as f.kind (width f)) (ranged f.kind f.range) w.1 in
      let size : length (roles_in f) ≡ width f = eqb-true _ _ (is_true _ w.0) in
      let n : ℕ = f.first - c in
      let q1 : ℕ = runs (replicate n 0) (drop (c - 1) s) q in
      let q2 : ℕ = runs (roles_in f) (drop (f.first - 1) s) q1 in
      let all : runs (replicate n 0 ++ (roles_in f ++ roles_from (f.last + 1) fs)) (drop (c - 1) s) q ≡ runs (roles_from (f.last + 1) fs) (drop (f.last + 1 - 1) s) q2 =
      runs_append (replicate n 0) (roles_in f ++ roles_from (f.last + 1) fs) (drop (c - 1) s) q
      ∙ ap (λ (t : List ℕ). runs (roles_in f ++ roles_from (f.last + 1) fs) t q1) (to-field c f li l)
      ∙ runs_append (roles_in f) (roles_from (f.last + 1) fs) (drop (f.first - 1) s) q1
      ∙ ap (λ (t : List ℕ). runs (roles_from (f.last + 1) fs) t q2) (past_field c f li l size) in
      let more = screened fs (f.last + 1) q2 (omega arith) (omega (arith, li.on_card)) (subst (λ j. T (is_in_order j fs)) (sym (add-one f.last)) (rest c f fs o)) v.1 (subst (λ (z : ℕ). T (ends z)) all h) in
      let known = field_fine k s whole f (omega (arith, li.after)) li.forward li.on_card x.0 x.1 size in
      let e : c + n ≡ f.first = omega (arith, li.after) in
      let r = gap_run n c q l (omega (arith, li.after, li.forward, li.on_card)) (known form.Angles q1 more.0).0 in
      (r.0, (subst (λ (d : ℕ). Gap s c d) e r.1, (λ φ. ((known φ q1 more.0).1, (known φ q1 more.0).2)), more.1))

-- every plain layout has fields that suit
all_suit : T (all_to (λ k. cond (plain k) (suit_all (fields_of k)) true) layout_count)
unfolding layouts layout_at fields_of label_of roles_for plain
all_suit = tt

module _ (k : ℕ) (s : List ℕ) (whole : length s ≡ 80) (h : sure k s ≡ true) where
  two : T (plain k) × T (ends (runs (roles_of k) s 24))
  unfolding sure
  two = both (plain k) (ends (runs (roles_of k) s 24)) (subst (λ (b : Bool). T b) (sym h) tt)

  inside : k < layout_count
  inside = go (ltb k layout_count) refl
    where
      go : (b : Bool) → ltb k layout_count ≡ b → k < layout_count
      go true e = ltb-true k layout_count e
      go false e = absurd (subst (λ (b : Bool). T b) (past_plain k (ltb-false k layout_count e)) two.0)

  pub unlabelled : length (label_of k) ≡ 0
  unfolding plain
  unlabelled =
      eqb-true _ _ (is_true _ (both (eqb (length (label_of k)) 0) (have_roles (fields_of k)) (both (leb 3 (length (fields_of k))) (eqb (length (label_of k)) 0 && have_roles (fields_of k)) two.0).1).0)

  pub clean : Clean k s 6 (fields_of k)
  unfolding roles_of fields_of label_of
  clean =
      (screened k s whole (fields_of k) 6 (runs (replicate 5 3) s 24) (omega arith) (omega arith)
      (subst (λ (n : ℕ). T (is_in_order n (fields_of k))) (ap (λ n. 6 + n) unlabelled) (of_layout ordered all_ordered k inside))
      (subst (λ (b : Bool). T (cond b (suit_all (fields_of k)) true)) (is_true (plain k) two.0) (all_at (λ j. cond (plain j) (suit_all (fields_of j)) true) layout_count all_suit k inside))
      (subst (λ (z : ℕ). T (ends z)) (runs_append (replicate 5 3) (roles_from 6 (fields_of k)) s 24) two.1)).1
