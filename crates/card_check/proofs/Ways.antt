-- What each way through judging a card finds.
use Prim.Native.Nat.{ℕ, zero, suc, ◌+◌, ◌-◌, ◌≤◌, ◌<◌}
use native.Mathlib.Omega.{arith}
use native.Mathlib.Decide.{ℕ_discrete}
use native.Mathlib.Nat.{zero-add}
use mathlib.Core.Path.{◌≡◌, refl, sym, ap, subst, ◌∙◌}
use mathlib.Core.List.{List, [], ◌∷◌}
use mathlib.Core.Bool.{Bool, true, false, cond, ◌&&◌, true≢false}
use lib.ListN.{length, get_or, take, drop, length-drop}
use lib.Seq.{length-take-le, get_or-take, get_or-drop, ext_get_or}
use lib.Dec.{eqb, ltb}
use borrow.Author.Tests.{eq-eqb, ne_eqb, lt-ltb, le-ltb}
use Rattle.std.specs.Prelude.{MatchBool, Err}
use Rattle.std.specs.List.{range_with_len, AllWithin, HoldsAt}
use Rattle.std.proofs.lemmas.List.FromFn.{length-range_with_len, get_or-range_with_len}
use Rattle.base_lists.specs.Count.{first_from}
use Rattle.base_lists.specs.Parts.{alike}
use Rattle.base_lists.proofs.Finding.{stops, goes, over}
use Rattle.base_lists.proofs.Comparing.{equal_alike, unequal_alike}
use Rattle.format_code.specs.declared.Code.{Code}
use Rattle.format_layout.specs.declared.Field.{Field}
use Rattle.format_layout.specs.declared.Form.{Form}
use Rattle.format_layout.specs.Forms.{is_open}
use Rattle.format_code.specs.Codes.{code_of}
use Rattle.format_layout.specs.Layouts.{label_of, fields_of}
use Rattle.value_text.specs.printable.Bytes.{first_bad}
use Rattle.card_field.specs.judging.Fields.{judged_of, number_of}
use Rattle.card_check.specs.Judging.{is_coordinate, field_offence, filled_at, next_verdict, label_stands, label_offence, offence_at, column_offence, verdict_from, code_verdict, verdict_of}
use Rattle.card_check.proofs.Leftmost.{decides, skips, agree}
use Rattle.base_refusal.specs.Refusals.{no_refusal}
use Rattle.card_check.specs.Verdicts.{offending}

-- a column that is not blank, and one that is
pub filled_here : (s : List ℕ) (c : ℕ) → (get_or s (c - 1) 0 ≡ 32 → ⊥) → filled_at s c ≡ true
unfolding filled_at
filled_here s c h = rw (ne_eqb (get_or s (c - 1) 0) 32 h)

pub blank_here : (s : List ℕ) (c : ℕ) → get_or s (c - 1) 0 ≡ 32 → filled_at s c ≡ false
unfolding filled_at
blank_here s c h = rw (eq-eqb (get_or s (c - 1) 0) 32 h)

-- the columns from one on, looked at all: where c is not the first filled one a filled one came before
module _ (s : List ℕ) (from : ℕ) where
  pub record Blank (blank : Bool) (c : ℕ) : Type 0 where
    pub within : c ≤ 81
    pub so_far : blank ≡ true → first_from (filled_at s) (81 - from) from ≡ first_from (filled_at s) (81 - c) c
    pub not_so : blank ≡ false → first_from (filled_at s) (81 - from) from ≤ 80

  pub blank_first : from ≤ 81 → Blank true from
  blank_first h = record { within = h; so_far = λ q. refl; not_so = λ q. absurd (true≢false q) }

  blank_more : (blank : Bool) (c : ℕ) → c ≤ 80 → Blank blank c → Blank (blank && eqb (get_or s (c - 1) 0) 32) (c + 1)
  blank_more false c h b = record { within = omega arith; so_far = λ q. absurd (true≢false (sym q)); not_so = λ q. b.not_so refl }
  blank_more true c h b = elim (ℕ_discrete (get_or s (c - 1) 0) 32) [
    | yes q ↦ rw (eq-eqb (get_or s (c - 1) 0) 32 q) (record {
      within = omega arith;
      so_far = λ e. b.so_far refl ∙ goes (filled_at s) 81 c (omega arith) (blank_here s c q);
      not_so = λ e. absurd (true≢false e);
    })
    | no q ↦ rw (ne_eqb (get_or s (c - 1) 0) 32 q) (record {
      within = omega arith;
      so_far = λ e. absurd (true≢false (sym e));
      not_so = λ e. let f : first_from (filled_at s) (81 - from) from ≡ c = b.so_far refl ∙ stops (filled_at s) 81 c (omega arith) (filled_here s c q) in omega arith;
    })
  ]

  pub blank_all : (blank : Bool) (c : ℕ) → 80 < c → Blank blank c → blank ≡ ltb 80 (first_from (filled_at s) (81 - from) from)
  blank_all true c h b =
      let e : first_from (filled_at s) (81 - from) from ≡ c = b.so_far refl ∙ over (filled_at s) 81 c (omega arith) in
      sym (lt-ltb 80 (first_from (filled_at s) (81 - from) from) (omega arith))
  blank_all false c h b = sym (le-ltb 80 (first_from (filled_at s) (81 - from) from) (b.not_so refl))

  -- the columns from `from` on as a slice of the card
  module _ (whole : length s ≡ 80) (first : 1 ≤ from) (last : from ≤ 81) where
    abbrev rest : List ℕ
    rest = take (length s - (from - 1)) (drop (from - 1) s)

    pub rest_len : length rest ≡ 81 - from
    rest_len =
        length-take-le (length s - (from - 1)) (drop (from - 1) s) (omega (arith, length-drop (from - 1) s)) ∙ omega (arith, whole)

    pub blank_next : (blank : Bool) (i : ℕ) → i < length rest → Blank blank (from + i) → Blank (blank && eqb (get_or rest i 0) 32) (from + (i + 1))
    blank_next blank i h b =
        let e : get_or rest i 0 ≡ get_or s (from + i - 1) 0 =
        get_or-take (length s - (from - 1)) (drop (from - 1) s) i 0 (omega (arith, h, rest_len, whole))
        ∙ get_or-drop (from - 1) s i 0 ∙ ap (λ j. get_or s j 0) (omega arith) in
        let n : from + (i + 1) ≡ from + i + 1 = omega arith in
        rw (e, n) (blank_more blank (from + i) (omega (arith, h, rest_len)) b)

-- a field in which nothing was found
pub no_offence : (k : ℕ) (form : Form) (s : List ℕ) (f : Field) (n : ℕ) → n ≡ number_of (judged_of k s f form) → n ≡ 0
    → field_offence k form s f ≡ 0
unfolding field_offence
no_offence k form s f n found h = rw (← found, h) (either (is_open form && is_coordinate f.kind))
  where
    either : (b : Bool) → ◌≡◌ {A = ℕ} (cond b 0 0) 0
    either true = refl
    either false = refl

-- a coordinate whose form is not known is passed over
pub unread : (k : ℕ) (form : Form) (s : List ℕ) (f : Field) → (is_open form && is_coordinate f.kind) ≡ true → field_offence k form s f ≡ 0
unfolding field_offence
unread k form s f h = rw h

-- the columns up to a field, and the field
module _ (k : ℕ) (form : Form) (s : List ℕ) (f : Field) (c q first : ℕ) (begins : first ≡ f.first) (is : q ≡ first_from (filled_at s) (first - c) c) where
  pub next-gap : q < first → next_verdict k form s f c ≡ Err (offending 7 q)
  unfolding next_verdict
  next-gap h = rw (← begins, ← is, lt-ltb q first h)

  module _ (past : first ≤ q) (n : ℕ) (number : n ≡ field_offence k form s f) where
    pub next_fine : n ≡ 0 → next_verdict k form s f c ≡ no_refusal
    unfolding next_verdict
    next_fine h = rw (← number, ← begins, ← is, le-ltb q first past, eq-eqb n 0 h)

    pub next-field-bad : (n ≡ 0 → ⊥) → next_verdict k form s f c ≡ Err (offending n first)
    unfolding next_verdict
    next-field-bad h = rw (← number, ← begins, ← is, le-ltb q first past, ne_eqb n 0 h)

-- the label, byte by byte
module _ (k : ℕ) (s : List ℕ) where
  label_at : (i : ℕ) → i < length (label_of k) → get_or (take (length (label_of k)) (drop 5 s)) i 0 ≡ get_or s (5 + i) 0
  label_at i h = get_or-take (length (label_of k)) (drop 5 s) i 0 h ∙ get_or-drop 5 s i 0

  in_label : (i : ℕ) → i < length (label_of k) → get_or (label_of k) i 32 ≡ get_or (label_of k) i 0
  in_label i h = default (label_of k) i h
    where
      default : (l : List ℕ) (i : ℕ) → i < length l → get_or l i 32 ≡ get_or l i 0
      default [] i h = absurd (omega arith)
      default (x ∷ l) zero h = refl
      default (x ∷ l) (suc i) h = default l i (omega arith)

  pub label-other : (i : ℕ) → i < length (label_of k) → length s ≡ 80 → length (label_of k) ≤ 75 → (b : ℕ) → b ≡ get_or (label_of k) i 32
      → (get_or s (5 + i) 0 ≡ b → ⊥) → label_stands k s ≡ false
  unfolding label_stands
  label-other i h whole room b q ne =
      unequal_alike (take (length (label_of k)) (drop 5 s)) (label_of k)
      (λ e. ne (sym (label_at i h) ∙ ap (λ (l : List ℕ). get_or l i 0) e ∙ sym (in_label i h) ∙ sym q))

  pub label_here : length s ≡ 80 → length (label_of k) ≤ 75
      → ((j : ℕ) → j < length (label_of k) → get_or s (5 + j) 0 ≡ get_or (label_of k) j 32) → label_stands k s ≡ true
  unfolding label_stands
  label_here whole room same =
      equal_alike (take (length (label_of k)) (drop 5 s)) (label_of k)
      (ext_get_or 0 (take (length (label_of k)) (drop 5 s)) (label_of k) wide
      (λ j h. label_at j (omega (arith, wide)) ∙ same j (omega (arith, wide)) ∙ in_label j (omega (arith, wide))))
    where
      wide : length (take (length (label_of k)) (drop 5 s)) ≡ length (label_of k)
      wide = length-take-le (length (label_of k)) (drop 5 s) (rw (length-drop 5 s) (omega arith))

  -- the answer of `all`, over the places of the label
  abbrev pub Same : ℕ → Type 0
  Same i = get_or s (5 + i) 0 ≡ get_or (label_of k) i 32

  pub labelled : (n : ℕ) → n ≡ length (label_of k) → length s ≡ 80 → length (label_of k) ≤ 75 → (r : Bool)
      → MatchBool r (AllWithin Same (range_with_len 0 n) 0 (length (range_with_len 0 n)))
      ((j : ℕ) × (j < length (range_with_len 0 n)) × HoldsAt (λ i. Same i → ⊥) (range_with_len 0 n) j)
      → r ≡ label_stands k s
  labelled n e whole room true h =
      let size = length-range_with_len 0 n in
      sym (label_here whole room (λ j l. subst Same (get_or-range_with_len 0 n j 0 (omega (arith, e)) ∙ zero-add j) (h j 0 (omega arith) (omega (arith, e, size)))))
  labelled n e whole room false h =
      let l : h.0 < n = omega (arith, h.1, length-range_with_len 0 n) in
      sym (label-other h.0 (omega (arith, e, l)) whole room _ refl (subst (λ i. Same i → ⊥) (get_or-range_with_len 0 n h.0 0 l ∙ zero-add h.0) (h.2 0)))

-- a card of a read code: its label, and then the columns behind it
module _ (k : ℕ) (form : Form) (s : List ℕ) where
  pub label_wrong : label_stands k s ≡ false → verdict_from (offence_at k form s) 6 ≡ Err (offending 8 6)
  unfolding offence_at label_offence label_stands alike
  label_wrong h =
      decides (offence_at k form s) 6 (omega arith) (λ z. absurd (omega (arith, eight))) ∙ ap (λ n. Err (offending n 6)) eight
    where
      long : (l u : List ℕ) → alike (take (length l) u) l ≡ false → 0 < length l
      long [] u q = absurd (true≢false q)
      long (x ∷ l) u q = omega arith

      eight : offence_at k form s 6 ≡ 8
      eight = rw (lt-ltb 6 (6 + length (label_of k)) (omega (arith, long (label_of k) (drop 5 s) h)), h)

  pub label_right : label_stands k s ≡ true → length (label_of k) ≤ 75 → (c : ℕ) → c ≡ 6 + length (label_of k)
      → verdict_from (offence_at k form s) 6 ≡ verdict_from (column_offence k form s (fields_of k)) c
  unfolding offence_at label_offence
  label_right h room c q =
      skips (offence_at k form s) (length (label_of k)) 6 (omega arith) none
      ∙ ap (verdict_from (offence_at k form s)) (sym q)
      ∙ agree (offence_at k form s) (column_offence k form s (fields_of k)) c (omega arith) (λ j a. rw (le-ltb j (6 + length (label_of k)) (omega arith)))
    where
      never : (b : Bool) → ◌≡◌ {A = ℕ} (cond (b && false) 8 0) 0
      never true = refl
      never false = refl

      none : (j : ℕ) → 6 ≤ j → j < 6 + length (label_of k) → offence_at k form s j ≡ 0
      none j a b = rw (lt-ltb j (6 + length (label_of k)) b, h) (never (eqb j 6))

-- the card before its columns
module _ (s : List ℕ) (form : Form) where
  pub verdict_empty : length s ≡ 0 → verdict_of s form ≡ Err (offending 1 0)
  unfolding verdict_of
  verdict_empty h = rw (eq-eqb (length s) 0 h)

  pub verdict_odd : (length s ≡ 0 → ⊥) → (length s ≡ 80 → ⊥) → verdict_of s form ≡ Err (offending 2 0)
  unfolding verdict_of
  verdict_odd some h = rw (ne_eqb (length s) 0 some, ne_eqb (length s) 80 h)

  module _ (whole : length s ≡ 80) (bad : ℕ) (is : bad ≡ first_bad s) where
    pub verdict_bad : bad < 80 → verdict_of s form ≡ Err (offending 4 (bad + 1))
    unfolding verdict_of
    verdict_bad h = rw (whole, ← is, lt-ltb bad 80 h)

    pub verdict_coded : 80 ≤ bad → (k : Code) → code_of (take 5 s) ≡ k → verdict_of s form ≡ code_verdict k form s
    unfolding verdict_of
    verdict_coded h k q = rw (whole, ← is, le-ltb bad 80 h, q)
