-- A header is refused exactly where something is amiss and nothing before it is, in the stated order, and else accepted.
use Prim.Native.Nat.{ℕ, ◌+◌, ◌%◌, ◌≤◌, ◌<◌}
use native.Mathlib.Decide.{ℕ_discrete, dec_lt}
use native.Mathlib.Omega.{arith}
use mathlib.Core.Path.{◌≡◌, refl, sym, ap, ◌∙◌}
use mathlib.Core.Logic.{◌↔◌}
use mathlib.Core.List.{List}
use mathlib.Core.Bool.{true, false, not, true≢false}
use lib.ListN.{length}
use Rattle.base_lists.specs.Count.{first}
use Rattle.base_lists.proofs.Finding.{first_le, first_below, first_passes, first_unique, first-none}
use Rattle.base_refusal.specs.declared.Refusal.{Refusal}
use Rattle.base_refusal.specs.Refusals.{refusal, no_refusal}
use Rattle.header_check.specs.forms.Cards.{cards_in}
use Rattle.header_check.specs.Refusing.{largest, verdict_at, is_fine, offends, answer_for, answer_at, cards_answer, refusal_of}
use Rattle.header_check.proofs.Lengths.{no_bytes, odd_bytes, too_many_lem, by_cards}
use Rattle.std.specs.Prelude.{Result, Ok, Err, ⊤}
use Rattle.card_check.specs.declared.Offence.{Offence}
use Rattle.card_check.specs.Verdicts.{offending}

-- the length is that of at least one card, of whole ones, and of not too many
pub record Sized (h : List ℕ) : Type 0 where
  pub some : length h ≡ 0 → ⊥
  pub whole : length h % 80 ≡ 0
  pub few : cards_in h ≤ largest

-- nothing is amiss at any card, nor past the last one
abbrev pub Fine-throughout : List ℕ → Type 0
Fine-throughout h = (c : ℕ) → c ≤ cards_in h → verdict_at h c ≡ no_refusal

-- at a place, from 0, stands an offence, and at none before it
pub record First-at (h : List ℕ) (c n column : ℕ) : Type 0 where
  pub there : c ≤ cards_in h
  pub offence : verdict_at h c ≡ Err (offending n column)
  pub before : (j : ℕ) → j < c → verdict_at h j ≡ no_refusal

-- what refuses a header, with number, card and column
pub data Amiss (h : List ℕ) : ℕ → ℕ → ℕ → Type 0 where
  empty : length h ≡ 0 → Amiss h 1 0 0
  broken : (length h ≡ 0 → ⊥) → (length h % 80 ≡ 0 → ⊥) → Amiss h 2 0 0
  long : (length h ≡ 0 → ⊥) → length h % 80 ≡ 0 → largest < cards_in h → Amiss h 3 0 0
  at_card : {c n column : ℕ} → Sized h → First-at h c n column → Amiss h n (c + 1) column

fine_by : (v : Result ⊤ Offence) → not (is_fine v) ≡ false → v ≡ no_refusal
fine_by (Ok _) e = refl
fine_by (Err o) e = absurd (true≢false e)

module _ (h : List ℕ) where
  is_fine_lem : (c : ℕ) → offends h c ≡ false → verdict_at h c ≡ no_refusal
  unfolding offends
  is_fine_lem c e = fine_by (verdict_at h c) e

  no_offence : (c : ℕ) → verdict_at h c ≡ no_refusal → offends h c ≡ false
  unfolding offends
  no_offence c e = rw e

  an_offence : (c n column : ℕ) → verdict_at h c ≡ Err (offending n column) → offends h c ≡ true
  unfolding offends
  an_offence c n column e = rw e

  -- the place that decides
  abbrev place : ℕ
  place = first (offends h) (cards_in h)

  place_of : (c n column : ℕ) → First-at h c n column → place ≡ c
  place_of c n column f = elim (dec_lt c (cards_in h)) [
    | yes l ↦ first_unique (offends h) (cards_in h) c l (an_offence c n column f.offence) (λ j k. no_offence j (f.before j k))
    | no l ↦ first-none (offends h) (cards_in h) (λ j k. no_offence j (f.before j (omega arith))) ∙ omega (arith, f.there)
  ]

  answers : (c n column : ℕ) → First-at h c n column → cards_answer h ≡ Err (refusal n (c + 1) column)
  unfolding cards_answer answer_at answer_for
  answers c n column f = rw (place_of c n column f, f.offence)

  accepts : Fine-throughout h → cards_answer h ≡ no_refusal
  unfolding cards_answer answer_at answer_for
  accepts f = rw (f place (first_le (offends h) (cards_in h)))

  first_at_place : (v : Result ⊤ Offence) → verdict_at h place ≡ v → (n column : ℕ) → v ≡ Err (offending n column) → First-at h place n column
  first_at_place v e n column q = record {
    there = first_le (offends h) (cards_in h);
    offence = e ∙ q;
    before = λ j l. is_fine_lem j (first_below (offends h) (cards_in h) j l);
  }

-- refusals that are the same have the same parts
same : (a b : Refusal) → ◌≡◌ {A = Result ⊤ Refusal} (Err a) (Err b) → a ≡ b
same a b e = cc

never : (r : Refusal) → ◌≡◌ {A = Result ⊤ Refusal} no_refusal (Err r) → ⊥
never r e = let z : ◌≡◌ {A = ℕ} 0 1 = cc in omega arith

module _ (h : List ℕ) where
  alike : (a b c n card column : ℕ) → ◌≡◌ {A = Result ⊤ Refusal} (Err (refusal a b c)) (Err (refusal n card column))
      → Amiss h a b c → Amiss h n card column
  alike a b c n card column e x =
      let r : refusal a b c ≡ refusal n card column = same (refusal a b c) (refusal n card column) e in
      let p : a ≡ n = ap (λ (s : Refusal). s.number) r in
      let q : b ≡ card = ap (λ (s : Refusal). s.card) r in
      let t : c ≡ column = ap (λ (s : Refusal). s.column) r in
      rw (← p, ← q, ← t) x

  -- what the cards are refused for
  by_card : Sized h → (v : Result ⊤ Offence) → verdict_at h (place h) ≡ v → (n card column : ℕ)
      → answer_for v (place h + 1) ≡ Err (refusal n card column) → Amiss h n card column
  unfolding answer_for
  by_card sized (Ok _) e n card column a = absurd (never (refusal n card column) a)
  by_card sized (Err o) e n card column a =
      alike o.number (place h + 1) o.column n card column a (at_card sized (first_at_place h (Err o) e o.number o.column refl))

  sized_way : Sized h → refusal_of h ≡ answer_for (verdict_at h (place h)) (place h + 1)
  unfolding cards_answer answer_at
  sized_way s = (by_cards h s.some s.whole s.few).0

  -- one of the ways to be answered
  data Way : Type 0 where
    short : length h ≡ 0 → Way
    odd : (length h ≡ 0 → ⊥) → (length h % 80 ≡ 0 → ⊥) → Way
    many : (length h ≡ 0 → ⊥) → length h % 80 ≡ 0 → largest < cards_in h → Way
    cards : Sized h → Way

  way : Way
  way = elim (ℕ_discrete (length h) 0) [
    | yes e ↦ short e
    | no e ↦ elim (ℕ_discrete (length h % 80) 0) [
      | yes q ↦ elim (dec_lt largest (cards_in h)) [
        | yes l ↦ many e q l
        | no l ↦ cards (record { some = e; whole = q; few = omega arith })
      ]
      | no q ↦ odd e q
    ]
  ]

  refused_for : (n card column : ℕ) → Way → refusal_of h ≡ Err (refusal n card column) → Amiss h n card column
  refused_for n card column (short e) r = alike 1 0 0 n card column (sym (no_bytes h e).0 ∙ r) (empty e)
  refused_for n card column (odd e q) r = alike 2 0 0 n card column (sym (odd_bytes h e q).0 ∙ r) (broken e q)
  refused_for n card column (many e q l) r = alike 3 0 0 n card column (sym (too_many_lem h e q l).0 ∙ r) (long e q l)
  refused_for n card column (cards s) r = by_card s (verdict_at h (place h)) refl n card column (sym (sized_way s) ∙ r)

  amiss_refused : {n card column : ℕ} → Amiss h n card column → refusal_of h ≡ Err (refusal n card column)
  amiss_refused (empty e) = (no_bytes h e).0
  amiss_refused (broken e q) = (odd_bytes h e q).0
  amiss_refused (long e q l) = (too_many_lem h e q l).0
  amiss_refused (at_card {c} {n} {column} s f) = (by_cards h s.some s.whole s.few).0 ∙ answers h c n column f

  -- a refusal is given exactly where it is the first thing amiss
  pub refused_exactly : (n card column : ℕ) → (refusal_of h ≡ Err (refusal n card column)) ↔ Amiss h n card column
  refused_exactly n card column = (λ r. refused_for n card column way r, λ a. amiss_refused a)

  -- where the place that decides is fine, no card offends
  none-offends : verdict_at h (place h) ≡ no_refusal → cards_in h ≤ place h
  none-offends e = elim (dec_lt (place h) (cards_in h)) [
    | yes l ↦ absurd (true≢false (sym (first_passes (offends h) (cards_in h) l) ∙ no_offence h (place h) e))
    | no l ↦ omega arith
  ]

  all_fine : (v : Result ⊤ Offence) → verdict_at h (place h) ≡ v → answer_for v (place h + 1) ≡ no_refusal → Fine-throughout h
  unfolding answer_for
  all_fine (Ok _) e a c l = elim (ℕ_discrete c (place h)) [
    | yes q ↦ ap (verdict_at h) q ∙ e
    | no q ↦ is_fine_lem h c (first_below (offends h) (cards_in h) c (omega (arith, none-offends e)))
  ]
  all_fine (Err o) e a c l = absurd (never (refusal o.number (place h + 1) o.column) (sym a))

  accepted_for : Way → refusal_of h ≡ no_refusal → Sized h × Fine-throughout h
  accepted_for (short e) r = absurd (never (refusal 1 0 0) (sym r ∙ (no_bytes h e).0))
  accepted_for (odd e q) r = absurd (never (refusal 2 0 0) (sym r ∙ (odd_bytes h e q).0))
  accepted_for (many e q l) r = absurd (never (refusal 3 0 0) (sym r ∙ (too_many_lem h e q l).0))
  accepted_for (cards s) r = (s, all_fine (verdict_at h (place h)) refl (sym (sized_way s) ∙ r))

  -- a header is accepted exactly where its length is one of cards and nothing is amiss at any of them, nor past the last
  pub accepted_exactly : (refusal_of h ≡ no_refusal) ↔ (Sized h × Fine-throughout h)
  accepted_exactly = (λ r. accepted_for way r, λ a. (by_cards h a.0.some a.0.whole a.0.few).0 ∙ accepts h a.1)
