-- What each kind of fault is, by the numbers of the keys in a column.
use Prim.Native.Nat.{ℕ, zero, suc, ◌+◌, ◌<◌}
use native.Mathlib.Decide.{dec_lt, ℕ_discrete}
use native.Mathlib.Omega.{arith}
use mathlib.Core.Path.{◌≡◌, sym, ap, ◌∙◌}
use mathlib.Core.Bool.{Bool, true, false, cond, ◌&&◌, not}
use mathlib.Core.List.{List, [], ◌∷◌}
use lib.Dec.{eqb, ltb}
use borrow.Author.Tests.{eq-eqb, ne_eqb, lt-ltb, le-ltb}
use Rattle.base_lists.specs.Parts.{alike}
use Rattle.value_text.specs.text.Texts.{printable}
use Rattle.header_check.specs.forms.Cards.{card_at, cards_in, layout_of}
use Rattle.tie_rules.specs.Ties.{Role, defines, refers}
use Rattle.tie_rules.specs.Keys.{whole_in, class_at, key_at, vessel_of, contradict}
use Rattle.tie_rules.specs.packed.Rows.{column_in, own_in, packed_by, marked, unmarked}
use Rattle.tie_rules.specs.Ties.{states_own}
use Rattle.tie_rules.proofs.key_laws.Told.{packed_at, holds-packed}
use Rattle.tie_rules.specs.Definitions.{definitions_of, contradictions_of}
use Rattle.tie_rules.specs.Faults.{definitions_at, undefined, redefined, ambiguous, contradicted}
use Rattle.tie_check.specs.packed.Numbers.{vessel_told}
use Rattle.tie_check.specs.packed.Asked.{times_of, only_apart, contradicted_by}
use Rattle.tie_check.proofs.judging.Asked.{definitions_asked, contradictions_asked}
use Rattle.tie_check.proofs.judging.Stated.{shape}

-- a vessel that is stated against the card's own
pub not_own : (l : List ℕ) (m v : ℕ) → l ≡ unmarked m → not (eqb m (v + 1)) ≡ not (alike l (v ∷ []))
unfolding alike
not_own l zero v e = rw (e, ne_eqb 0 (v + 1) (λ q. omega arith))
not_own l (suc n) v e = rw e (elim (ℕ_discrete n v) [
  | yes q ↦ rw (eq-eqb n v q, eq-eqb (suc n) (v + 1) (omega arith))
  | no q ↦ rw (ne_eqb n v q, ne_eqb (suc n) (v + 1) (λ r. q (omega arith)))
])

pub against_own : (s : List ℕ) (row vessel tag column m : ℕ) (own : Bool) → own ≡ own_in row → own ≡ true → column ≡ column_in row
    → m ≡ marked (whole_in column column s) → not (eqb m (vessel + 1)) ≡ contradicted_by s row vessel tag
unfolding contradicted_by
against_own s row vessel tag column m own is e at q =
    rw (← is, e, ← at) (not_own (whole_in column column s) m vessel (shape column column s m q))

pub against_other : (s : List ℕ) (row vessel tag : ℕ) (own r : Bool) → own ≡ own_in row → own ≡ false → r ≡ contradict vessel (vessel_told tag)
    → r ≡ contradicted_by s row vessel tag
unfolding contradicted_by
against_other s row vessel tag own r is e h = rw (← is, e) h

-- the kinds that are about keys
module _ (h : List ℕ) (printed : (c : ℕ) → c < cards_in h → printable (card_at h c) ≡ true)
    (s : List ℕ) (column : ℕ) (clean : printable s ≡ true) where
  abbrev pub number : Role → ℕ
  number r = packed_by r (layout_of s) s column

  -- how often the key is defined, where there is one
  times_at_lem : (r : Role) → 0 < number r → definitions_of h (class_at r s column) (key_at r s column) ≡ times_of h (number r)
  unfolding times_of
  times_at_lem r z =
      definitions_asked h printed (class_at r s column) (key_at r s column) (number r) (packed_at r s column) z
      ∙ rw (ne_eqb (number r) 0 (λ q. omega arith))

  apart_at_lem : (r : Role) (v : ℕ) → 0 < number r
      → (eqb (definitions_of h (class_at r s column) (key_at r s column)) 1
      && eqb (contradictions_of h (class_at r s column) (key_at r s column) v) 1) ≡ only_apart h (number r) v
  unfolding only_apart
  apart_at_lem r v z = rw (
    ne_eqb (number r) 0 (λ q. omega arith),
    definitions_asked h printed (class_at r s column) (key_at r s column) (number r) (packed_at r s column) z,
    contradictions_asked h printed (class_at r s column) (key_at r s column) (number r) (packed_at r s column) z v,
  )

  none_apart : (r : Role) (v : ℕ) → (0 < number r → ⊥) → only_apart h (number r) v ≡ false
  unfolding only_apart
  none_apart r v z = rw (eq-eqb (number r) 0 (omega arith))

  none_at : (r : Role) → (0 < number r → ⊥) → times_of h (number r) ≡ 0
  unfolding times_of
  none_at r z = rw (eq-eqb (number r) 0 (omega arith))

  pub undefined_by : undefined h s column ≡ (not (eqb (number refers) 0) && eqb (times_of h (number refers)) 0)
  unfolding undefined definitions_at
  undefined_by = rw (holds-packed s column clean refers) (elim (dec_lt 0 (number refers)) [
    | yes z ↦ rw (lt-ltb 0 (number refers) z, ne_eqb (number refers) 0 (λ q. omega arith), times_at_lem refers z)
    | no z ↦ rw (le-ltb 0 (number refers) (omega arith), eq-eqb (number refers) 0 (omega arith))
  ])

  pub redefined_by : redefined h s column ≡ ltb 1 (times_of h (number defines))
  unfolding redefined
  redefined_by = rw (holds-packed s column clean defines) (elim (dec_lt 0 (number defines)) [
    | yes z ↦ rw (lt-ltb 0 (number defines) z, times_at_lem defines z)
    | no z ↦ rw (le-ltb 0 (number defines) (omega arith), none_at defines z)
  ])

  pub ambiguous_by : ambiguous h s column ≡ ltb 1 (times_of h (number refers))
  unfolding ambiguous definitions_at
  ambiguous_by = rw (holds-packed s column clean refers) (elim (dec_lt 0 (number refers)) [
    | yes z ↦ rw (lt-ltb 0 (number refers) z, times_at_lem refers z)
    | no z ↦ rw (le-ltb 0 (number refers) (omega arith), none_at refers z)
  ])

  pub contradicted_by_lem : (row tag : ℕ) → own_in row ≡ states_own (layout_of s) column → column_in row ≡ column
      → contradict (vessel_of s) (vessel_told tag) ≡ only_apart h (number refers) (vessel_of s)
      → contradicted_by s row (vessel_of s) tag ≡ contradicted h s column
  unfolding contradicted contradicted_by definitions_at
  contradicted_by_lem row tag own at apart =
      rw (own, at, apart)
      (ap (cond (states_own (layout_of s) column) (not (alike (whole_in column column s) (vessel_of s ∷ []))))
      (sym (rw (holds-packed s column clean refers) (elim (dec_lt 0 (number refers)) [
        | yes z ↦ rw (lt-ltb 0 (number refers) z) (apart_at_lem refers (vessel_of s) z)
        | no z ↦ rw (le-ltb 0 (number refers) (omega arith), none_apart refers (vessel_of s) z)
      ]))))
