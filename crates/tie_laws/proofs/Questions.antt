-- Questions about a key agree with the list: at every reference with kinds 1 and 3, at every definition with kind 2, and
-- where a key has one definition with kind 4.
use Prim.Native.Nat.{ℕ, ◌+◌, ◌-◌, ◌/◌, ◌≤◌, ◌<◌}
use native.Mathlib.Decide.{ℕ_discrete, dec_lt}
use native.Mathlib.Omega.{arith}
use mathlib.Core.Path.{◌≡◌, refl, sym, ap, ap₂, ◌∙◌}
use mathlib.Core.Logic.{◌↔◌, ◌⊎◌, inl, inr, ⊎_elim}
use mathlib.Core.Bool.{Bool, true, false, ◌&&◌, not, true≢false}
use mathlib.Core.List.{List, [], ◌∷◌}
use lib.Dec.{eqb, ltb}
use borrow.Author.Tests.{eq-eqb, eqb-true, lt-ltb, ltb-true}
use Rattle.base_lists.specs.Count.{count, first}
use Rattle.base_lists.proofs.Comparing.{equal_alike, unequal_alike}
use Rattle.base_lists.proofs.Counting.{count_one, count-some}
use Rattle.base_lists.proofs.Finding.{first_passes}
use Rattle.header_check.specs.forms.Cards.{card_at, cards_in, layout_of}
use Rattle.tie_rules.specs.Ties.{defines, refers, states_own}
use Rattle.tie_rules.specs.Keys.{class_at, key_at, holds_key, defines_key, vessel_of, contradict, whole_in}
use Rattle.tie_rules.specs.Definitions.{places, card_of, column_of, defined_at, definitions_of, place_of, contradictions_of}
use Rattle.tie_rules.specs.Faults.{definitions_at, undefined, redefined, ambiguous, contradicted, broken_on, broken}
use Rattle.tie_laws.proofs.Tests.{both}
use Rattle.tie_laws.proofs.Places.{Defines, Only, Elsewhere, number_of, first-there, pair_there, to_number, of_number}
use Rattle.tie_laws.proofs.Places.{at_least_one, one_exactly, several_exactly, place_named, place-only, no_place_exactly}

fails : (b : Bool) → (b ≡ true → ⊥) → b ≡ false
fails true f = absurd (f refl)
fails false f = refl

-- what a column of a card refers to, or defines
module _ (h : List ℕ) (c column : ℕ) where
  -- how many definitions the key has that the column of a card, counted from 0, refers to
  abbrev pub referred : ℕ
  referred = definitions_of h (class_at refers (card_at h c) column) (key_at refers (card_at h c) column)

  -- kind 1 stands at a reference whose key has no definition, and nowhere else
  pub undefined_exactly : (broken h c column 1 ≡ true) ↔ ((holds_key refers (card_at h c) column ≡ true) × (referred ≡ 0))
  unfolding broken broken_on undefined definitions_at
  undefined_exactly =
      let w = both (holds_key refers (card_at h c) column) (eqb referred 0) in
      (λ e. ((w.0 e).0, eqb-true referred 0 (w.0 e).1), λ e. w.1 (e.0, eq-eqb referred 0 e.1))

  -- kind 3 at one whose key has several
  pub ambiguous_exactly : (broken h c column 3 ≡ true) ↔ ((holds_key refers (card_at h c) column ≡ true) × (2 ≤ referred))
  unfolding broken broken_on ambiguous definitions_at
  ambiguous_exactly =
      let w = both (holds_key refers (card_at h c) column) (ltb 1 referred) in
      (λ e. ((w.0 e).0, ltb-true 1 referred (w.0 e).1), λ e. w.1 (e.0, lt-ltb 1 referred e.1))

  -- a reference without either has exactly one
  pub settled_exactly : holds_key refers (card_at h c) column ≡ true
      → ((broken h c column 1 ≡ false) × (broken h c column 3 ≡ false)) ↔ (referred ≡ 1)
  settled_exactly held = (
    λ e. elim (ℕ_discrete referred 0) [
      | yes z ↦ absurd (true≢false (sym (undefined_exactly.1 (held, z)) ∙ e.0))
      | no z ↦ elim (dec_lt 1 referred) [
        | yes l ↦ absurd (true≢false (sym (ambiguous_exactly.1 (held, l)) ∙ e.1))
        | no l ↦ omega arith
      ]
    ],
    λ o. (
      fails (broken h c column 1) (λ e. omega (arith, (undefined_exactly.0 e).1)),
      fails (broken h c column 3) (λ e. omega (arith, (ambiguous_exactly.0 e).1)),
    ),
  )

  -- the place of what a reference means is 0 and 0 exactly where kind 1 or kind 3 stands there
  pub place_of_reference : holds_key refers (card_at h c) column ≡ true
      → (place_of h (class_at refers (card_at h c) column) (key_at refers (card_at h c) column) ≡ 0 ∷ 0 ∷ [])
      ↔ ((broken h c column 1 ≡ true) ⊎ (broken h c column 3 ≡ true))
  place_of_reference held =
      let w = no_place_exactly h (class_at refers (card_at h c) column) (key_at refers (card_at h c) column) in (
        λ e. elim (ℕ_discrete referred 0) [
          | yes z ↦ inl (undefined_exactly.1 (held, z))
          | no z ↦ elim (dec_lt 1 referred) [
            | yes l ↦ inr (ambiguous_exactly.1 (held, l))
            | no l ↦ absurd (w.0 e (omega arith))
          ]
        ],
        λ x. w.1 (λ o. ⊎_elim (λ e. omega (arith, (undefined_exactly.0 e).1)) (λ e. omega (arith, (ambiguous_exactly.0 e).1)) x),
      )

  -- how many definitions the key has that the column defines
  abbrev pub defined : ℕ
  defined = definitions_of h (class_at defines (card_at h c) column) (key_at defines (card_at h c) column)

  -- kind 2 stands at a definition whose key has several, and nowhere else
  pub redefined_exactly : (broken h c column 2 ≡ true) ↔ ((holds_key defines (card_at h c) column ≡ true) × (2 ≤ defined))
  unfolding broken broken_on redefined
  redefined_exactly =
      let w = both (holds_key defines (card_at h c) column) (ltb 1 defined) in
      (λ e. ((w.0 e).0, ltb-true 1 defined (w.0 e).1), λ e. w.1 (e.0, lt-ltb 1 defined e.1))

  module _ (card-there : c < cards_in h) (first-column : 1 ≤ column) (last-column : column ≤ 80) where
    -- where a column defines a key, that place is one of those that do
    pub defines_own : holds_key defines (card_at h c) column ≡ true
        → Defines h (class_at defines (card_at h c) column) (key_at defines (card_at h c) column) (c + 1) column
    unfolding defines_key
    defines_own held =
        let e : c + 1 - 1 ≡ c = omega arith in
        record {
          first_card = omega arith;
          last_card = omega arith;
          first-column = first-column;
          last-column = last-column;
          defines_it = rw (e, held, eq-eqb (class_at defines (card_at h c) column) (class_at defines (card_at h c) column) refl)
              (equal_alike (key_at defines (card_at h c) column) (key_at defines (card_at h c) column) refl);
        }

    -- so its key has at least one definition
    pub defined_counted : holds_key defines (card_at h c) column ≡ true → 1 ≤ defined
    defined_counted held =
        at_least_one h (class_at defines (card_at h c) column) (key_at defines (card_at h c) column) (c + 1) column (defines_own held)

    -- kind 2 stands there exactly where another place defines the key too: at the first of two as at the second
    pub both_listed : holds_key defines (card_at h c) column ≡ true
        → (broken h c column 2 ≡ true)
        ↔ Elsewhere h (class_at defines (card_at h c) column) (key_at defines (card_at h c) column) (c + 1) column
    both_listed held =
        let s : List ℕ = card_at h c in
        let w = several_exactly h (class_at defines s column) (key_at defines s column) (c + 1) column (defines_own held) in
        (λ e. w.0 (redefined_exactly.0 e).1, λ x. redefined_exactly.1 (held, w.1 x))

    -- the place of a definition is told exactly where kind 2 does not stand there
    pub place_of_definition : holds_key defines (card_at h c) column ≡ true
        → (broken h c column 2 ≡ false)
        ↔ (place_of h (class_at defines (card_at h c) column) (key_at defines (card_at h c) column) ≡ (c + 1) ∷ column ∷ [])
    place_of_definition held = (there, λ e. once e)
      where
        s : List ℕ
        s = card_at h c

        there : broken h c column 2 ≡ false
            → place_of h (class_at defines s column) (key_at defines s column) ≡ (c + 1) ∷ column ∷ []
        there e = elim (dec_lt 1 defined) [
          | yes l ↦ absurd (true≢false (sym (redefined_exactly.1 (held, l)) ∙ e))
          | no l ↦
              let one : defined ≡ 1 = omega (arith, defined_counted held) in
              let r = (one_exactly h (class_at defines s column) (key_at defines s column)).0 one in
              let q = r.2.nowhere_else (c + 1) column (defines_own held) in
              place_named h (class_at defines s column) (key_at defines s column) r.0 r.1 r.2
              ∙ sym (ap₂ (λ i j. i ∷ j ∷ []) q.0 q.1)
        ]

        once : place_of h (class_at defines s column) (key_at defines s column) ≡ (c + 1) ∷ column ∷ [] → broken h c column 2 ≡ false
        once e =
            let o = place-only h (class_at defines s column) (key_at defines s column) (c + 1) column (omega arith) e in
            let one : defined ≡ 1 = (one_exactly h (class_at defines s column) (key_at defines s column)).1 (c + 1, column, o) in
            fails (broken h c column 2) (λ x. omega (arith, (redefined_exactly.0 x).1))

  -- kind 4 where a card states its own vessel: the digit of its code is another
  pub own_vessel_exactly : states_own (layout_of (card_at h c)) column ≡ true
      → (broken h c column 4 ≡ true) ↔ (whole_in column column (card_at h c) ≡ vessel_of (card_at h c) ∷ [] → ⊥)
  unfolding broken broken_on contradicted
  own_vessel_exactly states = rw states (
    λ e q. true≢false (sym e ∙ ap not (equal_alike (whole_in column column (card_at h c)) (vessel_of (card_at h c) ∷ []) q)),
    λ f. ap not (unequal_alike (whole_in column column (card_at h c)) (vessel_of (card_at h c) ∷ []) f),
  )

-- of a key with one definition: one definition on a card of another vessel, exactly where its card is one
module _ (h : List ℕ) (class : ℕ) (key : List ℕ) (vessel card column : ℕ) (o : Only h class key card column) where
  abbrev against : ℕ → Bool
  against p = defined_at h class key p && contradict vessel (vessel_of (card_of h p))

  here_against : (p : ℕ) → p < places h → against p ≡ true → contradict vessel (vessel_of (card_at h (card - 1))) ≡ true
  unfolding card_of
  here_against p l e =
      let w = (both (defined_at h class key p) (contradict vessel (vessel_of (card_at h (p / 80))))).0 e in
      let q = o.nowhere_else (p / 80 + 1) (column_of p) (of_number h class key p l w.0) in
      let r : card - 1 ≡ p / 80 = omega (arith, q.0) in
      rw r w.1

  against_here : contradict vessel (vessel_of (card_at h (card - 1))) ≡ true → against (number_of card column) ≡ true
  unfolding card_of
  against_here e =
      let n = to_number h class key card column o.here in
      let r : number_of card column / 80 ≡ card - 1 = omega (arith, o.here) in
      (both (defined_at h class key (number_of card column)) (contradict vessel (vessel_of (card_at h (number_of card column / 80))))
      ).1 (n.1, rw r e)

  same : definitions_of h class key ≡ 1 → (p q : ℕ) → p < places h → q < places h
      → defined_at h class key p ≡ true → defined_at h class key q ≡ true → p ≡ q
  unfolding definitions_of
  same one = count_one (defined_at h class key) (places h) one

  pub other-vessel-exactly :
      (contradictions_of h class key vessel ≡ 1) ↔ (contradict vessel (vessel_of (card_at h (card - 1))) ≡ true)
  unfolding contradictions_of
  other-vessel-exactly = (
    λ e. let l : first against (places h) < places h = first-there against (places h) (omega arith) in
        here_against (first against (places h)) l (first_passes against (places h) l),
    λ e. single e,
  )
    where
      single : contradict vessel (vessel_of (card_at h (card - 1))) ≡ true → count against (places h) ≡ 1
      single e =
          let n = to_number h class key card column o.here in
          let some : 1 ≤ count against (places h) =
          count-some against (places h) (number_of card column) n.0 (against_here e) in
          elim (dec_lt 1 (count against (places h))) [
            | yes l ↦
                let r = pair_there against (places h) l in
                let one : definitions_of h class key ≡ 1 = (one_exactly h class key).1 (card, column, o) in
                let a = (both (defined_at h class key r.one) _).0 r.one_passes in
                let b = (both (defined_at h class key r.other) _).0 r.other_passes in
                let l : r.one < places h = omega (arith, r.apart, r.below) in
                absurd (omega (arith, r.apart, same one r.one r.other l r.below a.0 b.0))
            | no l ↦ omega arith
          ]

module _ (h : List ℕ) (c column : ℕ) where
  abbrev class : ℕ
  class = class_at refers (card_at h c) column

  abbrev key : List ℕ
  key = key_at refers (card_at h c) column

  -- kind 4 elsewhere: a reference with one definition, on a card whose vessel digit is there and another
  pub contradicted_exactly : states_own (layout_of (card_at h c)) column ≡ false
      → (broken h c column 4 ≡ true)
      ↔ ((holds_key refers (card_at h c) column ≡ true)
      × ((card : ℕ) × (place : ℕ) × Only h class key card place
      × (contradict (vessel_of (card_at h c)) (vessel_of (card_at h (card - 1))) ≡ true)))
  unfolding broken broken_on contradicted definitions_at
  contradicted_exactly states =
      let one : Bool = eqb (definitions_of h class key) 1 in
      let other : Bool = eqb (contradictions_of h class key (vessel_of (card_at h c))) 1 in
      let w = both (holds_key refers (card_at h c) column) (one && other) in
      let v = both one other in
      rw states (
        λ e.
            let f = w.0 e in
            let g = v.0 f.1 in
            let o = (one_exactly h class key).0 (eqb-true (definitions_of h class key) 1 g.0) in (
              f.0,
              (
                o.0,
                o.1,
                o.2,
                (other-vessel-exactly h class key (vessel_of (card_at h c)) o.0 o.1 o.2).0
                    (eqb-true (contradictions_of h class key (vessel_of (card_at h c))) 1 g.1),
              ),
            ),
        λ e.
            let r = e.1 in
            w.1 (
              e.0,
              v.1 (
                eq-eqb (definitions_of h class key) 1 ((one_exactly h class key).1 (r.0, r.1, r.2)),
                eq-eqb (contradictions_of h class key (vessel_of (card_at h c))) 1
                    ((other-vessel-exactly h class key (vessel_of (card_at h c)) r.0 r.1 r.2).1 r.3),
              ),
            ),
      )
