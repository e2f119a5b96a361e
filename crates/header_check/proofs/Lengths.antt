-- The lengths that refuse a header, in their order, and leave an array of notes as it was.
use Prim.Native.Nat.{ℕ, ◌%◌, ◌≤◌, ◌<◌}
use native.Mathlib.Decide.{ℕ_discrete, dec_lt}
use native.Mathlib.Omega.{arith}
use mathlib.Core.Path.{◌≡◌, refl, sym, ◌∙◌}
use mathlib.Core.List.{List}
use lib.ListN.{length}
use borrow.Author.Tests.{eq-eqb, ne_eqb, lt-ltb, le-ltb}
use Rattle.base_refusal.specs.declared.Refusal.{Refusal}
use Rattle.base_refusal.specs.Refusals.{refusal, no_refusal}
use Rattle.header_check.specs.forms.Cards.{cards_in}
use Rattle.header_check.specs.Refusing.{largest, cards_answer, refusal_of}
use Rattle.header_check.specs.packed.Noted.{noted_to, noted_for, Noted}
use Rattle.header_check.proofs.forms.Layouts.{all_noted}
use Rattle.std.specs.Prelude.{Err, Result, ⊤}

-- a refusal accepts nothing
not-accepted : (r : Refusal) → ◌≡◌ {A = Result ⊤ Refusal} (Err r) no_refusal → ⊥
not-accepted r e = let z : ◌≡◌ {A = ℕ} 0 1 = cc in omega arith

module _ (h : List ℕ) where
  pub no_bytes : length h ≡ 0 → (refusal_of h ≡ Err (refusal 1 0 0)) × ((old : List ℕ) → noted_for h old ≡ old)
  unfolding refusal_of noted_for
  no_bytes e = rw (eq-eqb (length h) 0 e) (refl, λ old. refl)

  module _ (some : length h ≡ 0 → ⊥) where
    pub odd_bytes : (length h % 80 ≡ 0 → ⊥) → (refusal_of h ≡ Err (refusal 2 0 0)) × ((old : List ℕ) → noted_for h old ≡ old)
    unfolding refusal_of noted_for
    odd_bytes l = rw (ne_eqb (length h) 0 some, ne_eqb (length h % 80) 0 l) (refl, λ old. refl)

    module _ (whole : length h % 80 ≡ 0) where
      pub too_many_lem : largest < cards_in h → (refusal_of h ≡ Err (refusal 3 0 0)) × ((old : List ℕ) → noted_for h old ≡ old)
      unfolding refusal_of noted_for
      too_many_lem l = rw (ne_eqb (length h) 0 some, eq-eqb (length h % 80) 0 whole, lt-ltb largest (cards_in h) l) (refl, λ old. refl)

      pub by_cards : cards_in h ≤ largest → (refusal_of h ≡ cards_answer h) × ((old : List ℕ) → noted_for h old ≡ noted_to h old (cards_in h))
      unfolding refusal_of noted_for
      by_cards l = rw (ne_eqb (length h) 0 some, eq-eqb (length h % 80) 0 whole, le-ltb largest (cards_in h) l) (refl, λ old. refl)

  -- so an accepted header's cards are all noted
  module _ (accepted : refusal_of h ≡ no_refusal) where
    not-refused : (r : Refusal) → refusal_of h ≡ Err r → ⊥
    not-refused r e = not-accepted r (sym e ∙ accepted)

    pub accepted-noted : (old cards : List ℕ) → length old ≡ largest → cards ≡ noted_for h old → Noted h (cards_in h) cards
    accepted-noted old cards room e = elim (ℕ_discrete (length h) 0) [
      | yes z ↦ absurd (not-refused _ (no_bytes z).0)
      | no z ↦ elim (ℕ_discrete (length h % 80) 0) [
        | no w ↦ absurd (not-refused _ (odd_bytes z w).0)
        | yes w ↦ elim (dec_lt largest (cards_in h)) [
          | yes l ↦ absurd (not-refused _ (too_many_lem z w l).0)
          | no l ↦ all_noted h old room cards (cards_in h) (e ∙ (by_cards z w (omega arith)).1 old) (omega arith)
        ]
      ]
    ]
