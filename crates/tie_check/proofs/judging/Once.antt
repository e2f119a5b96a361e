-- No key on a card without a flag is defined twice.
use Prim.Native.Nat.{ℕ, zero, suc, ◌+◌, ◌*◌, ◌/◌, ◌%◌, ◌≤◌, ◌<◌}
use native.Mathlib.Decide.{ℕ_discrete, dec_lt}
use native.Mathlib.Omega.{arith}
use mathlib.Core.Path.{◌≡◌, refl, sym, ap, ◌∙◌, subst}
use mathlib.Core.Bool.{Bool, true, false, true≢false, ◌&&◌}
use mathlib.Core.List.{List}
use lib.Dec.{eqb}
use lib.ListN.{get_or}
use borrow.Author.Tests.{eq-eqb, ne_eqb, eqb-true}
use Rattle.base_digits.proofs.digits.Bools.{and_left, and_right, and_both}
use Rattle.base_lists.specs.Count.{count, first}
use Rattle.base_lists.proofs.Counting.{count-some, count_none}
use Rattle.base_lists.proofs.Finding.{first_below, first_passes}
use Rattle.header_check.specs.forms.Cards.{card_at, cards_in, layout_of}
use Rattle.header_check.specs.Refusing.{largest}
use Rattle.header_check.specs.packed.Noted.{is_flagged, Noted}
use Rattle.tie_rules.proofs.columns.Tied.{none_at_zero}
use Rattle.tie_store.specs.Store.{count_in, tag_at, holds}
use Rattle.tie_check.specs.packed.Numbers.{tag_for, card_told, number_on, number_at, passing}
use Rattle.tie_check.specs.packed.Gathered.{gathered, entries_passing}
use Rattle.tie_check.specs.packed.Shared.{flagged_to, flagged_all}
use Rattle.tie_check.specs.packed.Asked.{is_on, times_of, Flagged}
use Rattle.tie_check.proofs.gather.Tags.{card_told_lem}
use Rattle.tie_check.proofs.gather.Growing.{idle_number, all_pass}
use Rattle.tie_check.proofs.flagging.Kept.{noted-to, shared_flagged}
use Rattle.tie_check.proofs.judging.Answered.{no_times, some_times}

module _ (h notes : List ℕ) (few : cards_in h ≤ largest) (noted : Noted h (cards_in h) notes) where
  abbrev keys : List ℕ
  keys = (gathered h).keys

  abbrev links : List ℕ
  links = (gathered h).links

  abbrev cards : List ℕ
  cards = flagged_to notes keys links (count_in links)

  module _ (c : ℕ) (below : c < cards_in h) (column : ℕ) (on_card_lem : suc column ≤ 80) where
    abbrev k : ℕ
    k = number_on (card_at h c) (suc column)

    -- the definition is at a place of the header
    place_passes : is_on k c (number_at h (80 * c + column)) (tag_for (card_at h ((80 * c + column) / 80)) ((80 * c + column) / 80)) ≡ true
    unfolding number_at
    place_passes =
        let a : (80 * c + column) / 80 ≡ c = omega (arith, on_card_lem) in
        let b : (80 * c + column) % 80 + 1 ≡ suc column = omega (arith, on_card_lem) in
        rw (a, b) (and_both (eqb k k) (eqb (card_told (tag_for (card_at h c) c)) c) (eq-eqb k k refl) (eq-eqb _ c (card_told_lem (card_at h c) c)))

    module _ (some : (k ≡ 0 → ⊥)) where
      -- so it is an entry
      abbrev hit : ℕ → Bool
      hit i = is_on k c (get_or keys i 0) (tag_at links i)

      counted : 1 ≤ count hit (count_in links)
      unfolding entries_passing passing
      counted =
          let e = all_pass h few (is_on k c) (λ tag. ap (λ b. b && eqb (card_told tag) c) (ne_eqb 0 k (λ q. some (sym q)))) in
          let p = count-some (λ p. is_on k c (number_at h p) (tag_for (card_at h (p / 80)) (p / 80))) (80 * cards_in h) (80 * c + column)
          (omega (arith, below, on_card_lem)) place_passes in
          omega (arith, e, p)

      abbrev i : ℕ
      i = first hit (count_in links)

      inside : i < count_in links
      inside = elim (dec_lt i (count_in links)) [
        | yes l ↦ l
        | no l ↦ absurd (omega (arith, counted, count_none hit (count_in links) (λ j m. first_below hit (count_in links) j (omega (arith, l, m)))))
      ]

      entry_passes : hit i ≡ true
      entry_passes = first_passes hit (count_in links) inside

      -- whose card is flagged where another has its key
      several_flagged : 1 < count (holds keys k) (count_in links) → is_flagged (get_or cards c 0) ≡ true
      several_flagged l =
          let q : get_or keys i 0 ≡ k = eqb-true _ _ (and_left (eqb (get_or keys i 0) k) _ entry_passes) in
          let r : card_told (tag_at links i) ≡ c = eqb-true _ _ (and_right (eqb (get_or keys i 0) k) _ entry_passes) in
          ap (λ j. is_flagged (get_or cards j 0)) (sym r)
          ∙ shared_flagged keys links notes (count_in links) i inside (
            subst (λ (x : ℕ). 1 < count (holds keys x) (count_in links)) (sym q) l,
            omega (arith, r, below, few, noted.room),
          )

    once-there : is_flagged (get_or cards c 0) ≡ false → times_of h k ≤ 1
    once-there f = elim (ℕ_discrete k 0) [
      | yes e ↦ omega (arith, no_times h few k e)
      | no e ↦ elim (dec_lt 1 (count (holds keys k) (count_in links))) [
        | yes l ↦ absurd (true≢false (sym (several_flagged e l) ∙ f))
        | no l ↦ omega (arith, l, some_times h few k e)
      ]
    ]

  no_column : (c : ℕ) → times_of h (number_on (card_at h c) 0) ≤ 1
  no_column c = omega (arith, no_times h few _ (idle_number (card_at h c) 0 (none_at_zero (layout_of (card_at h c)))))

  once : (c : ℕ) → c < cards_in h → is_flagged (get_or cards c 0) ≡ false → (column : ℕ) → column ≤ 80 → times_of h (number_on (card_at h c) column) ≤ 1
  once c l f zero m = no_column c
  once c l f (suc column) m = once-there c l column m f

  pub all-flagged : Flagged h (flagged_all notes (gathered h))
  unfolding flagged_all
  all-flagged = record { noted = noted-to keys links notes h (cards_in h) noted (count_in links); once = once }
