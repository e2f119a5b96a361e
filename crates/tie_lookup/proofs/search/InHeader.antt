-- One card more.
use Prim.Native.Nat.{ℕ, ◌+◌, ◌*◌, ◌/◌, ◌%◌, ◌≤◌, ◌<◌}
use native.Mathlib.Omega.{arith}
use mathlib.Core.Path.{◌≡◌, refl, sym, ap, ◌∙◌}
use mathlib.Core.List.{List}
use Rattle.base_lists.specs.Count.{count}
use Rattle.base_lists.proofs.Counting.{count_same, count_run, count_le}
use Rattle.header_check.specs.forms.Cards.{card_at, cards_in}
use Rattle.tie_lookup.specs.declared.search.Found.{Found}
use Rattle.tie_lookup.specs.packed.Borne.{bears, bears_at, only_of, found_of, only_with, found_on, found_over}
use Rattle.tie_lookup.proofs.search.OnlyOne.{only_more, only_same}

module _ (h : List ℕ) (number : ℕ) where
  -- how many of the places on the first cards define the key, and the only one that does
  unfoldable pub times_to : ℕ → ℕ
  times_to c = count (bears_at h number) (80 * c)

  unfoldable pub only_to : ℕ → ℕ
  only_to c = only_of (bears_at h number) (80 * c)

  pub no_cards : (0 ≡ times_to 0) × (0 ≡ only_to 0)
  unfolding times_to only_to only_of count
  no_cards = (refl, refl)

  pub times_few : (c : ℕ) → times_to c ≤ 80 * c
  unfolding times_to
  times_few c = count_le (bears_at h number) (80 * c)

  -- the places of a card
  on_card_lem : (c j : ℕ) → j < 80 → bears_at h number (80 * c + j) ≡ bears (card_at h c) number (j + 1)
  unfolding bears_at
  on_card_lem c j l =
      let a : (80 * c + j) / 80 ≡ c = omega arith in
      let b : (80 * c + j) % 80 ≡ j = omega arith in
      rw (a, b)

  module _ (c : ℕ) (s : List ℕ) (is : s ≡ card_at h c) (here : Found) (on : here ≡ found_on s number) where
    there : here ≡ found_on (card_at h c) number
    there = on ∙ ap (λ x. found_on x number) is

    many : here.number ≡ count (λ j. bears_at h number (80 * c + j)) 80
    unfolding found_on found_of
    many = ap number_of there ∙ sym (count_same _ (λ i. bears (card_at h c) number (i + 1)) 80 (on_card_lem c))
      where
        number_of : Found → ℕ
        number_of f = f.number

    one : here.only ≡ only_of (λ j. bears_at h number (80 * c + j)) 80
    unfolding found_on found_of
    one = ap only_of_lem there ∙ sym (only_same _ (λ i. bears (card_at h c) number (i + 1)) 80 (on_card_lem c))
      where
        only_of_lem : Found → ℕ
        only_of_lem f = f.only

    pub times_more : (found : ℕ) → found ≡ times_to c → found + here.number ≡ times_to (c + 1)
    unfolding times_to
    times_more found f = omega (arith, count_run (bears_at h number) 80 c, f, many)

    pub only_next : (found only from r : ℕ) → found ≡ times_to c → only ≡ only_to c → from ≡ c * 80
        → r ≡ only_with found only here.number (from + here.only) → r ≡ only_to (c + 1)
    unfolding times_to only_to
    only_next found only from r f o b e =
        let p = bears_at h number in
        let size : 80 * (c + 1) ≡ 80 * c + 80 = omega arith in
        let start : from ≡ 80 * c = omega arith in
        e ∙ rw (f, o, start, many, one) (sym (only_more p (80 * c) 80)) ∙ sym (ap (only_of p) size)

  -- all cards
  pub all_found : (c found only : ℕ) → c ≡ cards_in h → found ≡ times_to c → only ≡ only_to c
      → (record { number = found; only = only } ≡ found_over h number)
  unfolding times_to only_to found_over found_of
  all_found c found only e f o = rw (f, o, e)
