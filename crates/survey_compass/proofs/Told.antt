-- The answer, step by step as it is found.
use Prim.Native.Nat.{ℕ, ◌+◌, ◌*◌, ◌/◌, ◌%◌, ◌≤◌, ◌<◌}
use native.Mathlib.Omega.{arith}
use mathlib.Core.Path.{◌≡◌, sym, ap, ◌∙◌}
use mathlib.Core.Bool.{true, false}
use mathlib.Core.List.{List}
use lib.IntN.{ℤ, nat_abs}
use lib.ListN.{length}
use borrow.Author.Tests.{eq-eqb, ne_eqb}
use Rattle.base_refusal.specs.declared.Refusal.{Refusal}
use Rattle.base_refusal.specs.Refusals.{refusal}
use Rattle.base_value.specs.declared.Decimal.{Decimal}
use Rattle.value_text.specs.text.Texts.{text_of}
use Rattle.header_check.specs.forms.Cards.{card_at, cards_in}
use Rattle.header_check.proofs.forms.Steps.{card_ends}
use Rattle.tie_laws.proofs.Places.{first-there}
use Rattle.tie_lookup.specs.declared.questions.Key.TheVariants as key
use Rattle.tie_lookup.specs.declared.questions.Defined.{Defined}
use Rattle.tie_lookup.specs.declared.questions.Defined.TheVariants as defined
use Rattle.tie_lookup.specs.questions.Questions.{key_answer}
use Rattle.survey_compass.specs.Serials.{is_for_at, cards_for, place_for, card_for}
use Rattle.survey_compass.specs.Directions.{listed_twice}
use Rattle.survey_compass.specs.Corrections.{summed_on, turned}
use Rattle.survey_compass.specs.Headings.{off_circle, bad_reading, heading_on, heading_for, heading_by, heading_of}
use Rattle.std.specs.Prelude.{Result, Ok, Err}

-- by the card
module _ (s : List ℕ) (raw : Decimal) (direction : ℤ) where
  pub off_refused : off_circle direction ≡ true → (r : Result Decimal Refusal) → r ≡ Err (refusal 25 0 0) → r ≡ heading_on s raw direction
  unfolding heading_on
  off_refused e r q = rw e q

  module _ (off : off_circle direction ≡ false) where
    pub twice_refused : listed_twice s ≡ true → (r : Result Decimal Refusal) → r ≡ Err (refusal 25 0 0) → r ≡ heading_on s raw direction
    unfolding heading_on
    twice_refused e r q = rw (off, e) q

    module _ (once : listed_twice s ≡ false) where
      pub reading_refused : bad_reading raw ≡ true → (r : Result Decimal Refusal) → r ≡ Err (refusal 26 0 0) → r ≡ heading_on s raw direction
      unfolding heading_on
      reading_refused e r q = rw (off, once, e) q

      pub heading_told : bad_reading raw ≡ false → (n : ℕ) → n ≡ nat_abs direction → (d : Decimal) → d ≡ turned (summed_on s raw (n % 360))
          → Ok d ≡ heading_on s raw direction
      unfolding heading_on
      heading_told e n m d q = rw (off, once, e, ← m) (ap Ok q)

-- by the cards for a serial
module _ (h serial : List ℕ) (raw : Decimal) (direction : ℤ) where
  pub cards-refused : (n : ℕ) → n ≡ cards_for h serial → (n ≡ 1 → ⊥) → (r : Result Decimal Refusal) → r ≡ Err (refusal 24 0 0) → r ≡ heading_for h serial raw direction
  unfolding heading_for
  cards-refused n e other r q = rw (← e, ne_eqb n 1 other) q

  pub card_told_lem : (y : ℤ) → y ≡ direction → (n : ℕ) → n ≡ cards_for h serial → n ≡ 1 → (p : ℕ) → p ≡ place_for h serial
      → (s : List ℕ) → s ≡ card_at h p → (r : Result Decimal Refusal) → r ≡ heading_on s raw y → r ≡ heading_for h serial raw direction
  unfolding heading_for card_for
  card_told_lem y same n e one p at s is r q = rw (← e, eq-eqb n 1 one, ← at, ← is, ← same) q

pub place_low : (h serial : List ℕ) (n : ℕ) → n ≡ cards_for h serial → n ≡ 1 → (p : ℕ) → p ≡ place_for h serial → p < length h / 80
unfolding cards_for place_for cards_in
place_low h serial n e one p at =
    let l = first-there (is_for_at h serial) (length h / 80) (omega (arith, e, one)) in
    omega (arith, at, l)

pub card_inside : (h serial : List ℕ) (n : ℕ) → n ≡ cards_for h serial → n ≡ 1 → (p : ℕ) → p ≡ place_for h serial → p * 80 + 80 ≤ length h
card_inside h serial n e one p at = card_ends h p (place_low h serial n e one p at)

-- by what the header says of the serial
module _ (h serial : List ℕ) (raw : Decimal) (direction : ℤ) where
  told : (x : Result Defined Refusal) → x ≡ key_answer h 4 key.Text serial → (w : Result Defined Refusal) → x ≡ w → heading_by w (heading_for h (text_of serial) raw direction) ≡ heading_of h serial raw direction
  unfolding heading_of
  told x e w q = ap (λ d. heading_by d (heading_for h (text_of serial) raw direction)) (sym q ∙ e)

  module _ (x : Result Defined Refusal) (asked : x ≡ key_answer h 4 key.Text serial) where
    pub key_refused : (r : Refusal) → x ≡ Err r → Err r ≡ heading_of h serial raw direction
    unfolding heading_by
    key_refused r e = told x asked (Err r) e

    pub key_none : x ≡ (Ok defined.None) → (r : Result Decimal Refusal) → r ≡ Err (refusal 23 0 0) → r ≡ heading_of h serial raw direction
    unfolding heading_by
    key_none e r q = q ∙ told x asked (Ok defined.None) e

    pub key_several : (n : ℕ) → x ≡ Ok (defined.Several n) → (r : Result Decimal Refusal) → r ≡ Err (refusal 23 0 0) → r ≡ heading_of h serial raw direction
    unfolding heading_by
    key_several n e r q = q ∙ told x asked (Ok (defined.Several n)) e

  pub key_once : (y : ℤ) → y ≡ direction → (x : Result Defined Refusal) → x ≡ key_answer h 4 key.Text serial → (card column : ℕ) → x ≡ Ok (defined.Only card column)
      → (t : List ℕ) → t ≡ text_of serial → (r : Result Decimal Refusal) → r ≡ heading_for h t raw y → r ≡ heading_of h serial raw direction
  unfolding heading_by
  key_once y same x asked card column e t is r q =
      q ∙ ap (λ u. heading_for h u raw y) is ∙ ap (heading_for h (text_of serial) raw) same ∙ told x asked (Ok (defined.Only card column)) e
