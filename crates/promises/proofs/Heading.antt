-- A heading's refusal is the first that its rows give.
use Prim.Native.Nat.{ℕ, ◌%◌}
use native.Mathlib.Decide.{ℕ_discrete}
use mathlib.Core.Path.{◌≡◌, refl, sym, ap, ◌∙◌}
use mathlib.Core.Bool.{Bool, true, false, cond, not, ◌||◌}
use mathlib.Core.Logic.{◌↔◌}
use mathlib.Core.List.{List, ◌∷◌}
use lib.Dec.{eqb}
use lib.IntN.{ℤ, nat_abs}
use borrow.Author.Tests.{ne_eqb}
use Rattle.base_refusal.specs.declared.Refusal.{Refusal}
use Rattle.base_refusal.specs.Refusals.{refusal}
use Rattle.base_value.specs.declared.Decimal.{Decimal}
use Rattle.value_text.specs.text.Texts.{text_of}
use Rattle.value_field.proofs.spelling.Absence.{zero_one}
use Rattle.card_laws.specs.exactly.Rows.{Row, row, given, Exactly}
use Rattle.card_laws.proofs.exactly.Given.{or_else, given-append, exactly}
use Rattle.header_check.specs.Refusing.{refusal_of}
use Rattle.tie_rules.specs.Offered.{text_class, text_offered}
use Rattle.tie_rules.specs.Definitions.{definitions_of, place_of}
use Rattle.tie_lookup.specs.declared.questions.Defined.TheVariants as defined
use Rattle.tie_lookup.specs.questions.Questions.{is_class, key_offered, defined_by, answer_by, key_answer}
use Rattle.survey_compass.specs.Serials.{cards_for, card_for}
use Rattle.survey_compass.specs.Directions.{listed_twice}
use Rattle.survey_compass.specs.Corrections.{summed_on, turned}
use Rattle.survey_compass.specs.Headings.{off_circle, bad_reading, heading_on, heading_for, heading_by, heading_of}
use Rattle.promises.specs.Header.{header_rows, in_check}
use Rattle.promises.specs.Heading.{on_card_rows, for_rows, heading_rows}
use Rattle.promises.proofs.Header.{header-given}
use Rattle.std.specs.Prelude.{Result, Ok, Err, ⊤, Option, None, Some}

-- the refusal in the answer
abbrev in_heading : Result Decimal Refusal → Option Refusal
in_heading (Ok d) = None
in_heading (Err r) = Some r

refused_as : (a : Result Decimal Refusal) (r : Refusal) → (a ≡ Err r) ↔ (in_heading a ≡ Some r)
refused_as (Ok d) r = (λ e. absurd (zero_one cc), λ e. absurd (zero_one cc))
refused_as (Err q) r = (λ e. ap in_heading e, λ e. let x : q ≡ r = cc in ap Err x)

told_as : (a : Result Decimal Refusal) → ((d : Decimal) × (a ≡ Ok d)) ↔ (in_heading a ≡ None)
told_as (Ok d) = (λ e. refl, λ e. (d, refl))
told_as (Err q) = (λ e. let x = e.1 in absurd (zero_one cc), λ e. absurd (zero_one cc))

-- by the card, and by the cards for a serial
card_given : (s : List ℕ) (raw : Decimal) (direction : ℤ) → in_heading (heading_on s raw direction) ≡ given (on_card_rows s raw direction)
unfolding heading_on given
card_given s raw direction = go (off_circle direction || listed_twice s) (bad_reading raw)
  where
    go : (a b : Bool)
        → in_heading (cond a (Err (refusal 25 0 0)) (cond b (Err (refusal 26 0 0)) (Ok (turned (summed_on s raw (nat_abs direction % 360))))))
        ≡ cond a (Some (refusal 25 0 0)) (cond b (Some (refusal 26 0 0)) None)
    go true b = refl
    go false true = refl
    go false false = refl

for_given : (h serial : List ℕ) (raw : Decimal) (direction : ℤ) → in_heading (heading_for h serial raw direction) ≡ given (for_rows h serial raw direction)
unfolding heading_for given
for_given h serial raw direction = go (eqb (cards_for h serial) 1) (card_given (card_for h serial) raw direction)
  where
    go : (a : Bool) → in_heading (heading_on (card_for h serial) raw direction) ≡ given (on_card_rows (card_for h serial) raw direction)
        → in_heading (cond a (heading_on (card_for h serial) raw direction) (Err (refusal 24 0 0)))
        ≡ cond (not a) (Some (refusal 24 0 0)) (given (on_card_rows (card_for h serial) raw direction))
    go true e = e
    go false e = refl

-- by the header and the definitions of the serial
by_check : (c : Result ⊤ Refusal) (n : ℕ) (at : List ℕ) (y : Result Decimal Refusal) (rows : List Row) → in_heading y ≡ given rows
    → in_heading (heading_by (answer_by c text_class (defined_by n at)) y) ≡ or_else (in_check c) (given (row 23 0 0 (not (eqb n 1)) ∷ rows))
unfolding heading_by answer_by is_class defined_by given
by_check (Err r) n at y rows e = refl
by_check (Ok _) n at y rows e = elim (ℕ_discrete n 1) [
  | yes q ↦ rw q e
  | no h ↦ rw (ne_eqb n 1 h) (go (eqb n 0))
]
  where
    go : (b : Bool)
        → in_heading (heading_by (cond b (Ok defined.None) (Ok (defined.Several n))) y) ≡ Some (refusal 23 0 0)
    go true = refl
    go false = refl

pub heading_exactly : (h serial : List ℕ) (raw : Decimal) (direction : ℤ)
    → Exactly (heading_rows h serial raw direction)
    (λ r. heading_of h serial raw direction ≡ Err r)
    ((d : Decimal) × (heading_of h serial raw direction ≡ Ok d))
unfolding heading_of key_answer key_offered text_offered
heading_exactly h serial raw direction =
    let own = row 23 0 0 (not (eqb (definitions_of h text_class (text_of serial)) 1)) ∷ for_rows h (text_of serial) raw direction in
    exactly (heading_rows h serial raw direction) (in_heading (heading_of h serial raw direction))
    (by_check (refusal_of h) (definitions_of h text_class (text_of serial)) (place_of h text_class (text_of serial))
    (heading_for h (text_of serial) raw direction) (for_rows h (text_of serial) raw direction) (for_given h (text_of serial) raw direction)
    ∙ ap (λ a. or_else a (given own)) (sym (header-given h))
    ∙ sym (given-append (header_rows h) own))
    (refused_as (heading_of h serial raw direction)) (told_as (heading_of h serial raw direction))
