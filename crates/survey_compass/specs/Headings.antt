-- The corrected heading: the header's refusal, then 23, 24, 25, 26, and then the sum.
use Rattle.std.specs.Prelude.{ℕ, ◌%◌, List, Bool, cond, ◌||◌, eqb, leb, ltb, ℤ, nat_abs, Result, Ok, Err}
use Rattle.base_digits.specs.signs.Signs.{is_minus}
use Rattle.base_refusal.specs.Refusals.{refusal}
use Rattle.base_value.specs.declared.Decimal.{Decimal}
use Rattle.value_text.specs.text.Texts.{text_of}
use Rattle.tie_rules.specs.Offered.{text_class}
use Rattle.tie_lookup.specs.declared.questions.Key.TheVariants as key
use Rattle.tie_lookup.specs.declared.questions.Defined.{Defined}
use Rattle.tie_lookup.specs.declared.questions.Defined.TheVariants as defined
use Rattle.tie_lookup.specs.questions.Questions.{key_answer}
use Rattle.survey_compass.specs.Serials.{cards_for, card_for}
use Rattle.survey_compass.specs.Directions.{listed_twice}
use Rattle.survey_compass.specs.Corrections.{turn, summed_on, turned}
use Rattle.base_refusal.specs.declared.Refusal.{Refusal}

-- the most places of a raw reading
abbrev pub most_places : ℕ
most_places = 11

-- a line direction outside 0 to 360
unfoldable pub off_circle : ℤ → Bool
off_circle z = is_minus z || ltb 360 (nat_abs z)

-- a raw reading below 0 or not below 360, or with too many places
unfoldable pub bad_reading : Decimal → Bool
bad_reading raw = is_minus raw.units || (ltb most_places raw.places || leb (turn raw.places) (nat_abs raw.units))

-- by the card with the corrections: 25, 26, and then the heading
unfoldable pub heading_on : List ℕ → Decimal → ℤ → Result Decimal Refusal
heading_on s raw direction =
    cond (off_circle direction || listed_twice s) (Err (refusal 25 0 0))
    (cond (bad_reading raw) (Err (refusal 26 0 0)) (Ok (turned (summed_on s raw (nat_abs direction % 360)))))

-- by the cards for a serial: 24 where there is not exactly one
unfoldable pub heading_for : List ℕ → List ℕ → Decimal → ℤ → Result Decimal Refusal
heading_for h serial raw direction =
    cond (eqb (cards_for h serial) 1) (heading_on (card_for h serial) raw direction) (Err (refusal 24 0 0))

-- by what the header says of the serial: its own refusal, 23 where it is not defined exactly once
unfoldable pub heading_by : Result Defined Refusal → Result Decimal Refusal → Result Decimal Refusal
heading_by (Err r) heading = Err r
heading_by (Ok defined.None) heading = Err (refusal 23 0 0)
heading_by (Ok (defined.Several n)) heading = Err (refusal 23 0 0)
heading_by (Ok (defined.Only card column)) heading = heading

-- the heading of the compass with a serial, by its raw reading and the direction of the line
unfoldable pub heading_of : List ℕ → List ℕ → Decimal → ℤ → Result Decimal Refusal
heading_of h serial raw direction = heading_by (key_answer h text_class key.Text serial) (heading_for h (text_of serial) raw direction)
