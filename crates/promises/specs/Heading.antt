-- The rows of a heading's refusals: the header's own, and then four without card and column.
use Rattle.std.specs.Prelude.{ℕ, not, ◌||◌, List, [], ◌∷◌, ◌++◌, eqb, ℤ}
use Rattle.base_value.specs.declared.Decimal.{Decimal}
use Rattle.value_text.specs.text.Texts.{text_of}
use Rattle.card_laws.specs.exactly.Rows.{Row, row}
use Rattle.tie_rules.specs.Offered.{text_class}
use Rattle.tie_rules.specs.Definitions.{definitions_of}
use Rattle.survey_compass.specs.Serials.{cards_for, card_for}
use Rattle.survey_compass.specs.Directions.{listed_twice}
use Rattle.survey_compass.specs.Headings.{off_circle, bad_reading}
use Rattle.promises.specs.Header.{header_rows}

-- by the card with the corrections: the direction asked and those listed, and then the raw reading
abbrev pub on_card_rows : List ℕ → Decimal → ℤ → List Row
on_card_rows s raw direction = row 25 0 0 (off_circle direction || listed_twice s) ∷ row 26 0 0 (bad_reading raw) ∷ []

-- by the cards for the serial, without the blanks behind it
abbrev pub for_rows : List ℕ → List ℕ → Decimal → ℤ → List Row
for_rows h serial raw direction = row 24 0 0 (not (eqb (cards_for h serial) 1)) ∷ on_card_rows (card_for h serial) raw direction

-- the header, the definitions of the serial, and then those
abbrev pub heading_rows : List ℕ → List ℕ → Decimal → ℤ → List Row
heading_rows h serial raw direction =
    header_rows h ++
    (row 23 0 0 (not (eqb (definitions_of h text_class (text_of serial)) 1)) ∷ for_rows h (text_of serial) raw direction)
