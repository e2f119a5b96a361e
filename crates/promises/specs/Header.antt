-- The rows of a header's refusals, in the paper's order: number, card, column, and when.
use Rattle.std.specs.Prelude.{ℕ, zero, suc, ◌+◌, ◌%◌, not, List, [], ◌∷◌, ◌++◌, map, eqb, ltb, length, take, Option, None, Some, Result, Ok, Err, ⊤}
use Rattle.base_refusal.specs.declared.Refusal.{Refusal}
use Rattle.base_refusal.specs.Refusals.{refusal}
use Rattle.value_text.specs.text.Texts.{printable}
use Rattle.value_text.specs.printable.Bytes.{first_bad}
use Rattle.format_code.specs.Codes.{code_of}
use Rattle.card_laws.specs.exactly.Rows.{Row, row}
use Rattle.card_laws.specs.exactly.Words.{is_unknown}
use Rattle.card_laws.specs.exactly.Tables.{columns_from}
use Rattle.header_check.specs.forms.Cards.{card_at, cards_in}
use Rattle.header_check.specs.forms.Forms.{form_of}
use Rattle.header_check.specs.Opening.{has_line, stands_at}
use Rattle.header_check.specs.Refusing.{largest}

-- rows of a single card, told of the card with a number
abbrev pub on_card : ℕ → Row → Row
on_card card r = record { test = r.test; gives = refusal r.gives.number card r.gives.column }

-- a card at a place, from 0: its bytes, its code, its place, and then its columns from left to right, 7 to 11
unfoldable pub card_rows : List ℕ → ℕ → List Row
card_rows h c =
    row 4 (c + 1) (first_bad (card_at h c) + 1) (not (printable (card_at h c))) ∷
    row 5 (c + 1) 1 (is_unknown (code_of (take 5 (card_at h c)))) ∷
    row 6 (c + 1) 1 (not (stands_at h c)) ∷
    map (on_card (c + 1)) (columns_from (form_of h (card_at h c)) (card_at h c) 75 6)

-- so many cards from one on, and what lies past the last: the opening block may have no H00@8
unfoldable pub rows_from : List ℕ → ℕ → ℕ → List Row
rows_from h zero c = row 6 (c + 1) 1 (not (has_line h)) ∷ []
rows_from h (suc n) c = card_rows h c ++ rows_from h n (suc c)

-- the length, and then card by card
unfoldable pub header_rows : List ℕ → List Row
header_rows h =
    row 1 0 0 (eqb (length h) 0) ∷
    row 2 0 0 (not (eqb (length h % 80) 0)) ∷
    row 3 0 0 (ltb largest (cards_in h)) ∷
    rows_from h (cards_in h) 0

-- the refusal in the answer
abbrev pub in_check : Result ⊤ Refusal → Option Refusal
in_check (Ok _) = None
in_check (Err r) = Some r
