-- The header of the paper's worked example, card by card.
use Prim.Native.Nat.{ℕ, ◌+◌, ◌-◌}
use Prim.Native.String.{String}
use mathlib.Core.List.{List, [], ◌∷◌, ◌++◌}
use lib.ListN.{length, take, drop, replicate}
use Rattle.format_layout.specs.Shape.{bytes}

-- a text that begins in a column
pub record Piece : Type 0 where
  pub column : ℕ
  pub text : String

abbrev pub at : ℕ → String → Piece
at column text = record { column = column; text = text }

-- a card with texts in some columns
abbrev pub write : List Piece → List ℕ → List ℕ
write [] s = s
write (p ∷ ps) s = write ps (take (p.column - 1) s ++ bytes p.text ++ drop (p.column - 1 + length (bytes p.text)) s)

-- a code, a label and further texts, the other columns blank
abbrev pub card : String → String → List Piece → List ℕ
card code label ps = write (at 1 code ∷ at 6 label ∷ ps) (replicate 80 32)

-- cards 9 to 13
abbrev pub line_card : List ℕ
line_card = card "H0018" "Line Parameters Vessel:" (at 30 "1" ∷ at 32 "1" ∷ [])

abbrev pub streamer_card : List ℕ
streamer_card = card "H2110" "" (at 7 "  1" ∷ [])

abbrev pub node_card : List ℕ
node_card = card "H2210" "" (at 7 "  1" ∷ at 11 " 214" ∷ at 16 "A17" ∷ at 36 " 214" ∷ at 41 "A18" ∷ [])

abbrev pub other_node_card : List ℕ
other_node_card = card "H2220" "" (at 7 "  1" ∷ at 11 " 215" ∷ [])

abbrev pub compass_card : List ℕ
compass_card = card "H2310" "" (at 7 "A19" ∷ [])

-- cards one after the other
abbrev pub joined : List (List ℕ) → List ℕ
joined [] = []
joined (s ∷ ss) = s ++ joined ss

-- H0000 to H0007, with nothing but their labels
abbrev pub opening_cards : List (List ℕ)
opening_cards =
    card "H0000" "Line Name:" [] ∷
    card "H0001" "Project Name:" [] ∷
    card "H0002" "Project Description:" [] ∷
    card "H0003" "Media Specification:" [] ∷
    card "H0004" "Client:" [] ∷
    card "H0005" "Geophysical Contractor:" [] ∷
    card "H0006" "Positioning Contractor:" [] ∷
    card "H0007" "Processing Contractor:" [] ∷
    []

abbrev pub example_cards : List (List ℕ)
example_cards = opening_cards ++ (line_card ∷ streamer_card ∷ node_card ∷ other_node_card ∷ compass_card ∷ [])

unfoldable pub example : List ℕ
example = joined example_cards
