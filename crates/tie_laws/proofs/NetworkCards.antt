-- The worked example of a network, card by card: two vessels, a platform, a relay buoy, nodes on a streamer, a transducer, and
-- observations between them.
use Prim.Native.Nat.{ℕ}
use Prim.Native.String.{String}
use mathlib.Core.List.{List, [], ◌∷◌, ◌++◌}
use Rattle.tie_laws.proofs.ExampleCards.{Piece, at, card, joined, opening_cards}

-- the lines of two vessels, cards 9 and 10
abbrev pub line_of : String → String → List ℕ
line_of code vessel = card code "Line Parameters Vessel:" (at 30 vessel ∷ at 32 "1" ∷ [])

abbrev pub first_line : List ℕ
first_line = line_of "H0018" "1"

abbrev pub second_line : List ℕ
second_line = line_of "H0028" "2"

-- a streamer, and a compass on it, cards 11 and 12
abbrev pub streamer_card : List ℕ
streamer_card = card "H2110" "" (at 7 "201" ∷ [])

abbrev pub compass_card : List ℕ
compass_card = card "H2210" "" (at 7 "201" ∷ at 11 "  31" ∷ at 16 "A17" ∷ [])

-- nodes: fixed, on a relay, on the streamer, of another vessel on it, and a transducer, cards 13 to 17
abbrev pub platform_card : List ℕ
platform_card = card "H5000" "" (at 7 "   1" ∷ at 12 "Platform A" ∷ at 29 "0" ∷ at 31 "0611542.318N" ∷ at 44 "0021830.774E" ∷ [])

abbrev pub relay_card : List ℕ
relay_card = card "H5100" "" (at 7 "   2" ∷ at 12 "Relay buoy" ∷ [])

abbrev pub tail_card : List ℕ
tail_card = card "H5110" "" (at 7 "  31" ∷ at 12 "Tail buoy" ∷ at 29 "201" ∷ [])

abbrev pub other_tail_card : List ℕ
other_tail_card = card "H5120" "" (at 7 "   4" ∷ at 12 "Tail buoy" ∷ at 29 "201" ∷ [])

abbrev pub transducer_card : List ℕ
transducer_card = card "H1611" "" (at 7 "1" ∷ at 9 "   5" ∷ [])

-- observations, cards 18 to 20: two ranges, and a bearing whose second node is the ship's head
abbrev pub observed : String → String → String → String → List Piece → List ℕ
observed code number what from others = card code "" (at 7 number ∷ at 12 what ∷ at 29 from ∷ others)

abbrev pub range_card : List ℕ
range_card = observed "H5201" " 101" "Range" "   1" (at 34 "   2" ∷ [])

abbrev pub other_range_card : List ℕ
other_range_card = observed "H5201" " 102" "Range" "   5" (at 34 "  31" ∷ [])

abbrev pub bearing_card : List ℕ
bearing_card = observed "H5208" " 103" "Bearing" "   4" (at 34 "   0" ∷ at 39 "   1" ∷ [])

-- parameters of observations, cards 21 to 23
abbrev pub parameters_of : String → List ℕ
parameters_of number = card "H5401" "" (at 7 number ∷ at 20 "0.75" ∷ [])

abbrev pub network_cards : List (List ℕ)
network_cards = opening_cards ++ (
    first_line ∷ second_line ∷ streamer_card ∷ compass_card ∷
    platform_card ∷ relay_card ∷ tail_card ∷ other_tail_card ∷ transducer_card ∷
    range_card ∷ other_range_card ∷ bearing_card ∷
    parameters_of " 101" ∷ parameters_of " 102" ∷ parameters_of " 104" ∷ [])

unfoldable pub network : List ℕ
network = joined network_cards
