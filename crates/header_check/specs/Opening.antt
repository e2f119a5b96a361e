-- The opening block: H0000 to H0007 once each in that order, then H00@8 and H00@9 by code number, never falling, at least one
-- H00@8 among them. None of these codes stands later.
use Rattle.std.specs.Prelude.{ℕ, zero, suc, ◌+◌, ◌-◌, ◌*◌, List, Bool, cond, not, ◌&&◌, ◌||◌, eqb, leb, ltb}
use Rattle.base_lists.specs.Count.{count, first}
use Rattle.header_check.specs.forms.Cards.{card_at, cards_in, byte_in, layout_of}
use Rattle.format_layout.specs.Names.{H00X8, H00X9}

-- how many cards H0000 to H0007 are
abbrev pub first_cards : ℕ
first_cards = 8

-- the number in a card's code, columns 2 to 5
unfoldable pub code_number : List ℕ → ℕ
code_number s =
    1000 * (byte_in s 2 - 48) + 100 * (byte_in s 3 - 48) + 10 * (byte_in s 4 - 48) + (byte_in s 5 - 48)

-- the code number of the card before one
unfoldable pub number_before : List ℕ → ℕ → ℕ
number_before h zero = 0
number_before h (suc c) = code_number (card_at h c)

-- at a place, from 0, a layout with a code number goes on with the block: the first eight are the layouts 0 to 7 in that order,
-- and then come H00@8 and H00@9, none with a number below the one before it
unfoldable pub goes_on : ℕ → ℕ → ℕ → ℕ → Bool
goes_on c k before number =
    cond (ltb c first_cards) (eqb k c) ((eqb k H00X8 || eqb k H00X9) && leb before number)

-- the card at a place goes on with the block
unfoldable pub continues : List ℕ → ℕ → Bool
continues h c = goes_on c (layout_of (card_at h c)) (number_before h c) (code_number (card_at h c))

-- how many cards the block has: it ends before the first card that does not go on with it
unfoldable pub block_end : List ℕ → ℕ
block_end h = first (λ c. not (continues h c)) (cards_in h)

-- an H00@8 stands in the block
unfoldable pub has_line : List ℕ → Bool
has_line h = ltb 0 (count (λ c. eqb (layout_of (card_at h c)) H00X8) (block_end h))

-- the card at a place is in place: in the block, or behind one that has an H00@8 and with a code that opens no header
unfoldable pub stands_at : List ℕ → ℕ → Bool
stands_at h c = ltb c (block_end h) || (has_line h && ltb H00X9 (layout_of (card_at h c)))
