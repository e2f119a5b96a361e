-- A header as cards of 80 bytes, counted from 0, and the number of the layout that reads a card.
use Rattle.std.specs.Prelude.{ℕ, ◌+◌, ◌-◌, ◌/◌, cond, List, eqb, length, get_or, take}
use Rattle.base_lists.specs.Parts.{part}
use Rattle.format_code.specs.declared.Code.{Code}
use Rattle.format_code.specs.declared.Code.TheVariants.{Read, Passed, Unknown}
use Rattle.format_code.specs.Codes.{code_of}

-- the card with a number: the 80 bytes behind as many cards
unfoldable pub card_at : List ℕ → ℕ → List ℕ
card_at h c = part 80 h c

-- how many whole cards there are
unfoldable pub cards_in : List ℕ → ℕ
cards_in h = length h / 80

-- the byte in a column, counted from 1
unfoldable pub byte_in : List ℕ → ℕ → ℕ
byte_in s column = get_or s (column - 1) 0

-- stands for a passed code, and one more for an unknown one: no layout has either number
abbrev pub unread : ℕ
unread = 62

abbrev pub number_of : Code → ℕ
number_of (Read k) = k
number_of Passed = unread
number_of Unknown = unread + 1

-- the code that such a number stands for
unfoldable pub code_by : ℕ → Code
code_by k = cond (eqb k unread) Passed (cond (eqb k (unread + 1)) Unknown (Read k))

-- the number of the layout that reads a card
unfoldable pub layout_of : List ℕ → ℕ
layout_of s = number_of (code_of (take 5 s))
