-- The definitions of a header as one number each, place by place, 80 to a card.
use Rattle.std.specs.Prelude.{ℕ, ◌+◌, ◌*◌, ◌/◌, ◌%◌, List, Bool, false, ◌≡◌}
use Rattle.base_lists.specs.Count.{count}
use Rattle.header_check.specs.forms.Cards.{card_at, layout_of}
use Rattle.tie_rules.specs.Ties.{defines}
use Rattle.tie_rules.specs.Keys.{vessel_of}
use Rattle.tie_rules.specs.packed.Rows.{packed_by}

-- what a definition is tagged with: its card's vessel digit, and 16 times the card's number
unfoldable pub tag_for : List ℕ → ℕ → ℕ
tag_for s c = vessel_of s + 16 * c

-- what a tag tells
abbrev pub vessel_told : ℕ → ℕ
vessel_told tag = tag % 16

abbrev pub card_told : ℕ → ℕ
card_told tag = tag / 16

-- a test of a number and a tag
abbrev pub Test : Type 0
Test = ℕ → ℕ → Bool

-- it passes over columns that define nothing
abbrev pub Sparing : Test → Type 0
Sparing test = (tag : ℕ) → test 0 tag ≡ false

-- the number of the key that a column of a card defines, 0 where it defines none
unfoldable pub number_on : List ℕ → ℕ → ℕ
number_on s column = packed_by defines (layout_of s) s column

-- the same at a place of a header
unfoldable pub number_at : List ℕ → ℕ → ℕ
number_at h p = number_on (card_at h (p / 80)) (p % 80 + 1)

-- whether a column of a card passes, and how many of a header's first places
unfoldable pub column_passes : List ℕ → ℕ → ℕ → Test → Bool
column_passes s tag column test = test (number_on s column) tag

unfoldable pub passing : Test → List ℕ → ℕ → ℕ
passing test h n = count (λ p. test (number_at h p) (tag_for (card_at h (p / 80)) (p / 80))) n
