-- The entries of a header in the order in which its cards are walked: card, column, kind.
use Rattle.std.specs.Prelude.{ℕ, ◌+◌, Bool, get_or}
use mathlib.Core.List.{List, map, flat_map}
use Rattle.base_lists.specs.Parts.{kept, up_to}
use Rattle.header_check.specs.forms.Cards.{card_at, layout_of}
use Rattle.tie_rules.specs.Faults.{kinds, broken, entry_for}
use Rattle.tie_check.specs.packed.Begins.{walked}

-- of a column of the card with a number, from 0
unfoldable pub column_entries : List ℕ → ℕ → ℕ → List (List ℕ)
column_entries h c column = map (λ i. entry_for h c column (i + 1)) (kept (λ i. broken h c column (i + 1)) (up_to kinds))

-- of a step of the walk over a card
unfoldable pub step_entries : List ℕ → ℕ → Bool → ℕ → List (List ℕ)
step_entries h c left i = column_entries h c (get_or (walked left (layout_of (card_at h c))) i 0)

-- of the card, column by column
unfoldable pub card_entries : List ℕ → ℕ → List (List ℕ)
card_entries h c = flat_map (column_entries h c) (up_to 81)

-- of the first cards
unfoldable pub entries_to : List ℕ → ℕ → List (List ℕ)
entries_to h n = flat_map (card_entries h) (up_to n)
