-- Where the key with a number is defined: how often, and where if once, on a card and in a header. No key has the number 0.
-- How the code searches: no promise to a caller cites this.
use Rattle.std.specs.Prelude.{ℕ, ◌+◌, ◌*◌, ◌/◌, ◌%◌, List, Bool, cond, ◌&&◌, eqb, ltb}
use Rattle.base_lists.specs.Count.{count, first}
use Rattle.header_check.specs.forms.Cards.{card_at, cards_in, layout_of}
use Rattle.tie_rules.specs.Ties.{defines}
use Rattle.tie_rules.specs.packed.Rows.{definition_in, found_in, packed_by}
use Rattle.tie_lookup.specs.declared.search.Found.{Found}

-- a column of a card defines it
unfoldable pub bears : List ℕ → ℕ → ℕ → Bool
bears s number column = ltb 0 (packed_by defines (layout_of s) s column) && eqb (packed_by defines (layout_of s) s column) number

-- the column of a row does
unfoldable pub bears_by : List ℕ → ℕ → ℕ → Bool
bears_by s number row = ltb 0 (found_in (definition_in row) s) && eqb (found_in (definition_in row) s) number

-- a place of a header does, 80 to a card and counted from 0
unfoldable pub bears_at : List ℕ → ℕ → ℕ → Bool
bears_at h number p = bears (card_at h (p / 80)) number (p % 80 + 1)

-- the only number below n that passes, counted from 1; 0 where those that do are not exactly one
unfoldable pub only_of : (ℕ → Bool) → ℕ → ℕ
only_of p n = cond (eqb (count p n) 1) (first p n + 1) 0

-- how many pass, and the only one
unfoldable pub found_of : (ℕ → Bool) → ℕ → Found
found_of p n = record { number = count p n; only = only_of p n }

-- the only one once more are found: as it was where there are none, here where the first of all is found, and else 0
unfoldable pub only_with : ℕ → ℕ → ℕ → ℕ → ℕ
only_with found only more here = cond (eqb more 0) only (cond (eqb found 0 && eqb more 1) here 0)

-- the columns of a card that define the key, and the places of a header
unfoldable pub found_on : List ℕ → ℕ → Found
found_on s number = found_of (λ i. bears s number (i + 1)) 80

unfoldable pub found_over : List ℕ → ℕ → Found
found_over h number = found_of (bears_at h number) (80 * cards_in h)
