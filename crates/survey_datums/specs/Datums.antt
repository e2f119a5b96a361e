-- The datums of a header, and the shifts that join them. Datums are counted from 0, so 0 is datum 1.
use Rattle.std.specs.Prelude.{ℕ, ◌+◌, Bool, cond, ◌&&◌, ◌||◌, List, [], ◌∷◌, map, eqb, ltb, get_or}
use Rattle.base_lists.specs.Count.{first}
use Rattle.base_lists.specs.Parts.{up_to}
use Rattle.format_layout.specs.Names.{H0120}
use Rattle.header_check.specs.forms.Cards.{card_at, cards_in, layout_of}
use Rattle.tie_rules.specs.Keys.{whole_in}
use Rattle.tie_rules.specs.Definitions.{definitions_of}
use Rattle.survey_datums.specs.routing.Chains.{datums}

-- the class of datum numbers among the keys
abbrev pub datum_class : ℕ
datum_class = 1

-- how often a datum is defined
unfoldable pub times_defined : List ℕ → ℕ → ℕ
times_defined h a = definitions_of h datum_class ((a + 1) ∷ [])

unfoldable pub is_defined : List ℕ → ℕ → Bool
is_defined h a = ltb 0 (times_defined h a)

-- some of the nine is defined more than once
unfoldable pub some_twice : List ℕ → Bool
some_twice h = ltb (first (λ a. ltb 1 (times_defined h a)) datums) datums

-- the number in a column of a card, 0 where there is none
unfoldable pub number_in : List ℕ → ℕ → ℕ
number_in s column = get_or (whole_in column column s) 0 0

-- a card is a shift between two datums, used either way
unfoldable pub is_shift : List ℕ → ℕ → ℕ → Bool
is_shift s a b =
    eqb (layout_of s) H0120 &&
    ((eqb (number_in s 7) (a + 1) && eqb (number_in s 9) (b + 1)) || (eqb (number_in s 7) (b + 1) && eqb (number_in s 9) (a + 1)))

-- the card at a place, from 0, joins two datums: it is a shift between them, and both are defined
unfoldable pub joins : List ℕ → ℕ → ℕ → ℕ → Bool
joins h a b c = is_defined h a && (is_defined h b && is_shift (card_at h c) a b)

-- of the numbers below n the first that passes, counted from 1; 0 where none does
unfoldable pub first_number : (ℕ → Bool) → ℕ → ℕ
first_number p n = cond (ltb (first p n) n) (first p n + 1) 0

-- the lowest of the first n cards that joins two datums, 0 where none does; a datum is never joined to itself
unfoldable pub joining_to : List ℕ → ℕ → ℕ → ℕ → ℕ
joining_to h a b n = cond (eqb a b) 0 (first_number (joins h a b) n)

-- the lowest of all cards
unfoldable pub joining : List ℕ → ℕ → ℕ → ℕ
joining h a b = joining_to h a b (cards_in h)

-- the same of all datums, nine by nine
unfoldable pub joining_table : List ℕ → List (List ℕ)
joining_table h = map (λ a. map (joining h a) (up_to datums)) (up_to datums)
