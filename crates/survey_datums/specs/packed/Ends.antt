-- How the code finds the lowest joining cards: for each datum one pass over the cards, a row of the table at a time. No promise
-- to a caller cites this.
use Rattle.std.specs.Prelude.{ℕ, ◌+◌, ◌-◌, Bool, cond, not, ◌&&◌, ◌||◌, List, map, eqb, ltb, get_or}
use Rattle.base_lists.specs.Count.{first}
use Rattle.base_lists.specs.Parts.{up_to}
use Rattle.format_layout.specs.Names.{H0120}
use Rattle.header_check.specs.forms.Cards.{layout_of}
use Rattle.survey_datums.specs.routing.Chains.{datums}
use Rattle.survey_datums.specs.Datums.{number_in}

-- the datum with a number, 9 where there is none
unfoldable pub place_of : ℕ → ℕ
place_of number = cond (eqb number 0 || ltb datums number) datums (number - 1)

-- of two numbers the other one's datum, where one is a datum's
unfoldable pub other_of : ℕ → ℕ → ℕ → ℕ
other_of from to a = cond (eqb from (a + 1)) (place_of to) (cond (eqb to (a + 1)) (place_of from) datums)

-- the datum at the other end of a shift, 9 where the card is no shift of a datum
unfoldable pub far_end : List ℕ → ℕ → ℕ
far_end s a = cond (eqb (layout_of s) H0120) (other_of (number_in s 7) (number_in s 9) a) datums

-- a datum b can be noted in the row of a for a card whose other end is `end`
unfoldable pub notable : List ℕ → ℕ → ℕ → ℕ → Bool
notable times a end b = eqb end b && (not (eqb a b) && ltb 0 (get_or times b 0))

-- the lowest card stays
unfoldable pub noted : ℕ → Bool → ℕ → ℕ
noted old here card = cond (here && eqb old 0) card old

-- one of the numbers is more than 1
unfoldable pub twice_in : List ℕ → Bool
twice_in times = ltb (first (λ a. ltb 1 (get_or times a 0)) datums) datums

-- numbers of shifts as they are told: of those that are not defined, 10
unfoldable pub told_by : List ℕ → List ℕ → List ℕ
told_by times shifts = map (λ a. cond (ltb 0 (get_or times a 0)) (get_or shifts a 0) 10) (up_to datums)
