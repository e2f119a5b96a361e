-- Chains over a nine by nine table of cards, and what the code finds of them: all distances, and the cards of all routes.
-- Assumes nothing.
use Rattle.std.specs.Prelude.{ℕ, ◌+◌, ◌*◌, ◌/◌, ◌%◌, cond, ◌&&◌, List, [], map, eqb, leb, ltb, get_or}
use Rattle.base_lists.specs.Count.{first}
use Rattle.base_lists.specs.Parts.{up_to}
use Rattle.survey_datums.specs.routing.Chains.{datums, most_shifts, distance, route_from}

-- the card in an entry of a table, 0 outside it
unfoldable pub entry : List (List ℕ) → ℕ → ℕ → ℕ
entry t a b = get_or (get_or t a []) b 0

-- the distances of all datums
unfoldable pub distances : List (List ℕ) → List ℕ
distances t = map (distance (entry t)) (up_to datums)

-- the cards of all routes, eight to a datum, those that a route does not have being 0
unfoldable pub card_of : List (List ℕ) → ℕ → ℕ → ℕ
card_of t a i = get_or (route_from (entry t) a) i 0

unfoldable pub cards_of : List (List ℕ) → List ℕ
cards_of t = map (λ i. card_of t (i / most_shifts) (i % most_shifts)) (up_to (datums * most_shifts))

-- of the datums that a row joins, the lowest with a number of shifts
unfoldable pub next_in : List ℕ → List ℕ → ℕ → ℕ
next_in row shifts n = first (λ b. ltb 0 (get_or row b 0) && eqb (get_or shifts b 0) n) datums

-- the shifts of a datum that a row joins, once those with n are known: n + 1 where none were known and one with n is joined
unfoldable pub further_by : List ℕ → List ℕ → ℕ → ℕ → ℕ
further_by row shifts n old = cond (eqb old datums && ltb (next_in row shifts n) datums) (1 + n) old

-- the same of all datums
unfoldable pub further : List (List ℕ) → List ℕ → ℕ → List ℕ
further t shifts n = map (λ a. further_by (get_or t a []) shifts n (get_or shifts a 0)) (up_to datums)

-- how many shifts a route from a datum has, 0 where there is none
unfoldable pub length_in : List ℕ → ℕ → ℕ
length_in shifts a = cond (leb datums (get_or shifts a 0)) 0 (get_or shifts a 0)
