-- Chains of shifts to datum 1: the fewest shifts, and the route that is told. Datums are counted from 0, so 0 is datum 1. Two of
-- them are joined where g gives a card, counted from 1; 0 stands for no card.
-- Assumes nothing.
use Rattle.std.specs.Prelude.{ℕ, zero, suc, Bool, cond, ◌&&◌, List, [], ◌∷◌, eqb, ltb}
use Rattle.base_lists.specs.Count.{first}

-- how many datums there can be; as a number of shifts, that there is no route
abbrev pub datums : ℕ
datums = 9

-- the most shifts of a route: it comes to no datum twice
abbrev pub most_shifts : ℕ
most_shifts = 8

-- a chain of n shifts leads from a datum to datum 1
unfoldable pub reach : (ℕ → ℕ → ℕ) → ℕ → ℕ → Bool
reach g zero a = eqb a 0
reach g (suc n) a = ltb (first (λ b. ltb 0 (g a b) && reach g n b) datums) datums

-- the fewest shifts to datum 1
unfoldable pub distance : (ℕ → ℕ → ℕ) → ℕ → ℕ
distance g a = first (λ n. reach g n a) datums

-- the lowest next datum from which n shifts are the fewest
unfoldable pub next : (ℕ → ℕ → ℕ) → ℕ → ℕ → ℕ
next g n a = first (λ b. ltb 0 (g a b) && eqb (distance g b) n) datums

-- the cards of the route with n shifts from a datum
unfoldable pub route : (ℕ → ℕ → ℕ) → ℕ → ℕ → List ℕ
route g zero a = []
route g (suc n) a = g a (next g n a) ∷ route g n (next g n a)

-- the cards of a datum's route, none where there is no route
unfoldable pub route_from : (ℕ → ℕ → ℕ) → ℕ → List ℕ
route_from g a = cond (ltb (distance g a) datums) (route g (distance g a) a) []
