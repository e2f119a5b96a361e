-- The routes as numbers in a lent list: nine to a datum, in the order of the datums.
use Rattle.std.specs.Prelude.{ℕ, ◌+◌, ◌*◌, ◌-◌, ◌/◌, ◌%◌, cond, List, map, eqb, ltb, get_or, Result, Ok, Err, ⊤}
use Rattle.base_lists.specs.Count.{count}
use Rattle.base_lists.specs.Laid.{laid}
use Rattle.base_lists.specs.Parts.{up_to}
use Rattle.survey_datums.specs.routing.Chains.{datums, most_shifts}
use Rattle.survey_datums.specs.declared.Routes.{Routes}
use Rattle.base_refusal.specs.declared.Refusal.{Refusal}

-- how many numbers a datum has: its shifts, and its eight cards
abbrev pub row_size : ℕ
row_size = 9

-- one of all numbers
unfoldable pub number_at : List ℕ → List ℕ → ℕ → ℕ
number_at shifts cards i =
    cond (eqb (i % row_size) 0) (get_or shifts (i / row_size) 0) (get_or cards (i / row_size * most_shifts + (i % row_size - 1)) 0)

unfoldable pub numbers_of : Routes → List ℕ
numbers_of r = map (number_at r.shifts r.cards) (up_to (row_size * datums))

-- how many datums have a route
unfoldable pub routed : List ℕ → ℕ
routed shifts = count (λ a. ltb (get_or shifts a 0) datums) datums

-- that number, or the refusal
unfoldable pub listed_by : Result ⊤ Refusal → List ℕ → Result ℕ Refusal
listed_by (Ok _) shifts = Ok (routed shifts)
listed_by (Err r) shifts = Err r

unfoldable pub listed_of : Routes → Result ℕ Refusal
listed_of r = listed_by r.answer r.shifts

-- the list as it was, or as many whole datums as fit and the rest as it was
unfoldable pub list_by : Result ⊤ Refusal → List ℕ → List ℕ → List ℕ
list_by (Ok _) l w = laid row_size l w
list_by (Err r) l w = l

unfoldable pub list_for : Routes → List ℕ → List ℕ
list_for r l = list_by r.answer l (numbers_of r)
