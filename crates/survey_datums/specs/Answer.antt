-- The answer: for each of the nine datums undefined, no route, or the number of shifts and the route's cards; or the refusal.
use Rattle.std.specs.Prelude.{ℕ, ◌-◌, cond, ◌&&◌, List, map, eqb, leb, ltb, get_or, replicate, Result, Ok, Err, ⊤}
use Rattle.base_lists.specs.Parts.{up_to}
use Rattle.base_refusal.specs.declared.Refusal.{Refusal}
use Rattle.base_refusal.specs.Refusals.{refusal, no_refusal}
use Rattle.header_check.specs.Refusing.{refusal_of}
use Rattle.survey_datums.specs.routing.Chains.{datums, distance}
use Rattle.survey_datums.specs.routing.Tables.{entry, cards_of}
use Rattle.survey_datums.specs.declared.Routes.{Routes}
use Rattle.survey_datums.specs.declared.Way.{Way}
use Rattle.survey_datums.specs.declared.Way.TheVariants.{Undefined, NoRoute, Shifts}
use Rattle.survey_datums.specs.Datums.{is_defined, some_twice, joining_table}

-- as a number of shifts: the datum is not defined
abbrev pub not_defined : ℕ
not_defined = 10

-- the number of shifts as it is told of a datum: 0 to 8, 9 where there is no route, 10 where it is not defined
unfoldable pub shifts_told : List ℕ → ℕ → ℕ
shifts_told h a = cond (is_defined h a) (distance (entry (joining_table h)) a) not_defined

-- the answer for a header that is not refused
unfoldable pub told_of : List ℕ → Routes
told_of h = record { answer = no_refusal; shifts = map (shifts_told h) (up_to datums); cards = cards_of (joining_table h) }

-- the answer for one that is: every datum undefined, no cards
unfoldable pub refused_with : Refusal → Routes
refused_with r = record { answer = Err r; shifts = replicate 9 not_defined; cards = replicate 72 0 }

-- the header's refusal, then 22 where a datum is defined more than once
unfoldable pub routes_for : Result ⊤ Refusal → List ℕ → Routes
routes_for (Err r) h = refused_with r
routes_for (Ok _) h = cond (some_twice h) (refused_with (refusal 22 0 0)) (told_of h)

unfoldable pub routes_of : List ℕ → Routes
routes_of h = routes_for (refusal_of h) h

-- what a number of shifts says
unfoldable pub way_for : ℕ → Way
way_for n = cond (ltb n datums) (Shifts n) (cond (eqb n datums) NoRoute Undefined)

-- what is told of the datum with a number: one outside 1 to 9 is not defined
unfoldable pub way_of : Routes → ℕ → Way
way_of r d = cond (leb 1 d && leb d datums) (way_for (get_or r.shifts (d - 1) 0)) Undefined

-- the number of each case, as it stands in the struct and goes to C
unfoldable pub number_of : Way → ℕ
number_of (Shifts n) = n
number_of NoRoute = datums
number_of Undefined = not_defined
