-- What is promised of the routes between datums. Datums are counted from 0 here, so 0 is datum 1; cards count from 1.
use Prim.Native.Nat.{ℕ, suc, ◌+◌, ◌≤◌, ◌<◌}
use mathlib.Core.Path.{◌≡◌}
use mathlib.Core.Logic.{◌↔◌}
use mathlib.Core.Bool.{true, false}
use mathlib.Core.List.{List}
use lib.ListN.{length}
use Rattle.base_refusal.specs.declared.Refusal.{Refusal}
use Rattle.base_refusal.specs.Refusals.{refusal, no_refusal}
use Rattle.header_check.specs.Refusing.{refusal_of}
use Rattle.survey_datums.specs.routing.Chains.{distance, route_from, next}
use Rattle.survey_datums.specs.Datums.{is_defined, some_twice}
use Rattle.survey_datums.specs.Chains.{Chain}
use Rattle.survey_datums.specs.Answer.{shifts_told, told_of, refused_with, routes_for, routes_of, way_of, number_of}
use Rattle.survey_datums.proofs.Chained as chained
use Rattle.survey_datums.proofs.Moved as moved
use Rattle.survey_datums.proofs.Ways as ways
use Rattle.promises.specs.Words.{Moved}
use Rattle.std.specs.Prelude.{Err}

-- A refused header's refusal comes first, then 22 where a datum is defined more than once; else the routes are told.
pub routes_refused : (h : List ℕ) (r : Refusal) → refusal_of h ≡ Err r → routes_of h ≡ refused_with r
unfolding routes_of routes_for
routes_refused h r e = rw e

pub defined_twice : (h : List ℕ) → refusal_of h ≡ no_refusal → some_twice h ≡ true → routes_of h ≡ refused_with (refusal 22 0 0)
unfolding routes_of routes_for
defined_twice h e t = rw (e, t)

pub routes_told : (h : List ℕ) → refusal_of h ≡ no_refusal → some_twice h ≡ false → routes_of h ≡ told_of h
unfolding routes_of routes_for
routes_told h e t = rw (e, t)

module _ (h : List ℕ) (a : ℕ) (there : a < 9) where
  -- a datum that is not defined is told as such, and any other by its distance
  pub undefined-told : is_defined h a ≡ false → shifts_told h a ≡ 10
  unfolding shifts_told
  undefined-told e = rw e

  pub distance-told : is_defined h a ≡ true → shifts_told h a ≡ distance (chained.by h) a
  unfolding shifts_told
  distance-told e = rw e

  -- so is what is told of it alone, by the number of its case
  pub way_told : number_of (way_of (told_of h) (a + 1)) ≡ shifts_told h a
  way_told = ways.way_told h a there

  -- there is no route exactly if no chain of cards, however long, leads to datum 1
  pub no_route : (distance (chained.by h) a ≡ 9) ↔ ((cs : List ℕ) → Chain h a cs → ⊥)
  no_route = chained.no_route_exactly h a there

  -- the route is a chain, of as many cards as shifts are told, and no chain has fewer
  pub route_chain : distance (chained.by h) a < 9 → Chain h a (route_from (chained.by h) a) × (length (route_from (chained.by h) a) ≡ distance (chained.by h) a)
  route_chain = chained.route-told h a there

  pub fewest : (cs : List ℕ) → Chain h a cs → distance (chained.by h) a ≤ length cs
  fewest = chained.no_shorter h a there

  -- at each step it goes to another datum, the lowest that keeps it shortest, by the lowest card
  pub each_step : (n : ℕ) → distance (chained.by h) a ≡ suc n → distance (chained.by h) a < 9 → chained.Step h a there n
  each_step = chained.each_step h a there

-- Cards behind the opening block may change places: as many shifts are told, and the route goes to the same datums.
module _ (h h' : List ℕ) (m : Moved h h') where
  pub shifts_moved : (a : ℕ) → a < 9 → shifts_told h' a ≡ shifts_told h a
  shifts_moved = moved.shifts_moved h h' m.order m.same_length m.same_card

  pub next-moved : (n a : ℕ) → a < 9 → next (chained.by h') n a ≡ next (chained.by h) n a
  next-moved = moved.next-moved h h' m.order m.same_length m.same_card

  pub twice_moved : some_twice h' ≡ some_twice h
  twice_moved = moved.twice_moved h h' m.order m.same_length m.same_card
