-- The answer put together: what the struct holds in each case.
use Prim.Native.Nat.{ℕ, ◌-◌, ◌≤◌, ◌<◌}
use native.Mathlib.Omega.{arith}
use mathlib.Core.Path.{◌≡◌, sym, ap, ap₂, ◌∙◌}
use mathlib.Core.Bool.{Bool, true, false, cond}
use mathlib.Core.List.{List, map}
use lib.Dec.{ltb}
use lib.ListN.{length, get_or}
use borrow.Author.Tests.{le-leb, lt-leb, lt-ltb, le-ltb}
use Rattle.std.specs.Bool.{MatchBool}
use Rattle.std.specs.List.{AllWithin, HoldsAt}
use Rattle.base_lists.specs.Count.{first}
use Rattle.base_lists.specs.Parts.{up_to}
use Rattle.base_lists.proofs.Finding.{first_same, first-least, first-none}
use Rattle.base_refusal.specs.declared.Refusal.{Refusal}
use Rattle.base_refusal.specs.Refusals.{refusal, no_refusal}
use Rattle.header_check.specs.Refusing.{refusal_of}
use Rattle.survey_datums.specs.routing.Chains.{distance}
use Rattle.survey_datums.specs.routing.Tables.{entry, distances, cards_of}
use Rattle.survey_datums.proofs.routing.Filling.{at_listed, listed_same}
use Rattle.survey_datums.specs.declared.Routes.{Routes}
use Rattle.survey_datums.specs.declared.Way.{Way}
use Rattle.survey_datums.specs.declared.Way.TheVariants.{Undefined}
use Rattle.survey_datums.specs.Datums.{times_defined, is_defined, some_twice, joining_table}
use Rattle.survey_datums.specs.packed.Ends.{twice_in, told_by}
use Rattle.survey_datums.specs.Answer.{shifts_told, told_of, refused_with, routes_for, routes_of, way_for, way_of}
use Rattle.std.specs.Prelude.{Err}

abbrev made : List ℕ → List ℕ → Routes
made s c = record { answer = no_refusal; shifts = s; cards = c }

-- a header that was refused
pub told-refused : (h : List ℕ) (r : Refusal) → refusal_of h ≡ Err r → (x : Routes) → x ≡ refused_with r → x ≡ routes_of h
unfolding routes_of routes_for
told-refused h r e x q = rw e q

module _ (h : List ℕ) (accepted : refusal_of h ≡ no_refusal) (times : List ℕ) (known : times ≡ map (times_defined h) (up_to 9)) where
  times_at_lem : (a : ℕ) → a < 9 → get_or times a 0 ≡ times_defined h a
  times_at_lem a l = ap (λ t. get_or t a 0) known ∙ at_listed (times_defined h) 9 a 0 l

  twice_same : twice_in times ≡ some_twice h
  unfolding twice_in some_twice
  twice_same = ap (λ n. ltb n 9) (first_same (λ a. ltb 1 (get_or times a 0)) (λ a. ltb 1 (times_defined h a)) 9 (λ a l. ap (ltb 1) (times_at_lem a l)))

  -- a datum that is defined more than once
  pub told_twice : (t : Bool) → t ≡ twice_in times → t ≡ true → (r : Refusal) → r ≡ refusal 22 0 0 → (x : Routes) → x ≡ refused_with r
      → x ≡ routes_of h
  unfolding routes_of routes_for
  told_twice t e q r f x g =
      let b : some_twice h ≡ true = sym twice_same ∙ sym e ∙ q in
      rw (accepted, b) (g ∙ ap refused_with f)

  -- the routes
  pub told_routes : (t : Bool) → t ≡ twice_in times → t ≡ false
      → (table : List (List ℕ)) → table ≡ joining_table h → (shifts : List ℕ) → shifts ≡ distances table
      → (cards : List ℕ) → cards ≡ cards_of table → (told : List ℕ) → told ≡ told_by times shifts
      → made told cards ≡ routes_of h
  unfolding routes_of routes_for told_of told_by shifts_told is_defined distances
  told_routes t e q table is shifts far cards which told by =
      let b : some_twice h ≡ false = sym twice_same ∙ sym e ∙ q in
      rw (accepted, b) (ap₂ made
      (by ∙ listed_same (λ a. cond (ltb 0 (get_or times a 0)) (get_or shifts a 0) 10) (shifts_told h) 9 (λ a l.
      rw (times_at_lem a l, far, is, at_listed (distance (entry (joining_table h))) 9 a 0 l)))
      (which ∙ ap cards_of is))

-- what a search for a number above 1 finds
pub some_often : (times : List ℕ) → length times ≡ 9 → (r : Bool)
    → MatchBool r ((k : ℕ) × (k < length times) × HoldsAt (λ n. 1 < n) times k)
    (AllWithin (λ n. n ≤ 1) times 0 (length times))
    → r ≡ twice_in times
unfolding twice_in
some_often times nine true h =
    let l = first-least (λ a. ltb 1 (get_or times a 0)) 9 h.0 (lt-ltb 1 (get_or times h.0 0) (h.2 0)) in
    sym (lt-ltb (first (λ a. ltb 1 (get_or times a 0)) 9) 9 (omega (arith, h.1, nine, l)))
some_often times nine false h =
    let e = first-none (λ a. ltb 1 (get_or times a 0)) 9
    (λ k l. le-ltb 1 (get_or times k 0) (h k 0 (omega arith) (omega (arith, nine)))) in
    sym (le-ltb (first (λ a. ltb 1 (get_or times a 0)) 9) 9 (omega (arith, e)))

-- what is told of one datum
module _ (r : Routes) (d : ℕ) where
  pub below_one : d ≡ 0 → Undefined ≡ way_of r d
  unfolding way_of
  below_one e = rw e

  pub above_nine : 9 < d → Undefined ≡ way_of r d
  unfolding way_of
  above_nine l = rw (le-leb 1 d (omega arith), lt-leb d 9 l)

  pub one_of_nine : (d ≡ 0 → ⊥) → (9 < d → ⊥) → (w : Way) → w ≡ way_for (get_or r.shifts (d - 1) 0) → w ≡ way_of r d
  unfolding way_of
  one_of_nine a b w e = rw (le-leb 1 d (omega arith), le-leb d 9 (omega arith)) e
