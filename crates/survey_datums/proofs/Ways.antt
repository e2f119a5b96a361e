-- What is told of one datum has the number that stands in the struct: the fewest shifts, 9 for no route, 10 for not defined.
use Prim.Native.Nat.{ℕ, ◌+◌, ◌-◌, ◌≤◌, ◌<◌}
use native.Mathlib.Omega.{arith}
use native.Mathlib.Decide.{dec_lt, ℕ_discrete}
use mathlib.Core.Path.{◌≡◌, sym}
use mathlib.Core.Bool.{Bool, true, false, cond}
use mathlib.Core.List.{List}
use borrow.Author.Tests.{eq-eqb, ne_eqb, lt-ltb, le-ltb, le-leb}
use Rattle.base_lists.proofs.Finding.{first_le}
use Rattle.survey_datums.specs.routing.Chains.{reach, distance}
use Rattle.survey_datums.specs.routing.Tables.{entry}
use Rattle.survey_datums.proofs.routing.Filling.{at_listed}
use Rattle.survey_datums.specs.Datums.{is_defined, joining_table}
use Rattle.survey_datums.specs.Answer.{shifts_told, told_of, way_for, way_of, number_of}

way_number : (n : ℕ) → n ≤ 10 → number_of (way_for n) ≡ n
unfolding way_for number_of
way_number n h = elim (dec_lt n 9) [
  | yes l ↦ rw (lt-ltb n 9 l)
  | no l ↦ elim (ℕ_discrete n 9) [
    | yes e ↦ rw (le-ltb n 9 (omega arith), eq-eqb n 9 e) (sym e)
    | no e ↦ rw (le-ltb n 9 (omega arith), ne_eqb n 9 e) (let q : 10 ≡ n = omega arith in q)
  ]
]

module _ (h : List ℕ) (a : ℕ) where
  told-few : shifts_told h a ≤ 10
  unfolding shifts_told distance
  told-few = go (is_defined h a)
    where
      go : (b : Bool) → cond b (distance (entry (joining_table h)) a) 10 ≤ 10
      go true = omega (arith, first_le (λ n. reach (entry (joining_table h)) n a) 9)
      go false = omega arith

  pub way_told : a < 9 → number_of (way_of (told_of h) (a + 1)) ≡ shifts_told h a
  unfolding way_of told_of
  way_told l =
      let back : a + 1 - 1 ≡ a = omega arith in
      rw (le-leb 1 (a + 1) (omega arith), le-leb (a + 1) 9 (omega arith), back, at_listed (shifts_told h) 9 a 0 l)
      (way_number (shifts_told h a) told-few)
