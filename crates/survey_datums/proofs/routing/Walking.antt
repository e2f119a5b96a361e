-- The walk along a route: where it begins, one step, and its end.
-- Assumes nothing.
use Prim.Native.Nat.{ℕ, suc, ◌<◌}
use native.Mathlib.Omega.{arith}
use native.Mathlib.Decide.{dec_lt}
use mathlib.Core.Path.{◌≡◌, refl, sym, ap, ◌∙◌}
use mathlib.Core.Bool.{true, ◌&&◌}
use mathlib.Core.List.{List, [], ◌∷◌}
use lib.Dec.{eqb, ltb}
use lib.ListN.{get_or}
use borrow.Author.Tests.{lt-ltb, le-ltb, le-leb, lt-leb}
use Rattle.std.specs.Option.{IsSome, unwrap_or}
use Rattle.std.specs.Prelude.{Option, Some, None}
use Rattle.base_lists.proofs.Finding.{first_same}
use Rattle.survey_datums.specs.routing.Chains.{distance, next, route, route_from}
use Rattle.survey_datums.specs.routing.Tables.{entry, distances, card_of, next_in, length_in}
use Rattle.survey_datums.proofs.routing.Filling.{at_listed}
use Rattle.survey_datums.proofs.routing.Fewest.{next_nearer}

-- the walk stands at a datum, with so many shifts left of a shortest route
pub record Walk (t : List (List ℕ)) (target left a i : ℕ) : Type 0 where
  pub on_route : target ≡ get_or (route (entry t) left a) i 0
  pub there : a < 9
  pub few : left < 9
  pub far : 0 < left → distance (entry t) a ≡ left

module _ (t : List (List ℕ)) (shifts : List ℕ) (known : shifts ≡ distances t) where
  -- the scan finds the next datum of the route
  pub next-found : (row : List ℕ) (n a : ℕ) → ((b : ℕ) → get_or row b 0 ≡ entry t a b) → next_in row shifts n ≡ next (entry t) n a
  unfolding next_in next distances
  next-found row n a e = first_same (λ b. ltb 0 (get_or row b 0) && eqb (get_or shifts b 0) n)
      (λ b. ltb 0 (entry t a b) && eqb (distance (entry t) b) n) 9
      (λ b l. rw (e b, known, at_listed (distance (entry t)) 9 b 0 l))

  -- where the walk begins
  pub walk_begins : (a i : ℕ) → a < 9 → (left : ℕ) → left ≡ length_in shifts a → Walk t (card_of t a i) left a i
  unfolding card_of route_from route length_in distances
  walk_begins a i l left q =
      let e : get_or shifts a 0 ≡ distance (entry t) a = ap (λ s. get_or s a 0) known ∙ at_listed (distance (entry t)) 9 a 0 l in
      elim (dec_lt (distance (entry t) a) 9) [
        | yes m ↦
            let k : left ≡ distance (entry t) a = q ∙ rw (e, lt-leb 9 (distance (entry t) a) m) in
            record {
              on_route = rw (k, lt-ltb (distance (entry t) a) 9 m);
              there = l;
              few = omega (arith, k);
              far = λ p. sym k;
            }
        | no m ↦
            let k : left ≡ 0 = q ∙ rw (e, le-leb 9 (distance (entry t) a) (omega arith)) in
            record {
              on_route = rw (k, le-ltb (distance (entry t) a) 9 (omega arith));
              there = l;
              few = omega (arith, k);
              far = λ p. absurd (omega (arith, k));
            }
      ]

  module _ (target left a i : ℕ) (so_far : Walk t target left a i) where
    -- at its end
    pub walk_ends : left ≡ 0 → 0 ≡ target
    unfolding route
    walk_ends e = sym (so_far.on_route ∙ ap (λ n. get_or (route (entry t) n a) i 0) e)

    module _ (n : ℕ) (one : left ≡ suc n) (r : Option ℕ) (found : unwrap_or r 9 ≡ next_in (get_or t a []) shifts n)
      where
        goes : (next (entry t) n a < 9) × (ltb 0 (entry t a (next (entry t) n a)) ≡ true)
            × (distance (entry t) (next (entry t) n a) ≡ n)
        goes =
            let e = so_far.far (omega arith) ∙ one in
            next_nearer (entry t) a so_far.there n e (omega (arith, e, so_far.few))

        at_next : unwrap_or r 9 ≡ next (entry t) n a
        unfolding entry
        at_next = found ∙ next-found (get_or t a []) n a (λ b. refl)

        -- there is a next datum
        pub walk_goes : IsSome r
        walk_goes = go r at_next
          where
            go : (r : Option ℕ) → unwrap_or r 9 ≡ next (entry t) n a → IsSome r
            go None e = absurd (omega (arith, e, goes.0))
            go (Some b) e = refl

        module _ (b : ℕ) (is : r ≡ Some b) where
          at : b ≡ next (entry t) n a
          at = ap (λ o. unwrap_or o 9) (sym is) ∙ at_next

          stepped : target ≡ get_or (entry t a b ∷ route (entry t) n b) i 0
          unfolding route
          stepped = rw at (so_far.on_route ∙ ap (λ m. get_or (route (entry t) m a) i 0) one)

          pub next_there : b < 9
          next_there = omega (arith, at, goes.0)

          pub walk_here : i ≡ 0 → get_or (get_or t a []) b 0 ≡ target
          unfolding entry
          walk_here e = sym (stepped ∙ ap (λ k. get_or (entry t a b ∷ route (entry t) n b) k 0) e)

          pub walk_on : (k : ℕ) → i ≡ suc k → Walk t target n b k
          walk_on k e = record {
            on_route = stepped ∙ ap (λ j. get_or (entry t a b ∷ route (entry t) n b) j 0) e;
            there = next_there;
            few = omega (arith, so_far.few);
            far = λ p. rw at goes.2;
          }
