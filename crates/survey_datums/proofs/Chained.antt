-- Routes and chains: a route is a chain, no chain is shorter, and there is none where there is no route. At each step the route
-- goes to the lowest next datum that keeps it shortest, by the lowest card, and never to the same datum.
use Prim.Native.Nat.{ℕ, zero, suc, ◌+◌, ◌-◌, ◌≤◌, ◌<◌}
use native.Mathlib.Omega.{arith}
use native.Mathlib.Decide.{dec_lt, ℕ_discrete}
use mathlib.Core.Path.{◌≡◌, refl, sym, ap, subst, ◌∙◌}
use mathlib.Core.Logic.{◌↔◌}
use mathlib.Core.Bool.{Bool, true, true≢false}
use mathlib.Core.List.{List, [], ◌∷◌, map}
use lib.Dec.{ltb}
use lib.ListN.{length, get_or}
use borrow.Author.Tests.{eq-eqb, ne_eqb, eqb-true, lt-ltb, le-ltb}
use Rattle.base_lists.specs.Count.{first}
use Rattle.base_lists.specs.Parts.{up_to}
use Rattle.base_lists.proofs.Finding.{first_le, first-least, first_passes}
use Rattle.header_check.specs.forms.Cards.{cards_in}
use Rattle.survey_datums.specs.routing.Chains.{reach, distance, next, route, route_from}
use Rattle.survey_datums.specs.routing.Tables.{entry}
use Rattle.survey_datums.proofs.routing.Filling.{at_listed}
use Rattle.survey_datums.proofs.routing.Levels.{reach_by}
use Rattle.survey_datums.proofs.routing.Fewest.{distance_least, distance_reached, next_nearer, next_lowest}
use Rattle.survey_datums.specs.Datums.{joins, first_number, joining_to, joining, joining_table}
use Rattle.survey_datums.specs.Chains.{Joined, Chain}

module _ (h : List ℕ) where
  -- the lowest joining cards as a function
  abbrev pub by : ℕ → ℕ → ℕ
  by = entry (joining_table h)

  pub by_lowest : (a b : ℕ) → a < 9 → b < 9 → by a b ≡ joining h a b
  unfolding entry joining_table
  by_lowest a b l m =
      ap (λ row. get_or row b 0) (at_listed (λ d. map (joining h d) (up_to 9)) 9 a [] l) ∙ at_listed (joining h a) 9 b 0 m

  -- a card that joins two different datums, and the lowest that does
  pub lowest_joins : (a b : ℕ) → b < 9 → ltb 0 (joining h a b) ≡ true → (a ≡ b → ⊥) × Joined h (joining h a b) a b
  unfolding joining joining_to first_number
  lowest_joins a b m e = elim (ℕ_discrete a b) [
    | yes q ↦ absurd (true≢false (sym e ∙ rw (eq-eqb a b q)))
    | no q ↦ elim (dec_lt (first p n) n) [
      | yes l ↦
          let is : joining h a b ≡ first p n + 1 = rw (ne_eqb a b q, lt-ltb (first p n) n l) in
          let back : first p n + 1 - 1 ≡ first p n = omega arith in (
            q,
            subst (λ k. Joined h k a b) (sym is) (record {
              first_card = omega arith;
              last_card = omega arith;
              next_datum = m;
              joins_them = rw back (first_passes p n l);
            }),
          )
      | no l ↦ absurd (true≢false (sym e ∙ rw (ne_eqb a b q, le-ltb (first p n) n (omega arith))))
    ]
  ]
    where
      p : ℕ → Bool
      p = joins h a b

      n : ℕ
      n = cards_in h

  pub lowest_card : (a b c : ℕ) → (a ≡ b → ⊥) → Joined h c a b → (ltb 0 (joining h a b) ≡ true) × (joining h a b ≤ c)
  unfolding joining joining_to first_number
  lowest_card a b c other j =
      let l = first-least (joins h a b) (cards_in h) (c - 1) j.joins_them in
      let below : first (joins h a b) (cards_in h) < cards_in h = omega (arith, j.first_card, j.last_card, l) in
      rw (ne_eqb a b other, lt-ltb (first (joins h a b) (cards_in h)) (cards_in h) below)
      (lt-ltb 0 (first (joins h a b) (cards_in h) + 1) (omega arith), omega (arith, l, j.first_card))

  -- a chain of any length, and one that goes by the lowest cards
  chain_reaches : (cs : List ℕ) (a : ℕ) → a < 9 → Chain h a cs → (n : ℕ) × (n ≤ length cs) × (reach by n a ≡ true)
  unfolding reach
  chain_reaches [] a l e = (0, omega arith, eq-eqb a 0 e)
  chain_reaches (c ∷ cs) a l w =
      let j = w.1 in
      let r = chain_reaches cs w.0 j.next_datum w.2 in
      elim (ℕ_discrete a w.0) [
        | yes q ↦ (r.0, omega (arith, r.1), subst (λ d. reach by r.0 d ≡ true) (sym q) r.2)
        | no q ↦
            let k = (lowest_card a w.0 c q j).0 in (
              suc r.0,
              omega (arith, r.1),
              reach_by by r.0 a w.0 j.next_datum (ap (ltb 0) (by_lowest a w.0 l j.next_datum) ∙ k) r.2,
            )
      ]

  -- a route is a chain of as many cards
  pub route_chain : (n a : ℕ) → a < 9 → n < 9 → distance by a ≡ n → Chain h a (route by n a)
  unfolding route reach
  route_chain zero a l small e = eqb-true a 0 (subst (λ k. reach by k a ≡ true) e (distance_reached by a (omega (arith, e))))
  route_chain (suc n) a l small e =
      let w = next_nearer by a l n e (omega (arith, e)) in
      let b = next by n a in
      let is = by_lowest a b l w.0 in (
        b,
        subst (λ k. Joined h k a b) (sym is) (lowest_joins a b w.0 (ap (ltb 0) (sym is) ∙ w.1)).1,
        route_chain n b w.0 (omega arith) w.2,
      )

  pub route-length : (n a : ℕ) → length (route by n a) ≡ n
  unfolding route
  route-length zero a = refl
  route-length (suc n) a = ap suc (route-length n (next by n a))

  module _ (a : ℕ) (there : a < 9) where
    -- no chain is shorter than the distance
    pub no_shorter : (cs : List ℕ) → Chain h a cs → distance by a ≤ length cs
    no_shorter cs w = let r = chain_reaches cs a there w in omega (arith, r.1, (distance_least by a there r.0 r.2).0)

    -- the route that is told is one, and as short
    pub route-told : distance by a < 9 → Chain h a (route_from by a) × (length (route_from by a) ≡ distance by a)
    unfolding route_from
    route-told l = rw (lt-ltb (distance by a) 9 l) (route_chain (distance by a) a there l refl, route-length (distance by a) a)

    -- there is no route exactly if there is no chain
    pub no_route_exactly : (distance by a ≡ 9) ↔ ((cs : List ℕ) → Chain h a cs → ⊥)
    unfolding distance
    no_route_exactly = (
      λ e cs w. let r = chain_reaches cs a there w in omega (arith, e, (distance_least by a there r.0 r.2).1),
      λ none. elim (dec_lt (distance by a) 9) [
        | yes l ↦ absurd (none (route_from by a) (route-told l).0)
        | no l ↦ omega (arith, first_le (λ n. reach by n a) 9)
      ],
    )

    -- each step of a route: to another datum with one shift fewer, the lowest such, by the lowest card that joins them
    pub record Step (n : ℕ) : Type 0 where
      pub to : ℕ
      pub one_fewer : distance by to ≡ n
      pub other : a ≡ to → ⊥
      pub joined : Joined h (joining h a to) a to
      pub lowest_card_of_all : (c : ℕ) → Joined h c a to → joining h a to ≤ c
      pub lowest_datum : (b c : ℕ) → b < to → (a ≡ b → ⊥) → Joined h c a b → distance by b ≡ n → ⊥
      pub goes : route by (suc n) a ≡ joining h a to ∷ route by n to

    pub each_step : (n : ℕ) → distance by a ≡ suc n → distance by a < 9 → Step n
    unfolding route
    each_step n e l =
        let w = next_nearer by a there n e l in
        let b = next by n a in
        let is = by_lowest a b there w.0 in
        let k = lowest_joins a b w.0 (ap (ltb 0) (sym is) ∙ w.1) in
        record {
          to = b;
          one_fewer = w.2;
          other = k.0;
          joined = k.1;
          lowest_card_of_all = λ c j. (lowest_card a b c k.0 j).1;
          lowest_datum = λ d c m o j q.
              next_lowest by a there n d m (ap (ltb 0) (by_lowest a d there j.next_datum) ∙ (lowest_card a d c o j).0) q;
          goes = ap (λ x. x ∷ route by n b) is;
        }
