-- The distance is the least length of any chain, however long: a shortest chain comes to no datum twice, so it has at most eight
-- shifts. And where the route goes next.
-- Assumes nothing.
use Prim.Native.Nat.{ℕ, zero, suc, ◌≤◌, ◌<◌}
use native.Mathlib.Omega.{arith}
use native.Mathlib.Decide.{dec_lt, ℕ_discrete}
use mathlib.Core.Path.{◌≡◌, refl, sym, ap, subst, ◌∙◌}
use mathlib.Core.Bool.{Bool, true, false, ◌&&◌, true≢false}
use lib.Dec.{eqb, ltb}
use borrow.Author.Tests.{eq-eqb, eqb-true}
use Rattle.base_lists.specs.Count.{first}
use Rattle.base_lists.proofs.Counting.{count-all}
use Rattle.base_lists.proofs.Finding.{first_same, first-least, first_passes, first_below, first-none}
use Rattle.base_lists.proofs.Moving.{count_into}
use Rattle.base_digits.proofs.digits.Bools.{and_left, and_right, and_both}
use Rattle.survey_datums.specs.routing.Chains.{reach, distance, next}
use Rattle.survey_datums.proofs.routing.Levels.{led, reach_by, reach-next}

module _ (g : ℕ → ℕ → ℕ) where
  -- the shortest chain of a datum has k shifts
  record Least (k a : ℕ) : Type 0 where
    reaches : led g a k ≡ true
    none : (i : ℕ) → i < k → led g a i ≡ false

  least_of : (n a : ℕ) → reach g n a ≡ true → (first (led g a) (suc n) ≤ n) × Least (first (led g a) (suc n)) a
  least_of n a e =
      let l = first-least (led g a) (suc n) n e in
      (l, record { reaches = first_passes (led g a) (suc n) (omega arith); none = first_below (led g a) (suc n) })

  -- the next datum of a shortest chain has one shift fewer
  least-next : (k a : ℕ) → Least (suc k) a → (b : ℕ) × (b < 9) × (ltb 0 (g a b) ≡ true) × Least k b
  least-next k a s =
      let w = reach-next g k a s.reaches in
      (w.0, w.1, w.2, record { reaches = w.3; none = λ i l. go w i l (led g w.0 i) refl })
    where
      go : (w : (b : ℕ) × (b < 9) × (ltb 0 (g a b) ≡ true) × (reach g k b ≡ true)) (i : ℕ) → i < k → (z : Bool) → led g w.0 i ≡ z → z ≡ false
      go w i l false q = refl
      go w i l true q = absurd (true≢false (sym (reach_by g i a w.0 w.1 w.2 q) ∙ s.none (suc i) (omega arith)))

  -- so each smaller number is the shortest of some datum
  descend : (k a : ℕ) → a < 9 → Least k a → (j : ℕ) → j ≤ k → (b : ℕ) × (b < 9) × Least j b
  descend zero a l s j h = let e : 0 ≡ j = omega arith in (a, l, subst (λ i. Least i a) e s)
  descend (suc k) a l s j h = elim (ℕ_discrete (suc k) j) [
    | yes e ↦ (a, l, subst (λ i. Least i a) e s)
    | no e ↦ let w = least-next k a s in descend k w.0 w.1 w.3 j (omega arith)
  ]

  is_least : ℕ → ℕ → Bool
  is_least j b = led g b j && eqb (first (led g b) j) j

  to-test : (j b : ℕ) → Least j b → is_least j b ≡ true
  unfolding is_least
  to-test j b s = and_both (led g b j) (eqb (first (led g b) j) j) s.reaches (eq-eqb (first (led g b) j) j (first-none (led g b) j s.none))

  of_test : (j b : ℕ) → is_least j b ≡ true → Least j b
  unfolding is_least
  of_test j b e =
      let q : first (led g b) j ≡ j = eqb-true (first (led g b) j) j (and_right (led g b j) (eqb (first (led g b) j) j) e) in
      record { reaches = and_left (led g b j) (eqb (first (led g b) j) j) e; none = λ i l. first_below (led g b) j i (omega arith) }

  one_least : (i j b : ℕ) → Least i b → Least j b → i ≡ j
  one_least i j b s t = elim (dec_lt i j) [
    | yes l ↦ absurd (true≢false (sym s.reaches ∙ t.none i l))
    | no l ↦ elim (dec_lt j i) [ yes m ↦ absurd (true≢false (sym t.reaches ∙ s.none j m)) | no m ↦ omega arith ]
  ]

  -- nine datums, so fewer than nine shifts
  least-few : (k a : ℕ) → a < 9 → Least k a → k < 9
  least-few k a l s = omega (
    arith,
    count-all (λ i. true) (suc k) (λ i h. refl),
    count-all (λ i. true) 9 (λ i h. refl),
    count_into (λ i. true) (suc k) (λ i. true) 9 (λ j. first (is_least j) 9) (record {
      below = λ j h e. let w = descend k a l s j (omega arith) in
          let p = first-least (is_least j) 9 w.0 (to-test j w.0 w.2) in omega (arith, w.1, p);
      passes = λ j h e. refl;
      apart = λ i j h m e f q. one_least i j (first (is_least j) 9) (subst (λ b. Least i b) q (at i (omega arith))) (at j (omega arith));
    }),
  )
    where
      at : (j : ℕ) → j ≤ k → Least j (first (is_least j) 9)
      at j h =
          let w = descend k a l s j h in
          let p = first-least (is_least j) 9 w.0 (to-test j w.0 w.2) in
          of_test j (first (is_least j) 9) (first_passes (is_least j) 9 (omega (arith, w.1, p)))

  -- a chain, however long, is no shorter than the distance, and then there is a route
  pub distance_least : (a : ℕ) → a < 9 → (n : ℕ) → reach g n a ≡ true → (distance g a ≤ n) × (distance g a < 9)
  unfolding distance
  distance_least a there n e =
      let w = least_of n a e in
      let few = least-few (first (led g a) (suc n)) a there w.1 in
      let q = first-least (led g a) 9 (first (led g a) (suc n)) w.1.reaches in
      (omega (arith, w.0, q), omega (arith, few, q))

  -- where there is a route, a chain of as many shifts leads to datum 1
  pub distance_reached : (a : ℕ) → distance g a < 9 → reach g (distance g a) a ≡ true
  unfolding distance
  distance_reached a l = first_passes (led g a) 9 l

  module _ (a : ℕ) (there : a < 9) where
    -- a test of the next datum
    abbrev nearer : ℕ → ℕ → Bool
    nearer n b = ltb 0 (g a b) && eqb (distance g b) n

    some_nearer : (n : ℕ) → distance g a ≡ suc n → distance g a < 9 → (b : ℕ) × (b < 9) × (nearer n b ≡ true)
    some_nearer n e l =
        let w = reach-next g n a (subst (λ k. reach g k a ≡ true) e (distance_reached a l)) in (
          w.0,
          w.1,
          and_both (ltb 0 (g a w.0)) (eqb (distance g w.0) n) w.2 (eq-eqb (distance g w.0) n (exactly w.0 w.1 w.2 w.3)),
        )
      where
        exactly : (b : ℕ) → b < 9 → ltb 0 (g a b) ≡ true → reach g n b ≡ true → distance g b ≡ n
        exactly b k j r =
            let d = distance_least b k n r in
            let u = distance_least a there (suc (distance g b)) (reach_by g (distance g b) a b k j (distance_reached b d.1)) in
            omega (arith, d.0, u.0, e)

    pub next_nearer : (n : ℕ) → distance g a ≡ suc n → distance g a < 9
        → (next g n a < 9) × (ltb 0 (g a (next g n a)) ≡ true) × (distance g (next g n a) ≡ n)
    unfolding next
    next_nearer n e l =
        let w = some_nearer n e l in
        let m = first-least (nearer n) 9 w.0 w.2 in
        let q = first_passes (nearer n) 9 (omega (arith, w.1, m)) in
        let b = first (nearer n) 9 in
        (omega (arith, w.1, m), and_left (ltb 0 (g a b)) (eqb (distance g b) n) q, eqb-true (distance g b) n (and_right (ltb 0 (g a b)) (eqb (distance g b) n) q))

    -- none below it would do
    pub next_lowest : (n b : ℕ) → b < next g n a → ltb 0 (g a b) ≡ true → distance g b ≡ n → ⊥
    unfolding next
    next_lowest n b l e q =
        true≢false (sym (and_both (ltb 0 (g a b)) (eqb (distance g b) n) e (eq-eqb (distance g b) n q)) ∙ first_below (nearer n) 9 b l)

-- chains over cards that join the same datums
module _ (f g : ℕ → ℕ → ℕ) (same : (a b : ℕ) → a < 9 → b < 9 → ltb 0 (f a b) ≡ ltb 0 (g a b)) where
  reach_same : (n a : ℕ) → a < 9 → reach f n a ≡ reach g n a
  unfolding reach
  reach_same zero a l = refl
  reach_same (suc n) a l = ap (λ k. ltb k 9) (first_same (λ b. ltb 0 (f a b) && reach f n b) (λ b. ltb 0 (g a b) && reach g n b) 9
      (λ b h. rw (same a b l h, reach_same n b h)))

  pub distance_same : (a : ℕ) → a < 9 → distance f a ≡ distance g a
  unfolding distance
  distance_same a l = first_same (led f a) (led g a) 9 (λ n h. reach_same n a l)

  pub next_same : (n a : ℕ) → a < 9 → next f n a ≡ next g n a
  unfolding next
  next_same n a l = first_same (λ b. ltb 0 (f a b) && eqb (distance f b) n) (λ b. ltb 0 (g a b) && eqb (distance g b) n) 9
      (λ b h. rw (same a b l h, distance_same b h))
