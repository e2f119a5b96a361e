-- Distances level by level: those of at most n shifts are known after n levels.
-- Assumes nothing.
use Prim.Native.Nat.{ℕ, suc, ◌+◌, ◌≤◌, ◌<◌}
use native.Mathlib.Omega.{arith}
use native.Mathlib.Decide.{dec_lt}
use native.Mathlib.Numerals.{add-one}
use mathlib.Core.Path.{◌≡◌, refl, sym, ap, ◌∙◌}
use mathlib.Core.Bool.{Bool, true, false, ◌&&◌, cond, true≢false}
use mathlib.Core.List.{List, [], ◌∷◌, map}
use lib.Dec.{eqb, ltb}
use lib.ListN.{get_or}
use borrow.Author.Tests.{lt-ltb, le-ltb, ltb-true, ltb-false, eq-eqb, ne_eqb}
use Rattle.base_lists.specs.Count.{first, first_from}
use Rattle.base_lists.specs.Parts.{up_to}
use Rattle.base_lists.proofs.Finding.{first_same, first_le, first-least, first_passes, first_below, first_unique, first-none}
use Rattle.base_digits.proofs.digits.Bools.{and_left, and_right}
use Rattle.survey_datums.specs.routing.Chains.{reach, distance}
use Rattle.survey_datums.specs.routing.Tables.{entry, distances, next_in, further_by, further}
use Rattle.survey_datums.proofs.routing.Filling.{at_listed, listed_same}
use Rattle.survey_datums.proofs.routing.Steps.{known_stays, now_known, not_yet}

module _ (g : ℕ → ℕ → ℕ) where
  -- a datum by the lengths of its chains
  abbrev pub led : ℕ → ℕ → Bool
  led a n = reach g n a

  -- a shift to a datum that a chain leads on from
  pub reach_by : (n a b : ℕ) → b < 9 → ltb 0 (g a b) ≡ true → reach g n b ≡ true → reach g (suc n) a ≡ true
  unfolding reach
  reach_by n a b l e q =
      let p : (ltb 0 (g a b) && reach g n b) ≡ true = rw (e, q) in
      lt-ltb (first (λ d. ltb 0 (g a d) && reach g n d) 9) 9 (omega (arith, first-least (λ d. ltb 0 (g a d) && reach g n d) 9 b p))

  -- and where a chain goes next
  pub reach-next : (n a : ℕ) → reach g (suc n) a ≡ true → (b : ℕ) × (b < 9) × (ltb 0 (g a b) ≡ true) × (reach g n b ≡ true)
  unfolding reach
  reach-next n a e =
      let p : ℕ → Bool = λ d. ltb 0 (g a d) && reach g n d in
      let l = ltb-true (first p 9) 9 e in
      let q = first_passes p 9 l in
      (first p 9, l, and_left (ltb 0 (g a (first p 9))) (reach g n (first p 9)) q, and_right (ltb 0 (g a (first p 9))) (reach g n (first p 9)) q)

  -- the shifts of a datum that are known after n levels
  unfoldable pub within : ℕ → ℕ → ℕ
  within n a = cond (ltb (first (led a) (suc n)) (suc n)) (first (led a) (suc n)) 9

  pub within-some : (n a m : ℕ) → m ≤ n → led a m ≡ true → ((j : ℕ) → j < m → led a j ≡ false) → within n a ≡ m
  unfolding within
  within-some n a m l e none =
      let q : first (led a) (suc n) ≡ m = first_unique (led a) (suc n) m (omega arith) e none in
      rw (q, lt-ltb m (suc n) (omega arith))

  pub within_none : (n a : ℕ) → ((j : ℕ) → j < suc n → led a j ≡ false) → within n a ≡ 9
  unfolding within
  within_none n a none =
      let q : first (led a) (suc n) ≡ suc n = first-none (led a) (suc n) none in
      rw (q, le-ltb (suc n) (suc n) (omega arith))

  -- at a datum to which one with no shifts yet is joined, those with n shifts are those that n shifts lead on from
  fresh : (n a b : ℕ) → n < 9 → b < 9 → ((j : ℕ) → j < suc n → led a j ≡ false)
      → (ltb 0 (g a b) && eqb (within n b) n) ≡ (ltb 0 (g a b) && reach g n b)
  unfolding within
  fresh n a b small l none = go (ltb 0 (g a b)) refl
    where
      go : (x : Bool) → ltb 0 (g a b) ≡ x → (x && eqb (within n b) n) ≡ (x && reach g n b)
      go false e = refl
      go true e = at (reach g n b) refl
        where
          at : (y : Bool) → reach g n b ≡ y → eqb (within n b) n ≡ reach g n b
          at true q = eq-eqb (within n b) n (within-some n b n (omega arith) q
              (λ j k. before j k (led b j) refl)) ∙ sym q
            where
              before : (j : ℕ) → j < n → (z : Bool) → led b j ≡ z → z ≡ false
              before j k false r = refl
              before j k true r = absurd (true≢false (sym (reach_by j a b l e r) ∙ none (suc j) (omega arith)))
          at false q = ne_eqb (within n b) n (λ r. other r) ∙ sym q
            where
              other : within n b ≡ n → ⊥
              other r = elim (dec_lt (first (led b) (suc n)) (suc n)) [
                | yes k ↦
                    let m : first (led b) (suc n) ≡ n = rw (lt-ltb (first (led b) (suc n)) (suc n) k) at r in
                    true≢false (sym (first_passes (led b) (suc n) k) ∙ ap (led b) m ∙ q)
                | no k ↦ let m : 9 ≡ n = rw (le-ltb (first (led b) (suc n)) (suc n) (omega arith)) at r in omega arith
              ]

module _ (t : List (List ℕ)) where
  -- what is known of all datums after n levels
  abbrev pub known : ℕ → List ℕ
  known n = map (within (entry t) n) (up_to 9)

  -- before the first, only datum 1
  pub level_first : 0 ∷ 9 ∷ 9 ∷ 9 ∷ 9 ∷ 9 ∷ 9 ∷ 9 ∷ 9 ∷ [] ≡ known 0
  unfolding within reach first first_from up_to
  level_first = refl

  next_as : (n a : ℕ) → n < 8 → ((j : ℕ) → j < suc n → led (entry t) a j ≡ false)
      → next_in (get_or t a []) (known n) n ≡ first (λ b. ltb 0 (entry t a b) && reach (entry t) n b) 9
  unfolding next_in entry
  next_as n a small none = first_same (λ b. ltb 0 (entry t a b) && eqb (get_or (known n) b 0) n)
      (λ b. ltb 0 (entry t a b) && reach (entry t) n b) 9
      (λ b l. ap (λ x. ltb 0 (entry t a b) && eqb x n) (at_listed (within (entry t) n) 9 b 0 l) ∙ fresh (entry t) n a b (omega arith) l none)

  one_datum : (n a : ℕ) → n < 8 → a < 9 → further_by (get_or t a []) (known n) n (get_or (known n) a 0) ≡ within (entry t) (suc n) a
  unfolding reach
  one_datum n a small l =
      ap (further_by row (known n) n) (at_listed (within (entry t) n) 9 a 0 l)
      ∙ elim (dec_lt m (suc n)) [
        | yes k ↦
            let passes = first_passes p (suc n) k in
            let few : (m ≡ 9 → ⊥) = λ e. omega arith in
            ap (further_by row (known n) n) (within-some (entry t) n a m (omega arith) passes (first_below p (suc n)))
            ∙ sym (known_stays row (known n) n m few)
            ∙ sym (within-some (entry t) (suc n) a m (omega arith) passes (first_below p (suc n)))
        | no k ↦
            let none : (j : ℕ) → j < suc n → p j ≡ false = λ j i. first_below p (suc n) j (omega arith) in
            ap (further_by row (known n) n) (within_none (entry t) n a none) ∙ new none (ltb (first (to n) 9) 9) refl
      ]
    where
      row : List ℕ
      row = get_or t a []

      p : ℕ → Bool
      p = led (entry t) a

      m : ℕ
      m = first p (suc n)

      to : ℕ → ℕ → Bool
      to k b = ltb 0 (entry t a b) && reach (entry t) k b

      new : ((j : ℕ) → j < suc n → p j ≡ false) → (x : Bool) → ltb (first (to n) 9) 9 ≡ x → further_by row (known n) n 9 ≡ within (entry t) (suc n) a
      new none true k =
          sym (now_known row (known n) n 9 (first (to n) 9) (sym (next_as n a small none)) refl (ltb-true (first (to n) 9) 9 k))
          ∙ (let q : 1 + n ≡ suc n = omega arith in q)
          ∙ sym (within-some (entry t) (suc n) a (suc n) (omega arith) k none)
      new none false k =
          let far = ltb-false (first (to n) 9) 9 k in
          sym (not_yet row (known n) n 9 (first (to n) 9) (sym (next_as n a small none)) (λ l. omega arith) refl)
          ∙ sym (within_none (entry t) (suc n) a (λ j i. elim (dec_lt j (suc n)) [
            | yes e ↦ none j e
            | no e ↦ let q : j ≡ suc n = omega arith in ap p q ∙ k
          ]))

  -- one level more
  pub level_next : (n : ℕ) → n < 8 → (s : List ℕ) → s ≡ known n → (r : List ℕ) → r ≡ further t s n → r ≡ known (n + 1)
  unfolding further
  level_next n small s e r q = q ∙ ap (λ l. further t l n) e ∙ rw (add-one n)
      (listed_same (λ a. further_by (get_or t a []) (known n) n (get_or (known n) a 0)) (within (entry t) (suc n)) 9 (λ a l. one_datum n a small l))

  -- after the last, all
  pub level_last : (n : ℕ) → n ≡ 8 → (s : List ℕ) → s ≡ known n → s ≡ distances t
  unfolding distances distance within
  level_last n is s e = e ∙ ap known is ∙ listed_same (within (entry t) 8) (distance (entry t)) 9 (λ a l. elim (dec_lt (first (led (entry t) a) 9) 9) [
    | yes k ↦ rw (lt-ltb (first (led (entry t) a) 9) 9 k)
    | no k ↦ rw (le-ltb (first (led (entry t) a) 9) 9 (omega arith)) (let q : 9 ≡ first (led (entry t) a) 9 = omega (arith, first_le (led (entry t) a) 9) in q)
  ])
