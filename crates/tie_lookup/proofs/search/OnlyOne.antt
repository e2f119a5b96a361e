-- The only number that passes a test, and what becomes of it when further numbers are tested.
use Prim.Native.Nat.{ℕ, ◌+◌, ◌<◌}
use native.Mathlib.Decide.{ℕ_discrete}
use native.Mathlib.Omega.{arith}
use mathlib.Core.Path.{◌≡◌, sym, ap, ◌∙◌}
use mathlib.Core.Bool.{Bool, true}
use borrow.Author.Tests.{eq-eqb, ne_eqb}
use Rattle.base_lists.specs.Count.{count, first}
use Rattle.base_lists.proofs.Counting.{count_split, count_one, count_same}
use Rattle.base_lists.proofs.Finding.{first_passes, first-least, first_same}
use Rattle.tie_laws.proofs.Places.{first-there}
use Rattle.tie_lookup.specs.packed.Borne.{only_of, only_with}

-- nothing more, the first one, or one too many
module _ (found only more here : ℕ) where
  pub with_none : more ≡ 0 → only_with found only more here ≡ only
  unfolding only_with
  with_none z = rw (eq-eqb more 0 z)

  pub with_one : found ≡ 0 → more ≡ 1 → only_with found only more here ≡ here
  unfolding only_with
  with_one z o = rw (z, o)

  pub with_several : (more ≡ 0 → ⊥) → (found + more ≡ 1 → ⊥) → only_with found only more here ≡ 0
  unfolding only_with
  with_several some several = elim (ℕ_discrete found 0) [
    | yes z ↦ rw (ne_eqb more 0 some, z, ne_eqb more 1 (λ o. several (omega arith)))
    | no z ↦ rw (ne_eqb more 0 some, ne_eqb found 0 z)
  ]

-- the only one is the first
pub only-first : (p : ℕ → Bool) (n : ℕ) → count p n ≡ 1 → only_of p n ≡ first p n + 1
unfolding only_of
only-first p n one = rw (eq-eqb (count p n) 1 one)

module _ (p : ℕ → Bool) where
  pub only-is : (n i : ℕ) → count p n ≡ 1 → i < n → p i ≡ true → only_of p n ≡ i + 1
  only-is n i one l e =
      let f = first-least p n i e in
      let q = count_one p n one (first p n) i (omega (arith, f)) l (first_passes p n (omega (arith, f))) e in
      only-first p n one ∙ ap (λ j. j + 1) q

  pub only-not : (n : ℕ) → (count p n ≡ 1 → ⊥) → only_of p n ≡ 0
  unfolding only_of
  only-not n other = rw (ne_eqb (count p n) 1 other)

  -- k numbers more
  pub only_more : (m k : ℕ)
      → only_of p (m + k) ≡ only_with (count p m) (only_of p m) (count (λ i. p (m + i)) k) (m + only_of (λ i. p (m + i)) k)
  only_more m k = elim (ℕ_discrete (count q k) 0) [
    | yes z ↦ before z ∙ sym (with_none (count p m) (only_of p m) (count q k) (m + only_of q k) z)
    | no z ↦ elim (ℕ_discrete (count p m + count q k) 1) [
      | yes o ↦ now_one z o ∙ sym (with_one (count p m) (only_of p m) (count q k) (m + only_of q k) (omega arith) (omega arith))
      | no o ↦
          only-not (m + k) (λ e. o (omega (arith, split)))
          ∙ sym (with_several (count p m) (only_of p m) (count q k) (m + only_of q k) z o)
    ]
  ]
    where
      q : ℕ → Bool
      q i = p (m + i)

      split : count p (m + k) ≡ count p m + count q k
      split = count_split p m k

      before : count q k ≡ 0 → only_of p (m + k) ≡ only_of p m
      before z = elim (ℕ_discrete (count p m) 1) [
        | yes o ↦
            let l = first-there p m (omega arith) in
            let e = first_passes p m l in
            only-is (m + k) (first p m) (omega (arith, split)) (omega arith) e ∙ sym (only-is m (first p m) o l e)
        | no o ↦ only-not (m + k) (λ e. o (omega (arith, split))) ∙ sym (only-not m o)
      ]

      now_one : (count q k ≡ 0 → ⊥) → count p m + count q k ≡ 1 → only_of p (m + k) ≡ m + only_of q k
      now_one z o =
          let one : count q k ≡ 1 = omega arith in
          let l = first-there q k (omega arith) in
          let e = first_passes q k l in
          let a = only-is (m + k) (m + first q k) (omega (arith, split)) (omega arith) e in
          omega (arith, a, only-first q k one)

-- tests that agree on every number below n have the same
pub only_same : (p q : ℕ → Bool) (n : ℕ) → ((i : ℕ) → i < n → p i ≡ q i) → only_of p n ≡ only_of q n
unfolding only_of
only_same p q n h = rw (count_same p q n h, first_same p q n h)
