-- Laws of `first`: the least number below n that passes a test, n where none does.
-- Assumes nothing.
use mathlib.Core.Path.{◌≡◌, refl, sym, ◌∙◌, ap}
use mathlib.Core.Bool.{Bool, true, false, cond, true≢false}
use Prim.Native.Nat.{ℕ, zero, suc, ◌+◌, ◌-◌, ◌≤◌, ◌<◌}
use native.Mathlib.Nat.{sub-zero}
use native.Mathlib.Numerals.{add-one}
use native.Mathlib.Decide.{dec_lt, ℕ_discrete}
use native.Mathlib.Omega.{arith}
use mathlib.Core.List.{List}
use lib.ListN.{length, get_or}
use Rattle.std.specs.List.{position_or_len}
use Rattle.std.specs.Prelude.{Some, None, unwrap_or, position}
use borrow.Author.Tests.{ltb-false}
use lib.Dec.{ltb}
use Rattle.std.proofs.lemmas.List.Sums.{position_or_len_is}
use Rattle.base_lists.specs.Count.{first, first_from}

module _ (p : ℕ → Bool) where
  hit : (k i : ℕ) → p i ≡ true → first_from p (suc k) i ≡ i
  unfolding first_from
  hit k i e = rw e

  miss : (k i : ℕ) → p i ≡ false → first_from p (suc k) i ≡ first_from p k (suc i)
  unfolding first_from
  miss k i e = rw e

  -- the bounds of the answer; what stands before it fails; if it is one of the k numbers it passes
  record Found (k i r : ℕ) : Type 0 where
    from : i ≤ r
    upto : r ≤ i + k
    before : (j : ℕ) → i ≤ j → j < r → p j ≡ false
    passes : r < i + k → p r ≡ true

  found : (k i : ℕ) → Found k i (first_from p k i)
  unfolding first_from
  found zero i = record {
    from = omega arith;
    upto = omega arith;
    before = λ j a b. absurd (omega arith);
    passes = λ a. absurd (omega arith);
  }
  found (suc k) i = go (p i) refl (found k (suc i))
    where
      go : (b : Bool) → p i ≡ b → Found k (suc i) (first_from p k (suc i)) → Found (suc k) i (first_from p (suc k) i)
      go true e f = rw (hit k i e) (record {
        from = omega arith;
        upto = omega arith;
        before = λ j a b. absurd (omega arith);
        passes = λ a. e;
      })
      go false e f = rw (miss k i e) (record {
        from = omega arith;
        upto = omega arith;
        before = λ j a b. elim (ℕ_discrete i j) [ yes q ↦ ap p (sym q) ∙ e | no q ↦ f.before j (omega arith) b ];
        passes = λ a. f.passes (omega arith);
      })

  -- it is at most n
  pub first_le : (n : ℕ) → first p n ≤ n
  unfolding first
  first_le n = omega (arith, found n 0)

  -- what is below it fails
  pub first_below : (n j : ℕ) → j < first p n → p j ≡ false
  unfolding first
  first_below n j h = (found n 0).before j (omega arith) h

  -- if it is below n it passes
  pub first_passes : (n : ℕ) → first p n < n → p (first p n) ≡ true
  unfolding first
  first_passes n h = (found n 0).passes (omega arith)

  -- the one that passes, with nothing below it that does, is the first
  pub first_unique : (n i : ℕ) → i < n → p i ≡ true → ((j : ℕ) → j < i → p j ≡ false) → first p n ≡ i
  first_unique n i h e none = elim (dec_lt (first p n) i) [
    | yes l ↦ absurd (true≢false (sym (first_passes n (omega arith)) ∙ none (first p n) l))
    | no l ↦ elim (dec_lt i (first p n)) [ yes m ↦ absurd (true≢false (sym e ∙ first_below n i m)) | no m ↦ omega arith ]
  ]

  -- where none passes it is n
  pub first-none : (n : ℕ) → ((j : ℕ) → j < n → p j ≡ false) → first p n ≡ n
  first-none n none = elim (dec_lt (first p n) n) [
    | yes l ↦ absurd (true≢false (sym (first_passes n l) ∙ none (first p n) l))
    | no l ↦ omega (arith, first_le n)
  ]

  -- no number that passes is below it
  pub first-least : (n i : ℕ) → p i ≡ true → first p n ≤ i
  first-least n i e = elim (dec_lt i (first p n)) [
    | yes l ↦ absurd (true≢false (sym e ∙ first_below n i l))
    | no l ↦ omega arith
  ]

  -- A loop that counts i up from 0 to n keeps `first p n ≡ first_from p (n - i) i`.

  -- it begins so
  pub begins : (n : ℕ) → first p n ≡ first_from p (n - 0) 0
  unfolding first
  begins n = rw sub-zero

  -- it may stop at i where i passes
  pub stops : (n i : ℕ) → i < n → p i ≡ true → first_from p (n - i) i ≡ i
  stops n i h e = let q : n - i ≡ suc (n - (i + 1)) = omega arith in rw q (hit (n - (i + 1)) i e)

  -- it goes on where i fails
  pub goes : (n i : ℕ) → i < n → p i ≡ false → first_from p (n - i) i ≡ first_from p (n - (i + 1)) (i + 1)
  goes n i h e = let q : n - i ≡ suc (n - (i + 1)) = omega arith in rw (q, add-one i) (miss (n - suc i) i e)

  -- it is over at n
  pub over : (n i : ℕ) → n ≤ i → first_from p (n - i) i ≡ i
  unfolding first_from
  over n i h = let q : n - i ≡ 0 = omega arith in rw q

-- tests that agree on every number below n have the same first
pub first_same : (p q : ℕ → Bool) (n : ℕ) → ((i : ℕ) → i < n → p i ≡ q i) → first p n ≡ first q n
first_same p q n h = elim (dec_lt (first q n) n) [
  | yes l ↦ first_unique p n (first q n) l (h (first q n) l ∙ first_passes q n l) (λ j k. h j (omega arith) ∙ first_below q n j k)
  | no l ↦
      let end : first q n ≡ n = omega (arith, first_le q n) in
      first-none p n (λ j k. h j k ∙ first_below q n j (omega arith)) ∙ sym end
]

-- where the number e passes, or nothing comes from e on, the first below e is the first
pub first_cut : (p : ℕ → Bool) (e n : ℕ) → e ≤ n → (e < n → p e ≡ true) → first p n ≡ first p e
first_cut p e n h stop = elim (dec_lt (first p e) e) [
  | yes l ↦ first_unique p n (first p e) (omega arith) (first_passes p e l) (first_below p e)
  | no l ↦
      let end : first p e ≡ e = omega (arith, first_le p e) in
      elim (dec_lt e n) [
        | yes m ↦ first_unique p n e m (stop m) (λ j k. first_below p e j (omega arith)) ∙ sym end
        | no m ↦ let same : n ≡ e = omega arith in ap (first p) same
      ]
]

-- the first place of a list whose element passes, as `position` and `unwrap_or` answer it
pub first_place : {A : Type 0} (p : A → Bool) (xs : List A) (d : A)
    → unwrap_or (position p xs) (length xs) ≡ first (λ i. p (get_or xs i d)) (length xs)
first_place p xs d =
    let q = λ (i : ℕ). p (get_or xs i d) in
    let n = length xs in
    let e : position_or_len p xs ≡ first q n = position_or_len_is p xs (first q n) d (first_le q n) (first_below q n) (first_passes q n) in
    rw e (read (ltb (first q n) n) (first q n) n refl (first_le q n))
  where
    read : (b : Bool) (k n : ℕ) → ltb k n ≡ b → k ≤ n → unwrap_or (cond b (Some k) None) n ≡ k
    read true k n e l = refl
    read false k n e l = omega (arith, ltb-false k n e, l)
