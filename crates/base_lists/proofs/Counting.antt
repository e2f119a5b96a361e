-- Laws of `count`: how many numbers pass a test.
-- Assumes nothing.
use mathlib.Core.Path.{◌≡◌, refl, sym, ap}
use mathlib.Core.Bool.{Bool, true, false}
use Prim.Native.Nat.{ℕ, zero, suc, ◌+◌, ◌*◌, ◌≤◌, ◌<◌}
use native.Mathlib.Nat.{add-zero, add-suc, mul-suc, le_step, le_dest, lt-suc_self, add_assoc}
use native.Mathlib.Numerals.{add-one}
use native.Mathlib.Decide.{dec_lt}
use native.Mathlib.Omega.{arith}
use Rattle.base_lists.specs.Count.{bit, count}

-- a bit is at most 1
pub bit_le : (b : Bool) → bit b ≤ 1
bit_le true = omega arith
bit_le false = omega arith

module _ (p : ℕ → Bool) where
  -- no more pass than there are
  pub count_le : (n : ℕ) → count p n ≤ n
  unfolding count
  count_le zero = omega arith
  count_le (suc n) = omega (arith, count_le n, bit_le (p n))

  -- one number more, for a loop that counts n up
  pub count_more : (n : ℕ) → count p (n + 1) ≡ count p n + bit (p n)
  unfolding count
  count_more n = rw add-one

  -- one that passes
  pub count_hit : (n : ℕ) → p n ≡ true → count p (n + 1) ≡ count p n + 1
  count_hit n e = rw (count_more n, e)

  -- one that fails
  pub count_miss : (n : ℕ) → p n ≡ false → count p (n + 1) ≡ count p n
  count_miss n e = rw (count_more n, e) (add-zero (count p n))

  -- the first m, and the n that follow them
  pub count_split : (m n : ℕ) → count p (m + n) ≡ count p m + count (λ i. p (m + i)) n
  unfolding count
  count_split m zero = rw (add-zero m) (sym (add-zero (count p m)))
  count_split m (suc n) = rw (add-suc m n, count_split m n) (add_assoc _ _ _)

  -- a longer stretch has no fewer
  pub count_mono : (m n : ℕ) → m ≤ n → count p m ≤ count p n
  count_mono m n h =
      let d = le_dest h in
      omega (arith, count_split m d.0, ap (count p) d.1)

  -- where one passes, the count is at least 1
  pub count-some : (n i : ℕ) → i < n → p i ≡ true → 1 ≤ count p n
  count-some n i h e = omega (arith, count_hit i e, count_mono (i + 1) n (omega arith))

  two : (n i j : ℕ) → i < j → j < n → p i ≡ true → p j ≡ true → 2 ≤ count p n
  two n i j h k e f = omega (arith, count-some j i h e, count_hit j f, count_mono (j + 1) n (omega arith))

  -- where the count is 1, two places that pass are one
  pub count_one : (n : ℕ) → count p n ≡ 1 → (i j : ℕ) → i < n → j < n → p i ≡ true → p j ≡ true → i ≡ j
  count_one n one i j h k e f = elim (dec_lt i j) [
    | yes l ↦ absurd (omega (arith, two n i j l k e f))
    | no l ↦ elim (dec_lt j i) [ yes m ↦ absurd (omega (arith, two n j i m h f e)) | no m ↦ omega arith ]
  ]

  -- where all fail, the count is 0
  pub count_none : (n : ℕ) → ((i : ℕ) → i < n → p i ≡ false) → count p n ≡ 0
  unfolding count
  count_none zero h = refl
  count_none (suc n) h = rw (count_none n (λ i l. h i (le_step l)), h n (lt-suc_self n))

  -- where all pass, the count is that of the numbers
  pub count-all : (n : ℕ) → ((i : ℕ) → i < n → p i ≡ true) → count p n ≡ n
  unfolding count
  count-all zero h = refl
  count-all (suc n) h = rw (count-all n (λ i l. h i (le_step l)), h n (lt-suc_self n)) (omega arith)

  -- where the count is 0, all fail
  pub none_pass : (n : ℕ) → count p n ≡ 0 → (i : ℕ) → i < n → p i ≡ false
  none_pass n e i h = go (p i) refl
    where
      go : (b : Bool) → p i ≡ b → p i ≡ false
      go true q = absurd (omega (arith, count-some n i h q))
      go false q = q

-- tests that agree on every number count the same
pub count_same : (p q : ℕ → Bool) (n : ℕ) → ((i : ℕ) → i < n → p i ≡ q i) → count p n ≡ count q n
unfolding count
count_same p q zero h = refl
count_same p q (suc n) h = rw (count_same p q n (λ i l. h i (le_step l)), h n (lt-suc_self n))

-- a stretch where all fail adds nothing
pub count_skip : (p : ℕ → Bool) (m n : ℕ) → m ≤ n → ((i : ℕ) → m ≤ i → i < n → p i ≡ false) → count p n ≡ count p m
count_skip p m n h none =
    let d = le_dest h in
    let rest : count (λ i. p (m + i)) d.0 ≡ 0 = count_none (λ i. p (m + i)) d.0 (λ i l. none (m + i) (omega arith) (omega (arith, d.1))) in
    omega (arith, ap (count p) d.1, count_split p m d.0)

-- one run more of the numbers as runs of `size`
pub count_run : (p : ℕ → Bool) (size c : ℕ) → count p (size * (c + 1)) ≡ count p (size * c) + count (λ j. p (size * c + j)) size
count_run p size c = rw (add-one, mul-suc) (count_split p (size * c) size)
