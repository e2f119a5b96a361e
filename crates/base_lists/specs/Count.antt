-- How many numbers pass a test, which is the first that does, and what it is to rearrange numbers.
-- Assumes nothing.
use Rattle.std.specs.Prelude.{◌≡◌, Bool, true, false, cond, ℕ, zero, suc, ◌+◌, ◌*◌, ◌/◌, ◌%◌, ◌<◌}

-- 1 for a test that passes, 0 for one that fails
abbrev pub bit : Bool → ℕ
bit true = 1
bit false = 0

-- how many of the numbers below n pass
unfoldable pub count : (ℕ → Bool) → ℕ → ℕ
count p zero = 0
count p (suc n) = count p n + bit (p n)

-- of the k numbers from i on, the first that passes; the number behind them where none does
unfoldable pub first_from : (ℕ → Bool) → ℕ → ℕ → ℕ
first_from p zero i = i
first_from p (suc k) i = cond (p i) i (first_from p k (suc i))

-- the least number below n that passes; n where none does
unfoldable pub first : (ℕ → Bool) → ℕ → ℕ
first p n = first_from p n 0

-- the numbers as runs of `size`, each run moved whole to where f moves its number
unfoldable pub carried : ℕ → (ℕ → ℕ) → ℕ → ℕ
carried size f i = size * f (i / size) + i % size

-- the numbers below n in another order: i goes to the place `to i`, and `from` takes it back
pub record Rearranged (n : ℕ) : Type 0 where
  pub to : ℕ → ℕ
  pub from : ℕ → ℕ
  pub to_below : (i : ℕ) → i < n → to i < n
  pub from_below : (i : ℕ) → i < n → from i < n
  pub from-to : (i : ℕ) → i < n → from (to i) ≡ i
  pub to-from : (i : ℕ) → i < n → to (from i) ≡ i
