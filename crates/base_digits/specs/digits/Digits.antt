-- How digits are written.
use Rattle.std.specs.Prelude.{ℕ, zero, suc, ◌+◌, ◌/◌, ◌%◌, List, [], ◌∷◌, ◌++◌, cond, ltb}

-- the last k digits of n
unfoldable pub digits : ℕ → ℕ → List ℕ
digits zero n = []
digits (suc k) n = digits k (n / 10) ++ ((48 + n % 10) ∷ [])

-- how many digits n has, counted up to k of them; zero has one
unfoldable pub size_up_to : ℕ → ℕ → ℕ
size_up_to zero n = 0
size_up_to (suc k) n = cond (ltb n 10) 1 (suc (size_up_to k (n / 10)))

-- how many digits a 64-bit number has
abbrev pub size : ℕ → ℕ
size n = size_up_to 20 n
