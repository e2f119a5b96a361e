-- How digits are read: the digits at the front of some columns, and the number that they make.
use Rattle.std.specs.Prelude.{ℕ, suc, ◌+◌, ◌-◌, ◌*◌, min, List, [], ◌∷◌, Bool, cond, ◌&&◌, length, drop, eqb, leb}
use Rattle.base_digits.specs.declared.digits.Run.{Run}

-- the bytes 48 to 57 are the digits 0 to 9
abbrev pub is_digit : ℕ → Bool
is_digit b = leb 48 b && leb b 57

-- how many blanks stand at the front
unfoldable pub blanks : List ℕ → ℕ
blanks [] = 0
blanks (b ∷ s) = cond (eqb b 32) (suc (blanks s)) 0

-- without them
unfoldable pub unpadded : List ℕ → List ℕ
unpadded s = drop (blanks s) s

-- the digits at the front
unfoldable pub leading : List ℕ → List ℕ
leading [] = []
leading (b ∷ s) = cond (is_digit b) (b ∷ leading s) []

-- what stands behind them
unfoldable pub behind : List ℕ → List ℕ
behind s = drop (length (leading s)) s

-- n followed by the digits of s, as one number
unfoldable pub value_from : ℕ → List ℕ → ℕ
value_from n [] = n
value_from n (b ∷ s) = value_from (n * 10 + (b - 48)) s

-- Numbers from here on are not told apart: no column of the paper is so wide.
abbrev pub limit : ℕ
limit = 1000000000000000000

-- a number that has reached the limit stays there
abbrev pub capped : ℕ → ℕ
capped n = min limit n

-- what a walk over the digits at the front of s finds, n being the number before them
abbrev pub run_of : ℕ → List ℕ → Run
run_of n s = record { number = capped (value_from n (leading s)); count = length (leading s) }
