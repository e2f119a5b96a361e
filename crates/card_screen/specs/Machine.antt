-- A machine that looks at each column of a card once. What one more byte makes of its state goes by the byte's class and the role of
-- its column. No promise to a caller cites this: the machine may only spare judging a card.
use Rattle.std.specs.Prelude.{ℕ, zero, suc, ◌+◌, ◌-◌, ◌*◌, ◌/◌, ◌%◌, ◌^◌, ◌<◌, ◌≡◌, List, [], ◌∷◌, Bool, cond, ◌||◌, ◌&&◌, eqb, leb, length, get_or}
use Rattle.base_digits.specs.digits.Figures.{is_digit}

-- the class of a byte: 0 a blank, 1 a sign, 2 a point, 3 to 12 the digits, 13 any other
unfoldable pub class_of : ℕ → ℕ
class_of b = cond (eqb b 32) 0 (cond (eqb b 43 || eqb b 45) 1 (cond (eqb b 46) 2 (cond (is_digit b) (b - 45) 13)))

-- the class of a digit, of one from 0 up to n, and of just n
abbrev pub figure : ℕ → Bool
figure c = leb 3 c && leb c 12

abbrev pub up_to : ℕ → ℕ → Bool
up_to n c = leb 3 c && leb c (n + 3)

abbrev pub just : ℕ → ℕ → Bool
just n c = eqb c (n + 3)

-- The states, each the place of its six bits in a row: 0 blank so far, 8 the same of a field that is needed, 16 a sign, or the first
-- digit of a number from 300 to 360, 24 digits or text, 32 a point without digits, or the digits of 360, 40 a point and digits, or the
-- digits of a number with a limit, 48 only zeros where a number is from 1 up, 56 not sure. A field may end in three of them.
abbrev pub ends : ℕ → Bool
ends q = eqb q 0 || (eqb q 24 || eqb q 40)

-- a blank: nothing but blanks may stand before it
abbrev pub blanked : ℕ → ℕ
blanked q = cond (eqb q 0) 0 (cond (eqb q 8) 8 56)

abbrev pub signed : ℕ → ℕ
signed q = cond (eqb q 0) 16 56

abbrev pub pointed : ℕ → ℕ
pointed q = cond (eqb q 0 || eqb q 16) 32 (cond (eqb q 24) 40 56)

abbrev pub counted : ℕ → ℕ
counted q = cond (eqb q 32 || eqb q 40) 40 (cond (eqb q 56) 56 24)

-- one more column of a decimal
unfoldable pub decimal_by : ℕ → ℕ → ℕ
decimal_by c q =
    cond (eqb c 0) (cond (eqb q 0) 0 56)
    (cond (eqb c 1) (signed q) (cond (eqb c 2) (pointed q) (cond (figure c) (counted q) 56)))

-- of a text
abbrev pub line_by : ℕ → ℕ → ℕ
line_by c q = cond (eqb q 24) 24 (cond (eqb c 0) (cond (eqb q 0) 0 56) 56)

-- of a whole number from 0 up
abbrev pub digits_by : ℕ → ℕ → ℕ
digits_by c q = cond (eqb c 0) (blanked q) (cond (figure c) 24 56)

-- of a whole number from 1 up
abbrev pub counting_by : ℕ → ℕ → ℕ
counting_by c q = cond (eqb c 0) (blanked q) (cond (just 0 c) (cond (eqb q 24) 24 48) (cond (figure c) 24 56))

-- of a whole number up to 360, or, behind a 0 or a 1, up to 11
abbrev pub limited_by : ℕ → ℕ → ℕ
limited_by c q =
    cond (eqb c 0) (cond (eqb q 0) 0 56)
    (cond (eqb q 16) (cond (up_to 5 c) 40 (cond (just 6 c) 32 56))
    (cond (eqb q 32) (cond (just 0 c) 40 56) (cond (eqb q 24) (cond (up_to 1 c) 24 56) (cond (figure c) 40 56))))

-- The roles of a column that no field covers, and of the first column of a field; there the machine asks whether what came before may
-- end. 0 no field, 1 a text, 2 one that is needed, 4 a decimal, 6 and 8 whole numbers from 0 and from 1 up that are needed, 10 up to 1,
-- 11 up to 360, 13 and 14 from 0 and from 1 up, 15 up to 4.
abbrev pub begins : ℕ → Bool
begins role =
    eqb role 0 || (eqb role 1 || (eqb role 2 || (eqb role 4 || (eqb role 6 || (eqb role 8 || (eqb role 10 || (eqb role 11 || leb 13 role)))))))

unfoldable pub first_by : ℕ → ℕ → ℕ
first_by role c =
    cond (eqb role 0) (cond (eqb c 0) 0 56)
    (cond (eqb role 1) (cond (eqb c 0) 0 24)
    (cond (eqb role 2) (cond (eqb c 0) 56 24)
    (cond (eqb role 4) (decimal_by c 0)
    (cond (eqb role 6) (digits_by c 8)
    (cond (eqb role 8) (counting_by c 8)
    (cond (eqb role 10) (cond (eqb c 0) 0 (cond (up_to 1 c) 24 56))
    (cond (eqb role 11) (cond (eqb c 0) 0 (cond (up_to 2 c) 40 (cond (just 3 c) 16 56)))
    (cond (eqb role 13) (digits_by c 0)
    (cond (eqb role 14) (counting_by c 0) (cond (eqb c 0) 0 (cond (up_to 4 c) 24 56)))))))))))

-- the roles of the columns behind it: 3 of a text, 5 a decimal, 7 and 9 whole numbers from 0 and from 1 up, 12 with a limit
unfoldable pub later_by : ℕ → ℕ → ℕ → ℕ
later_by role c q =
    cond (eqb role 3) (line_by c q)
    (cond (eqb role 5) (decimal_by c q) (cond (eqb role 7) (digits_by c q) (cond (eqb role 9) (counting_by c q) (limited_by c q))))

-- one more column by its role and its byte's class: where the machine is not sure it stays so
unfoldable pub step_by : ℕ → ℕ → ℕ → ℕ
step_by role c q = cond (eqb q 56) 56 (cond (begins role) (cond (ends q) (first_by role c) 56) (later_by role c q))

unfoldable pub step : ℕ → ℕ → ℕ → ℕ
step role b q = step_by role (class_of b) q

-- a row of the table: the next state for each of the eight
unfoldable pub row_at : ℕ → ℕ
row_at i =
    step_by (i % 16) (i / 16) 0
    + 256 * (step_by (i % 16) (i / 16) 8
    + 256 * (step_by (i % 16) (i / 16) 16
    + 256 * (step_by (i % 16) (i / 16) 24
    + 256 * (step_by (i % 16) (i / 16) 32
    + 256 * (step_by (i % 16) (i / 16) 40 + 256 * (step_by (i % 16) (i / 16) 48 + 256 * step_by (i % 16) (i / 16) 56))))))

-- the table that the code walks by: for each byte the place of its class's rows, and behind these the rows
pub record Built (table : List ℕ) : Type 0 where
  pub size : length table ≡ 512
  pub bytes_are : (b : ℕ) → b < 256 → get_or table b 0 ≡ 256 + 16 * class_of b
  pub rows_are : (i : ℕ) → i < 256 → get_or table (256 + i) 0 ≡ row_at i

-- columns with a role each, from a state on
unfoldable pub runs : List ℕ → List ℕ → ℕ → ℕ
runs [] t q = q
runs (r ∷ rs) [] q = q
runs (r ∷ rs) (b ∷ t) q = runs rs t (step r b q)

-- sixteen columns, their roles a hexadecimal digit each of one number, the first lowest: the state behind i of them
unfoldable pub run_to : List ℕ → ℕ → ℕ → ℕ → ℕ → ℕ
run_to s from roles q zero = q
run_to s from roles q (suc i) = step (roles / 16 ^ i % 16) (get_or s (from + i) 0) (run_to s from roles q i)
