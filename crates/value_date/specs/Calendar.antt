-- The Gregorian calendar, run back to year 1.
use Rattle.std.specs.Prelude.{ℕ, ◌%◌, Bool, cond, ◌&&◌, ◌||◌, not, eqb, leb}
use Rattle.base_value.specs.declared.Date.{Date}

-- every fourth year, but of the full centuries only every fourth
unfoldable pub is_leap : ℕ → Bool
is_leap year = eqb (year % 4) 0 && (not (eqb (year % 100) 0) || eqb (year % 400) 0)

-- April, June, September and November
unfoldable pub is_short : ℕ → Bool
is_short month = (eqb month 4 || eqb month 6) || (eqb month 9 || eqb month 11)

-- how many days a month has
unfoldable pub days_in : ℕ → ℕ → ℕ
days_in year month = cond (eqb month 2) (cond (is_leap year) 29 28) (cond (is_short month) 30 31)

-- a day of the years 1 to 9999
unfoldable pub is_date : Date → Bool
is_date d =
    (leb 1 d.year && leb d.year 9999)
    && ((leb 1 d.month && leb d.month 12) && (leb 1 d.day && leb d.day (days_in d.year d.month)))
