-- Which bytes may stand on a card, and where the first one stands that may not.
use Rattle.std.specs.Prelude.{ℕ, List, Bool, ◌&&◌, not, length, get_or, leb}
use Rattle.base_lists.specs.Count.{first}

-- a byte from 32 to 126
abbrev pub good_at : List ℕ → ℕ → Bool
good_at s i = leb 32 (get_or s i 0) && leb (get_or s i 0) 126

-- a byte outside
abbrev pub bad_at : List ℕ → ℕ → Bool
bad_at s i = not (good_at s i)

-- the place, from 0, of the first such byte, or the length
unfoldable pub first_bad : List ℕ → ℕ
first_bad s = first (bad_at s) (length s)
