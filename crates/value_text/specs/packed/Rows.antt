-- How the code looks at a card's bytes: in five rows of sixteen at a time. No promise to a caller cites this.
use Rattle.std.specs.Prelude.{ℕ, zero, suc, ◌+◌, List, Bool, true, ◌&&◌, length, eqb}
use Rattle.value_text.specs.printable.Bytes.{good_at}

-- in each of a card's five rows of sixteen bytes those up to a place are all within
unfoldable pub good_to : List ℕ → ℕ → Bool
good_to s zero = true
good_to s (suc i) = good_to s i && (((good_at s i && good_at s (i + 16)) && (good_at s (i + 32) && good_at s (i + 48))) && good_at s (i + 64))

-- a whole card with none outside
unfoldable pub good_card : List ℕ → Bool
good_card s = eqb (length s) 80 && good_to s 16
