-- The machine's table, as far as it is filled.
use Prim.Native.Nat.{ℕ, ◌+◌, ◌*◌, ◌<◌}
use mathlib.Core.Path.{◌≡◌}
use mathlib.Core.List.{List}
use lib.ListN.{length, get_or}
use Rattle.card_screen.specs.Machine.{class_of, row_at}

-- the array with the first n bytes and the first n rows
pub record Filled (n : ℕ) (table : List ℕ) : Type 0 where
  pub size : length table ≡ 512
  pub bytes_are : (b : ℕ) → b < n → get_or table b 0 ≡ 256 + 16 * class_of b
  pub rows_are : (i : ℕ) → i < n → get_or table (256 + i) 0 ≡ row_at i
