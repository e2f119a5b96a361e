-- How much of a lent list the code writes. No promise to a caller cites this.
use Rattle.std.specs.Prelude.{ℕ, ◌*◌, ◌/◌, cond, leb}

unfoldable pub room_in : ℕ → ℕ
room_in n = cond (leb 81 n) 81 (n / 9 * 9)
