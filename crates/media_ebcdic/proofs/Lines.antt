-- The arms of the tables: which entry a `match` picks.
use Prim.Native.Nat.{ℕ, ◌<◌}
use mathlib.Core.Path.{◌≡◌, sym, ap}
use native.Mathlib.Omega.{arith}
use Rattle.format_layout.proofs.Lines.{Others, above}

-- an arm that names its byte
pub same : (entry : ℕ → ℕ) (k b : ℕ) → b ≡ k → entry k ≡ entry b
same entry k b e = ap entry (sym e)

-- the last arm, which names none
pub last_byte : (b : ℕ) → b < 256 → Others 0 255 b → b ≡ 255
last_byte b h o = omega (arith, above 0 255 b (omega arith) o)
