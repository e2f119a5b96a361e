-- The lines of the tables: which one a `match` picks, and what it holds.
use Prim.Native.Nat.{ℕ, ◌*◌, ◌/◌, ◌≤◌, ◌<◌}
use mathlib.Core.Path.{◌≡◌}
use mathlib.Core.Bool.{false}
use native.Mathlib.Omega.{arith}
use Rattle.format_layout.specs.packed.Rows.{layout_count}
use Rattle.format_layout.proofs.Lines.{Others, above}
use Rattle.format_layout.proofs.Places.{no_fields}
use Rattle.card_screen.specs.Machine.{row_at}
use Rattle.card_screen.specs.Roles.{plain, word_at}

pub same_line_lem : (n q : ℕ) → q ≡ n → row_at n ≡ row_at q
same_line_lem n q e = rw e

pub same_word : (n q : ℕ) → q ≡ n → word_at n ≡ word_at q
same_word n q e = rw e

-- the last byte
pub last_byte : (q : ℕ) → q < 256 → Others 0 255 q → q ≡ 255
last_byte q h o = omega (arith, above 0 255 q (omega arith) o)

-- past the last layout no card is sure
pub past_plain : (k : ℕ) → layout_count ≤ k → plain k ≡ false
unfolding plain
past_plain k h = rw (no_fields k h)

pub past_words : (q : ℕ) → Others 0 (layout_count * 5) q → 0 ≡ word_at q
unfolding word_at
past_words q o = rw (past_plain (q / 5) (omega (arith, above 0 (layout_count * 5) q (omega arith) o)))
