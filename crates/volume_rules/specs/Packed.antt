-- What the walk that compacts leaves: the cards that are kept in front, their directory where the old one began, and between and
-- behind them what is of no account. No promise to a caller cites this.
use Rattle.std.specs.Prelude.{ℕ, ◌+◌, ◌*◌, ◌≡◌, List, ◌++◌, length}
use Rattle.volume_form.specs.Rows.{Row}
use Rattle.volume_rules.specs.Volume.{joined, directory}
use Rattle.volume_rules.specs.Sound.{headers_in}
use Rattle.volume_rules.specs.Latest.{latest}
use Rattle.volume_rules.specs.SameLine.{same_line}

-- b are the c cards of the headers, d their k directory cards, r what follows; s is the buffer now, `to` cards and j lines are kept
pub record Packed (f : Row) (b d r : List ℕ) (c k : ℕ) (s : List ℕ) (to j : ℕ) : Type 0 where
  pub gap : List ℕ
  pub hole : List ℕ
  pub cards : length (joined (latest same_line (headers_in f b d k))) ≡ 80 * to
  pub lines : length (latest same_line (headers_in f b d k)) ≡ j
  pub listed : length (directory f 1 (latest same_line (headers_in f b d k))) ≡ 80 * j
  pub gap_is : 80 * to + length gap ≡ 80 * c
  pub hole-is : 80 * j + length hole ≡ 80 * k
  pub is : s ≡ joined (latest same_line (headers_in f b d k)) ++ (gap ++ (directory f 1 (latest same_line (headers_in f b d k)) ++ (hole ++ r)))
