-- What the writing in a buffer asks: the cards that it reads and those that it writes are there, and numbers fit their columns.
use Rattle.std.specs.Prelude.{ℕ, ◌+◌, ◌*◌, ◌^◌, ◌≤◌, ◌<◌, ◌≡◌, true, List, length, take, drop}
use Rattle.volume_form.specs.Rows.{Row}
use Rattle.volume_form.specs.Moved.{laid_at, moved}
use Rattle.volume_form.specs.Marked.{entry_card, count_on}
use Rattle.volume_rules.specs.Sound.{covers}

-- a directory card of the form f, and the first card of its header behind `at` others, for a card of the form g
pub record CardFits (f g : Row) (at card : ℕ) (s : List ℕ) : Type 0 where
  pub header : 80 * at + 80 ≤ length s
  pub entry : 80 * card + 80 ≤ length s
  pub first : 1 + at < 10 ^ g.width
  pub number : count_on f (take 80 (drop (80 * card) s)) < 10 ^ g.width

-- a directory of k cards of the form f that covers so many cards before it, and whose numbers fit the form g
pub record Listed (f g : Row) (body k : ℕ) (s : List ℕ) : Type 0 where
  pub room : 80 * (body + k + 1) ≤ length s
  pub over : covers f 1 (take (80 * body) s) (take (80 * k) (drop (80 * body) s)) k ≡ true
  pub small : body + k + 1 < 10 ^ f.width
  pub small' : body + k + 1 < 10 ^ g.width

-- a line of n cards behind `at` others, to be moved behind `to` others, and a directory card that is to be written
pub record LineFits (f : Row) (at to n card : ℕ) (s : List ℕ) : Type 0 where
  pub some : 1 ≤ n
  pub down : to ≤ at
  pub line : 80 * (at + n) ≤ length s
  pub entry : 80 * card + 80 ≤ length s
  pub first : 1 + to < 10 ^ f.width
  pub number : n < 10 ^ f.width

-- the buffer once that line is kept
unfoldable pub line_kept : Row → ℕ → ℕ → ℕ → ℕ → List ℕ → List ℕ
line_kept f at to n card s =
    laid_at (moved s (80 * at) (80 * to) (80 * n)) (80 * card)
    (entry_card f (drop (80 * to) (moved s (80 * at) (80 * to) (80 * n))) (1 + to) n)

-- so many cards and lines kept of a volume of n cards, of which the headers have so many
pub record Closes (f : Row) (body to j n : ℕ) (s : List ℕ) : Type 0 where
  pub held : 80 * n ≤ length s
  pub down : to ≤ body
  pub lines : body + j + 1 ≤ n
  pub small : n < 10 ^ f.width
