-- One step over a directory, and what is known of a volume's cards while it is judged.
use Rattle.std.specs.Prelude.{ℕ, ◌+◌, ◌-◌, ◌*◌, ◌/◌, ◌≤◌, ◌≡◌, List, Bool, true, cond, ◌&&◌, length, take, drop, leb, Result, Ok, Err}
use Rattle.base_refusal.specs.Refusals.{refusal}
use Rattle.volume_form.specs.Rows.{Row}
use Rattle.volume_form.specs.Marked.{count_on, start_on}
use Rattle.volume_rules.specs.Sound.{enters, points, last_card}
use Rattle.volume_check.specs.declared.LinePlace.{LinePlace}
use Rattle.base_refusal.specs.declared.Refusal.{Refusal}
use Rattle.volume_check.specs.Lines.{line_place}

-- how many cards a directory card tells, 0 where it is not the one of the header that begins b
unfoldable pub entered : Row → ℕ → List ℕ → List ℕ → ℕ
entered f at b card = cond (enters f at b card) (count_on f card) 0

-- the line that the directory d, which begins at the card `first`, tells at a place, from 1
unfoldable pub told_at : Row → List ℕ → ℕ → ℕ → Result LinePlace Refusal
told_at f d first place =
    cond (leb 1 place && leb place (length d / 80))
    (Ok (line_place (start_on f (take 80 (drop (80 * (place - 1)) d))) (count_on f (take 80 (drop (80 * (place - 1)) d))) (first + place - 1)))
    (Err (refusal 13 0 0))

-- the cards that an answer tells are among so many bytes
abbrev pub inside : Result LinePlace Refusal → ℕ → Bool
inside (Ok l) n = leb 1 l.first && leb (80 * (l.first - 1) + 80 * l.cards) n
inside (Err r) n = true

-- n cards, one at least
pub record Cards (n : ℕ) (v : List ℕ) : Type 0 where
  pub some : 1 ≤ n
  pub whole : length v ≡ 80 * n

-- the last of which is a trailer that points back
pub record Trailed (f : Row) (n : ℕ) (v : List ℕ) : Type 0 where
  pub cards : Cards n v
  pub few : n ≤ f.most
  pub trailer : points f n (last_card n v) ≡ true
