-- A buffer that begins with a volume, once a header is appended to it.
use Rattle.std.specs.Prelude.{ℕ, ◌+◌, ◌-◌, ◌*◌, List, ◌++◌, take, drop}
use Rattle.volume_form.specs.Rows.{Row}
use Rattle.volume_form.specs.Marked.{entry_card, trailer_card}
use Rattle.header_check.specs.forms.Cards.{cards_in}

-- first is the volume's first directory card, k the number of its directory cards
unfoldable pub appended : Row → ℕ → ℕ → List ℕ → List ℕ → List ℕ
appended f first k h buffer =
    take (80 * (first - 1)) buffer
    ++ (h
    ++ (take (80 * k) (drop (80 * (first - 1)) buffer)
    ++ (entry_card f h first (cards_in h)
    ++ (trailer_card f (first + cards_in h) (k + 1) ++ drop (80 * (first + cards_in h + k + 1)) buffer))))
