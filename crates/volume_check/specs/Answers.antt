-- What a reader of a volume is answered.
use Rattle.std.specs.Prelude.{ℕ, ◌+◌, ◌-◌, ◌*◌, cond, ◌&&◌, List, [], length, take, drop, get_or, leb, Result, Ok, Err, ⊤}
use Rattle.base_refusal.specs.Refusals.{refusal}
use Rattle.header_check.specs.forms.Cards.{cards_in}
use Rattle.volume_form.specs.Rows.{Row}
use Rattle.volume_rules.specs.Volume.{before}
use Rattle.volume_rules.specs.Sound.{first_of, headers_of}
use Rattle.volume_rules.specs.Judged.{volume_answer}
use Rattle.volume_check.specs.declared.LinePlace.{LinePlace}
use Rattle.base_refusal.specs.declared.Refusal.{Refusal}
use Rattle.volume_check.specs.Lines.{line_place}

-- the volume's refusal, or how many lines there are
abbrev pub lines_by : Result ⊤ Refusal → ℕ → Result ℕ Refusal
lines_by (Ok _) k = Ok k
lines_by (Err r) k = Err r

-- the volume's refusal, or what was found
abbrev pub found_by : Result ⊤ Refusal → Result LinePlace Refusal → Result LinePlace Refusal
found_by (Ok _) found = found
found_by (Err r) found = Err r

-- the line at a place, from 1, of some headers whose directory begins at the card `first`; 13 where there is no such place
unfoldable pub placed : List (List ℕ) → ℕ → ℕ → Result LinePlace Refusal
placed hs first place =
    cond (leb 1 place && leb place (length hs))
    (Ok (line_place (1 + before hs (place - 1)) (cards_in (get_or hs (place - 1) [])) (first + place - 1)))
    (Err (refusal 13 0 0))

-- of n cards at the front of a buffer
unfoldable pub lines_of : Row → ℕ → List ℕ → Result ℕ Refusal
lines_of f n buffer = lines_by (volume_answer f n buffer) (length (headers_of f n (take (80 * n) buffer)))

unfoldable pub found_of : Row → ℕ → List ℕ → ℕ → Result LinePlace Refusal
found_of f n buffer place =
    found_by (volume_answer f n buffer) (placed (headers_of f n (take (80 * n) buffer)) (first_of f n (take (80 * n) buffer)) place)

-- the part of the buffer that an answer tells, empty on a refusal
abbrev pub part_of : Result LinePlace Refusal → List ℕ → List ℕ
part_of (Ok l) buffer = take (80 * l.cards) (drop (80 * (l.first - 1)) buffer)
part_of (Err r) buffer = []

unfoldable pub line_of : Row → ℕ → List ℕ → ℕ → List ℕ
line_of f n buffer place = part_of (found_of f n buffer place) buffer
