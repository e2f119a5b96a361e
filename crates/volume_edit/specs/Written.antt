-- What writing to a volume answers, and the buffer afterwards.
use Rattle.std.specs.Prelude.{ℕ, ◌+◌, ◌*◌, ◌^◌, ◌≤◌, ◌<◌, ◌≡◌, cond, List, ◌++◌, length, take, drop, eqb, Result, Ok, Err, ⊤}
use Rattle.base_refusal.specs.Refusals.{refusal, no_refusal}
use Rattle.header_check.specs.forms.Cards.{cards_in}
use Rattle.volume_form.specs.declared.Form.{Form}
use Rattle.volume_form.specs.Rows.{Row, row_of}
use Rattle.volume_rules.specs.Volume.{joined, volume_of}
use Rattle.volume_rules.specs.Sound.{headers_of}
use Rattle.volume_rules.specs.Converted.{convert_checked}
use Rattle.volume_rules.specs.Latest.{latest, compacted}
use Rattle.volume_rules.specs.SameLine.{same_line}
use Rattle.volume_rules.specs.Judged.{unless, and_then, stated, header_answer, volume_answer}
use Rattle.base_refusal.specs.declared.Refusal.{Refusal}

-- a header behind a volume of n cards: its own refusal, then 20 where the form does not allow, or the buffer not hold, that many cards
unfoldable pub room_answer : Row → ℕ → ℕ → List ℕ → Result ⊤ Refusal
room_answer f n room h = and_then (header_answer f h) (unless (stated f (n + cards_in h + 1) room) 20 no_refusal)

-- the volume's refusal comes first
unfoldable pub append_checked : Row → ℕ → List ℕ → List ℕ → Result ⊤ Refusal
append_checked f n buffer h = and_then (volume_answer f n buffer) (room_answer f n (cards_in buffer) h)

-- a refusal, or so many cards
abbrev pub cards_by : Result ⊤ Refusal → ℕ → Result ℕ Refusal
cards_by (Ok _) n = Ok n
cards_by (Err r) n = Err r

-- a header more: its cards, and its directory card
unfoldable pub append_answer : Row → ℕ → List ℕ → List ℕ → Result ℕ Refusal
append_answer f n buffer h = cards_by (append_checked f n buffer h) (n + cards_in h + 1)

-- the empty volume: one card, 20 where the buffer holds none
unfoldable pub empty_answer : List ℕ → Result ℕ Refusal
empty_answer buffer = cond (eqb (cards_in buffer) 0) (Err (refusal 20 0 0)) (Ok 1)

-- the buffer: the volume of some headers and what lay behind it, or all as it came
abbrev pub left_by : Row → Result ℕ Refusal → List (List ℕ) → List ℕ → List ℕ
left_by f (Ok n) hs buffer = volume_of f hs ++ drop (80 * n) buffer
left_by f (Err r) hs buffer = buffer

-- in another form: as many cards as before
unfoldable pub convert_answer : Row → Row → ℕ → List ℕ → Result ℕ Refusal
convert_answer f g n buffer = cards_by (convert_checked f g n buffer) n

-- compacted: the cards of the lines that are kept
unfoldable pub compact_answer : Row → ℕ → List ℕ → Result ℕ Refusal
compact_answer f n buffer =
    cards_by (volume_answer f n buffer)
    (cards_in (joined (latest same_line (headers_of f n (take (80 * n) buffer)))) + length (latest same_line (headers_of f n (take (80 * n) buffer))) + 1)

abbrev pub compacted_by : Row → Result ℕ Refusal → List (List ℕ) → List ℕ → List ℕ
compacted_by f (Ok n) hs buffer = compacted same_line f hs buffer
compacted_by f (Err r) hs buffer = buffer

-- what laying a header asks, where the directory begins at the card `first` and has k cards
pub record Fits (form : Form) (first k : ℕ) (h buffer : List ℕ) : Type 0 where
  pub least : 1 ≤ first
  pub some : 1 ≤ cards_in h
  pub whole : length h ≡ 80 * cards_in h
  pub room : 80 * (first + cards_in h + k + 1) ≤ length buffer
  pub small : first + cards_in h + k + 1 < 10 ^ (row_of form).width
