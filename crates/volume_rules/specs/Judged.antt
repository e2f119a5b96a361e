-- What is said of a volume, a stated number of cards at the front of a buffer: 18, 19, then each header's own refusal in turn.
use Rattle.std.specs.Prelude.{ℕ, ◌+◌, ◌-◌, ◌*◌, ◌%◌, ◌≤◌, ◌≡◌, Bool, true, false, cond, not, ◌&&◌, List, [], ◌∷◌, length, take, drop, eqb, leb, ltb, Result, Ok, Err, ⊤}
use Rattle.base_refusal.specs.Refusals.{refusal, no_refusal}
use Rattle.header_check.specs.forms.Cards.{cards_in}
use Rattle.header_check.specs.Refusing.{refusal_of}
use Rattle.base_lists.specs.Parts.{alike}
use Rattle.volume_form.specs.declared.Form.{Form}
use Rattle.volume_form.specs.declared.Form.TheVariants.{Old, Wide}
use Rattle.volume_form.specs.Rows.{Row, row_of}
use Rattle.volume_rules.specs.Volume.{joined, volume_of}
use Rattle.volume_rules.specs.Sound.{points, mixed, covers, last_card, first_of, body_of, directory_of, headers_of}
use Rattle.base_refusal.specs.declared.Refusal.{Refusal}

-- a refusal without card and column where a test fails, else what is said next
abbrev pub unless : Bool → ℕ → Result ⊤ Refusal → Result ⊤ Refusal
unless true number next = next
unless false number next = Err (refusal number 0 0)

-- what is said, and next where that accepts
abbrev pub and_then : Result ⊤ Refusal → Result ⊤ Refusal → Result ⊤ Refusal
and_then (Ok _) next = next
and_then (Err r) next = Err r

-- the stated number: one at least, no more than the form allows, no more than the buffer holds
unfoldable pub stated : Row → ℕ → ℕ → Bool
stated f n room = leb 1 n && (leb n f.most && leb n room)

-- a header in a volume: as everywhere, but 3 where it has more cards than the form allows
unfoldable pub header_answer : Row → List ℕ → Result ⊤ Refusal
header_answer f h = cond (eqb (length h % 80) 0 && ltb f.largest (cards_in h)) (Err (refusal 3 0 0)) (refusal_of h)

-- headers in turn: the refusal of the first that has one
unfoldable pub headers_answer : Row → List (List ℕ) → Result ⊤ Refusal
headers_answer f [] = no_refusal
headers_answer f (h ∷ hs) = and_then (header_answer f h) (headers_answer f hs)

-- cards of the other form; what the directory covers, and the headers that it tells
unfoldable pub parts_answer : Row → ℕ → List ℕ → Result ⊤ Refusal
parts_answer f n v =
    unless (not (mixed f.other (directory_of f n v) (n - first_of f n v))) 18
    (unless (covers f 1 (body_of f n v) (directory_of f n v) (n - first_of f n v)) 19 (headers_answer f (headers_of f n v)))

-- n cards: the trailer, then the rest
unfoldable pub cards_answer : Row → ℕ → List ℕ → Result ⊤ Refusal
cards_answer f n v = unless (points f n (last_card n v)) 18 (parts_answer f n v)

-- a stated number n of cards at the front of a buffer
unfoldable pub volume_answer : Row → ℕ → List ℕ → Result ⊤ Refusal
volume_answer f n buffer = unless (stated f n (cards_in buffer)) 18 (cards_answer f n (take (80 * n) buffer))

-- headers that a volume of a form takes
abbrev pub Accepteds : Row → List (List ℕ) → Type 0
Accepteds f [] = Unit {0}
Accepteds f (h ∷ hs) = (header_answer f h ≡ no_refusal) × Accepteds f hs

-- the code of the last card tells the form; what has no such card is judged as an old volume, and is none
unfoldable pub form_in : ℕ → List ℕ → Form
form_in n buffer =
    cond (leb 1 n && leb n (cards_in buffer)) (cond (alike (take 5 (drop (80 * (n - 1)) buffer)) (row_of Wide).trailer) Wide Old) Old

-- n cards at the front of a buffer are the volume of some headers, each of them accepted
pub record Holds (f : Row) (n : ℕ) (buffer : List ℕ) (hs : List (List ℕ)) : Type 0 where
  pub bytes : take (80 * n) buffer ≡ volume_of f hs
  pub cards : n ≡ cards_in (joined hs) + length hs + 1
  pub few : n ≤ f.most
  pub accepted : Accepteds f hs
