-- What the program answers to a header: a refusal, or the number of all faults and the first of their entries.
use Rattle.std.specs.Prelude.{ℕ, ◌%◌, Bool, cond, ◌&&◌, List, eqb, ltb, length, Result, Ok, Err, ⊤}
use Rattle.base_refusal.specs.Refusals.{refusal}
use Rattle.header_check.specs.forms.Cards.{cards_in}
use Rattle.header_check.specs.Refusing.{refusal_of}
use Rattle.tie_rules.specs.Faults.{faults, entries}
use Rattle.crew_answer.specs.lines.Text.{refused_text, broken_text}
use Rattle.base_refusal.specs.declared.Refusal.{Refusal}

-- the most cards that the program takes
abbrev pub most_cards : ℕ
most_cards = 800

-- whole cards, and more of them
unfoldable pub too_many : List ℕ → Bool
too_many h = eqb (length h % 80) 0 && ltb most_cards (cards_in h)

-- the program's refusal: a 3 for more cards than it takes, and otherwise the header's
unfoldable pub program_refusal : List ℕ → Result ⊤ Refusal
program_refusal h = cond (too_many h) (Err (refusal 3 0 0)) (refusal_of h)

unfoldable pub answer_of : Result ⊤ Refusal → ℕ → List ℕ → List ℕ
answer_of (Err r) n found = refused_text r.number r.card r.column
answer_of (Ok _) n found = broken_text n found

unfoldable pub answer_to : List ℕ → List ℕ
answer_to h = answer_of (program_refusal h) (length (faults h)) (entries h)
