-- The worked example of the paper: the five lines of its answer, byte by byte.
use Prim.Native.Nat.{ℕ}
use native.Mathlib.Omega.{arith}
use mathlib.Core.Path.{◌≡◌, refl, sym, ap, ap₂, ◌∙◌}
use mathlib.Core.List.{List, [], ◌∷◌, ◌++◌, map, flat_map}
use lib.ListN.{length, length-map}
use Rattle.base_digits.specs.digits.Digits.{digits, size_up_to}
use Rattle.tie_rules.specs.Faults.{entry_of, faults, entries}
use Rattle.tie_laws.proofs.ExampleCards.{example}
use Rattle.tie_laws.proofs.ExampleSteps.{thirteen}
use Rattle.tie_laws.proofs.Example.{accepted, worked}
use Rattle.crew_answer.specs.lines.Text.{bytes, newline, numeral, spaced, count_text, entry_text, entry_at, entries_text, told, broken_text}
use Rattle.crew_answer.specs.Answer.{answer_of, answer_to}
use Rattle.crew_answer.proofs.Limits.{few_taken}

-- entries one after the other
joined : List (List ℕ) → List ℕ
joined [] = []
joined (e ∷ es) = e ++ joined es

entries-joined : (f : ℕ → List ℕ) (l : List ℕ) → flat_map f l ≡ joined (map f l)
unfolding flat_map joined
entries-joined f [] = refl
entries-joined f (t ∷ l) = ap (λ r. f t ++ r) (entries-joined f l)

abbrev sixteen : List ℕ
sixteen = 11 ∷ 11 ∷ 2 ∷ 1 ∷ 11 ∷ 36 ∷ 2 ∷ 1 ∷ 12 ∷ 7 ∷ 4 ∷ 2 ∷ 13 ∷ 7 ∷ 1 ∷ 1 ∷ []

four_entries : entries example ≡ sixteen
unfolding entries joined
four_entries = entries-joined (entry_of example) (faults example) ∙ ap joined worked

four : length (faults example) ≡ 4
four = sym (length-map (faults example) (entry_of example)) ∙ ap length worked

by_entries : answer_to example ≡ broken_text 4 sixteen
unfolding answer_to answer_of
by_entries = rw (few_taken example (omega (arith, thirteen)), accepted) (ap₂ broken_text four four_entries)

pub five_lines : answer_to example
    ≡ bytes "broken 4" ++ newline ++ bytes "11 11 2 1" ++ newline ++ bytes "11 36 2 1" ++ newline ++ bytes "12 7 4 2" ++ newline
    ++ bytes "13 7 1 1" ++ newline
unfolding broken_text told count_text entries_text entry_at entry_text spaced numeral digits size_up_to
five_lines = by_entries
