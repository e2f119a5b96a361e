-- What opening a card answers, and what the card then holds.
use Rattle.std.specs.Prelude.{ℕ, ◌-◌, List, [], ◌++◌, cond, not, length, replicate, eqb, Result, Err, ⊤}
use Rattle.format_code.specs.declared.Code.{Code}
use Rattle.format_code.specs.declared.Code.TheVariants as code
use Rattle.format_code.specs.Codes.{code_of}
use Rattle.format_layout.specs.Layouts.{label_of}
use Rattle.base_refusal.specs.Refusals.{refusal, no_refusal}
use Rattle.base_refusal.specs.declared.Refusal.{Refusal}

-- a label and then blanks, in so many columns
unfoldable pub labelled : List ℕ → ℕ → List ℕ
labelled label width = label ++ replicate (width - length label) 32

-- the 80 columns of a new card: its code, its label from column 6, and blanks
unfoldable pub new_card : List ℕ → List ℕ → List ℕ
new_card text label = text ++ labelled label 75

unfoldable pub code_answer : Code → Result ⊤ Refusal
code_answer code.Unknown = Err (refusal 5 1 1)
code_answer code.Passed = no_refusal
code_answer (code.Read k) = no_refusal

-- the answer for a code and a card of so many bytes, in the order 1, 2, 5
unfoldable pub opened_of : List ℕ → ℕ → Result ⊤ Refusal
opened_of text size =
    cond (eqb size 0) (Err (refusal 1 0 0))
    (cond (not (eqb size 80)) (Err (refusal 2 0 0)) (code_answer (code_of text)))

-- a card that was s, opened with a code: a new card, or what it was
unfoldable pub card_with : Code → List ℕ → List ℕ → List ℕ
card_with code.Unknown text s = s
card_with code.Passed text s = new_card text []
card_with (code.Read k) text s = new_card text (label_of k)

-- what the card holds after opening: unchanged where it is refused
unfoldable pub opened_card : List ℕ → List ℕ → List ℕ
opened_card text s = cond (eqb (length s) 80) (card_with (code_of text) text s) s
