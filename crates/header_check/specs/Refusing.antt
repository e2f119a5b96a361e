-- The header's refusal: lengths, then card by card the first offence, then missing opening cards.
use Rattle.std.specs.Prelude.{ℕ, ◌+◌, ◌%◌, List, Bool, true, false, cond, not, eqb, ltb, length, take, Result, Ok, Err, ⊤}
use Rattle.base_lists.specs.Count.{first}
use Rattle.format_code.specs.declared.Code.{Code}
use Rattle.format_code.specs.declared.Code.TheVariants as code
use Rattle.format_code.specs.Codes.{code_of}
use Rattle.base_refusal.specs.Refusals.{refusal, no_refusal}
use Rattle.value_text.specs.printable.Bytes.{first_bad}
use Rattle.format_layout.specs.declared.Form.{Form}
use Rattle.card_check.specs.Judging.{verdict_of}
use Rattle.header_check.specs.forms.Cards.{card_at, cards_in}
use Rattle.header_check.specs.forms.Forms.{form_of}
use Rattle.header_check.specs.Opening.{has_line, stands_at}
use Rattle.card_check.specs.declared.Offence.{Offence}
use Rattle.base_refusal.specs.declared.Refusal.{Refusal}
use Rattle.card_check.specs.Verdicts.{offending}

-- the most cards that a header may have
abbrev pub largest : ℕ
largest = 4096

abbrev pub is_unknown : Code → Bool
is_unknown code.Unknown = true
is_unknown code.Passed = false
is_unknown (code.Read k) = false

-- 4 and 5 come before whatever else is said of a card
unfoldable pub readable : List ℕ → Result ⊤ Offence → Result ⊤ Offence
readable s v =
    cond (ltb (first_bad s) 80) (Err (offending 4 (first_bad s + 1))) (cond (is_unknown (code_of (take 5 s))) (Err (offending 5 1)) v)

-- a card in its place or not: 4, 5, 6, and then its columns
unfoldable pub placed_verdict : List ℕ → Form → Bool → Result ⊤ Offence
placed_verdict s form placed = readable s (cond placed (verdict_of s form) (Err (offending 6 1)))

-- one card past the end: 6 where the block has no H00@8
unfoldable pub end_verdict : Bool → Result ⊤ Offence
end_verdict line = cond line no_refusal (Err (offending 6 1))

-- the verdict on a place of the header, from 0: a card, or what lies past the last
unfoldable pub verdict_at : List ℕ → ℕ → Result ⊤ Offence
verdict_at h c =
    cond (ltb c (cards_in h)) (placed_verdict (card_at h c) (form_of h (card_at h c)) (stands_at h c)) (end_verdict (has_line h))

abbrev pub is_fine : Result ⊤ Offence → Bool
is_fine (Ok _) = true
is_fine (Err o) = false

unfoldable pub offends : List ℕ → ℕ → Bool
offends h c = not (is_fine (verdict_at h c))

-- the answer for a verdict on the card with a number, from 1
unfoldable pub answer_for : Result ⊤ Offence → ℕ → Result ⊤ Refusal
answer_for (Ok _) number = no_refusal
answer_for (Err o) number = Err (refusal o.number number o.column)

-- the answer at a place
unfoldable pub answer_at : List ℕ → ℕ → Result ⊤ Refusal
answer_at h c = answer_for (verdict_at h c) (c + 1)

-- the answer at the first card with an offence; where no card has one, past the end
unfoldable pub cards_answer : List ℕ → Result ⊤ Refusal
cards_answer h = answer_at h (first (offends h) (cards_in h))

-- the answer to a header: 1, 2, 3, and then card by card
unfoldable pub refusal_of : List ℕ → Result ⊤ Refusal
refusal_of h =
    cond (eqb (length h) 0) (Err (refusal 1 0 0))
    (cond (not (eqb (length h % 80) 0)) (Err (refusal 2 0 0))
    (cond (ltb largest (cards_in h)) (Err (refusal 3 0 0)) (cards_answer h)))
