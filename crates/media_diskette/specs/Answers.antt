-- What each conversion answers, in the paper's order of refusals, and what it leaves in the output.
use Rattle.std.specs.Prelude.{ℕ, zero, suc, ◌+◌, ◌*◌, ◌/◌, ◌%◌, List, [], ◌∷◌, ◌++◌, cond, ◌&&◌, ◌||◌, not, length, take, drop, eqb, ltb, Option, None, Some, Result, Ok, Err}
use Rattle.base_refusal.specs.declared.Refusal.{Refusal}
use Rattle.base_refusal.specs.Refusals.{refusal}
use Rattle.value_text.specs.printable.Bytes.{first_bad}
use Rattle.media_diskette.specs.Lines.{cr, lf, disk_of, lines_in}

-- the most cards that a header may have
abbrev pub largest : ℕ
largest = 800

-- a refusal; where there is none, the answer behind it
abbrev pub refused_by : Option Refusal → Result ℕ Refusal → Result ℕ Refusal
refused_by None answer = answer
refused_by (Some r) answer = Err r

-- 17 for a length that the output has no room for
abbrev pub in_room : ℕ → Result ℕ Refusal → Result ℕ Refusal
in_room room (Ok n) = cond (ltb room n) (Err (refusal 17 0 0)) (Ok n)
in_room room (Err r) = Err r

-- what the output holds: the text in front and the rest as it was, or all as it was
abbrev pub output_by : Result ℕ Refusal → List ℕ → List ℕ → List ℕ
output_by (Ok n) text out = text ++ drop n out
output_by (Err r) text out = out

-- 4 for the first byte outside 32 to 126 of n cards, behind c others
unfoldable pub bad_byte : ℕ → ℕ → List ℕ → Option Refusal
bad_byte c zero h = None
bad_byte c (suc n) h =
    cond (ltb (first_bad (take 80 h)) 80) (Some (refusal 4 (c + 1) (first_bad (take 80 h) + 1))) (bad_byte (c + 1) n (drop 80 h))

-- from cards: 1, 2, 3, 4
unfoldable pub cards_judged : List ℕ → Result ℕ Refusal
cards_judged h =
    cond (eqb (length h) 0) (Err (refusal 1 0 0))
    (cond (not (eqb (length h % 80) 0)) (Err (refusal 2 0 0))
    (cond (ltb largest (length h / 80)) (Err (refusal 3 0 0))
    (refused_by (bad_byte 0 (length h / 80) h) (Ok (length (disk_of h))))))

-- and then 17
unfoldable pub to_answer : List ℕ → ℕ → Result ℕ Refusal
to_answer h room = in_room room (cards_judged h)

-- the offence of a byte that begins no CR LF, behind k bytes of its line: 16 for CR or LF, 4 for another that is not printable, 15 for
-- one past 80; 0 for none
unfoldable pub offence_of : ℕ → ℕ → ℕ
offence_of b k = cond (eqb b cr || eqb b lf) 16 (cond (ltb b 32 || ltb 126 b) 4 (cond (ltb k 80) 0 15))

-- an offence behind so many lines and k bytes of the next; for 0 what comes behind it
abbrev pub told : ℕ → ℕ → ℕ → Option Refusal → Option Refusal
told number lines k behind = cond (eqb number 0) behind (Some (refusal number (lines + 1) (k + 1)))

-- the first offence of what is left of a file, behind so many lines and k bytes of the next; a line begun and not ended is a 16 at the end
unfoldable pub offence : ℕ → ℕ → List ℕ → Option Refusal
offence lines k [] = told (cond (eqb k 0) 0 16) lines k None
offence lines k (b ∷ []) = told (offence_of b k) lines k (offence lines (k + 1) [])
offence lines k (b ∷ next ∷ s) =
    cond (eqb b cr && eqb next lf) (offence (lines + 1) 0 s) (told (offence_of b k) lines k (offence lines (k + 1) (next ∷ s)))

-- a card for each line, or 3
unfoldable pub sized : ℕ → Result ℕ Refusal
sized lines = cond (ltb largest lines) (Err (refusal 3 0 0)) (Ok (lines * 80))

-- from diskette: 1, then the first of 4, 15 and 16, then 3
unfoldable pub file_judged : List ℕ → Result ℕ Refusal
file_judged f =
    cond (eqb (length f) 0) (Err (refusal 1 0 0)) (refused_by (offence 0 0 f) (sized (length (lines_in f))))

-- and then 17
unfoldable pub from_answer : List ℕ → ℕ → Result ℕ Refusal
from_answer f room = in_room room (file_judged f)
