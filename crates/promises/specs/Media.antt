-- The rows of the conversions' refusals, in the paper's order: number, card or line, column, and when.
use Rattle.std.specs.Prelude.{ℕ, zero, suc, ◌+◌, ◌*◌, ◌/◌, ◌%◌, cond, not, ◌&&◌, ◌||◌, List, [], ◌∷◌, ◌++◌, eqb, ltb, length, take, drop, Option, None, Some, Result, Ok, Err}
use Rattle.base_refusal.specs.declared.Refusal.{Refusal}
use Rattle.value_text.specs.printable.Bytes.{first_bad}
use Rattle.card_laws.specs.exactly.Rows.{Row, row}
use Rattle.media_diskette.specs.Lines.{cr, lf, disk_of, lines_in}
use Rattle.media_diskette.specs.Answers.{largest}

-- n cards behind c others: the first byte of each that is not printable
unfoldable pub byte_rows : ℕ → ℕ → List ℕ → List Row
byte_rows c zero h = []
byte_rows c (suc n) h = row 4 (c + 1) (first_bad (take 80 h) + 1) (ltb (first_bad (take 80 h)) 80) ∷ byte_rows (c + 1) n (drop 80 h)

-- from cards
unfoldable pub to_rows : List ℕ → ℕ → List Row
to_rows h room =
    row 1 0 0 (eqb (length h) 0) ∷
    row 2 0 0 (not (eqb (length h % 80) 0)) ∷
    row 3 0 0 (ltb largest (length h / 80)) ∷
    (byte_rows 0 (length h / 80) h ++ (row 17 0 0 (ltb room (length (disk_of h))) ∷ []))

-- a byte that begins no CR LF, behind so many lines and k bytes of its own: CR or LF, then any other that is not printable, then one
-- past 80
abbrev pub at_byte : ℕ → ℕ → ℕ → List Row
at_byte lines k b =
    row 16 (lines + 1) (k + 1) (eqb b cr || eqb b lf) ∷
    row 4 (lines + 1) (k + 1) (ltb b 32 || ltb 126 b) ∷
    row 15 (lines + 1) (k + 1) (not (ltb k 80)) ∷ []

-- what is left of a file, byte by byte; at the end a line that was begun
unfoldable pub file_rows : ℕ → ℕ → List ℕ → List Row
file_rows lines k [] = row 16 (lines + 1) (k + 1) (not (eqb k 0)) ∷ []
file_rows lines k (b ∷ []) = at_byte lines k b ++ file_rows lines (k + 1) []
file_rows lines k (b ∷ next ∷ s) =
    cond (eqb b cr && eqb next lf) (file_rows (lines + 1) 0 s) (at_byte lines k b ++ file_rows lines (k + 1) (next ∷ s))

-- from diskette; a card takes 80 bytes
unfoldable pub from_rows : List ℕ → ℕ → List Row
from_rows f room =
    row 1 0 0 (eqb (length f) 0) ∷
    (file_rows 0 0 f ++ (row 3 0 0 (ltb largest (length (lines_in f))) ∷ row 17 0 0 (ltb room (length (lines_in f) * 80)) ∷ []))

-- the refusal in the answer
abbrev pub in_converted : Result ℕ Refusal → Option Refusal
in_converted (Ok n) = None
in_converted (Err r) = Some r
