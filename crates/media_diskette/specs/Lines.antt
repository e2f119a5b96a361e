-- The text of both forms: a header is cards of 80 bytes, a diskette file is lines that end in CR LF.
use Rattle.std.specs.Prelude.{ℕ, zero, suc, ◌+◌, ◌-◌, ◌/◌, ◌%◌, ◌≤◌, ◌<◌, ◌≡◌, false, cond, length, get_or, take, drop, replicate, eqb}
use mathlib.Core.List.{List, [], ◌∷◌, ◌++◌, flat_map}
use Rattle.base_lists.specs.Count.{first}
use Rattle.value_text.specs.text.Texts.{text_of}
use Rattle.value_text.specs.printable.Bytes.{bad_at}

abbrev pub cr : ℕ
cr = 13

abbrev pub lf : ℕ
lf = 10

-- a card as a line: without its trailing blanks, CR LF behind it
unfoldable pub line_of : List ℕ → List ℕ
line_of card = text_of card ++ (cr ∷ lf ∷ [])

-- the first n cards as lines
unfoldable pub lines_of : ℕ → List ℕ → List ℕ
lines_of zero h = []
lines_of (suc n) h = line_of (take 80 h) ++ lines_of n (drop 80 h)

-- a header as a diskette file
unfoldable pub disk_of : List ℕ → List ℕ
disk_of h = lines_of (length h / 80) h

-- a byte put before the first line
abbrev pub onto : ℕ → List (List ℕ) → List (List ℕ)
onto b [] = []
onto b (line ∷ lines) = (b ∷ line) ∷ lines

-- the lines of a file: a CR ends one, and the LF behind it belongs to none
unfoldable pub lines_in : List ℕ → List (List ℕ)
lines_in [] = []
lines_in (b ∷ s) = cond (eqb b cr) ([] ∷ lines_in s) (cond (eqb b lf) (lines_in s) (onto b (lines_in s)))

-- a line as a card: blanks behind it up to 80 columns
unfoldable pub padded : List ℕ → List ℕ
padded line = line ++ replicate (80 - length line) 32

-- a diskette file as a header
unfoldable pub cards_from : List ℕ → List ℕ
cards_from f = flat_map padded (lines_in f)

-- a diskette file without the blanks at the ends of its lines
unfoldable pub trimmed : List ℕ → List ℕ
trimmed f = flat_map line_of (lines_in f)

-- how many bytes stand before the first CR
unfoldable pub line_length : List ℕ → ℕ
line_length f = first (λ i. eqb (get_or f i 0) cr) (length f)

-- a header as far as a conversion looks at it: 1 to 800 whole cards, each byte from 32 to 126
pub record Cards (h : List ℕ) : Type 0 where
  pub some : 0 < length h
  pub whole : length h % 80 ≡ 0
  pub few : length h ≤ 64000
  pub printed : (i : ℕ) → i < length h → bad_at h i ≡ false

-- no line of a file ends in a blank
abbrev pub NoBlankEnds : List ℕ → Type 0
NoBlankEnds f = (i : ℕ) → get_or f i 0 ≡ 32 → get_or f (i + 1) 0 ≡ cr → ⊥
