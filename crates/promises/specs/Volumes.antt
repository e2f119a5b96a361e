-- The rows of a volume's refusals, in the paper's order: number, card, column, and when.
use Rattle.std.specs.Prelude.{ℕ, ◌+◌, ◌-◌, ◌*◌, ◌%◌, not, ◌&&◌, List, [], ◌∷◌, ◌++◌, eqb, leb, ltb, length, take}
use Rattle.card_laws.specs.exactly.Rows.{Row, row}
use Rattle.header_check.specs.forms.Cards.{cards_in}
use Rattle.volume_form.specs.Rows.{Row as Form}
use Rattle.volume_rules.specs.Sound.{points, mixed, covers, last_card, first_of, body_of, directory_of, headers_of}
use Rattle.volume_rules.specs.Converted.{few}
use Rattle.promises.specs.Header.{header_rows}

-- a header in a volume of a form: more cards than the form allows, then the header's own
unfoldable pub rows_in : Form → List ℕ → List Row
rows_in f h = row 3 0 0 (eqb (length h % 80) 0 && ltb f.largest (cards_in h)) ∷ header_rows h

-- headers in turn
unfoldable pub rows_of_all : Form → List (List ℕ) → List Row
rows_of_all f [] = []
rows_of_all f (h ∷ hs) = rows_in f h ++ rows_of_all f hs

-- n cards v: the trailer, the directory, the headers
unfoldable pub cards_rows : Form → ℕ → List ℕ → List Row
cards_rows f n v =
    row 18 0 0 (not (points f n (last_card n v))) ∷
    row 18 0 0 (mixed f.other (directory_of f n v) (n - first_of f n v)) ∷
    row 19 0 0 (not (covers f 1 (body_of f n v) (directory_of f n v) (n - first_of f n v))) ∷
    rows_of_all f (headers_of f n v)

-- a stated number n of cards at the front of a buffer
unfoldable pub volume_rows : Form → ℕ → List ℕ → List Row
volume_rows f n buffer =
    row 18 0 0 (eqb n 0) ∷
    row 18 0 0 (ltb f.most n) ∷
    row 18 0 0 (ltb (cards_in buffer) n) ∷
    cards_rows f n (take (80 * n) buffer)

-- and a place in its directory
unfoldable pub line_rows : Form → ℕ → List ℕ → ℕ → List Row
line_rows f n buffer place =
    volume_rows f n buffer
    ++ (row 13 0 0 (not (leb 1 place && leb place (length (headers_of f n (take (80 * n) buffer))))) ∷ [])

-- and a header that is appended
unfoldable pub append_rows : Form → ℕ → List ℕ → List ℕ → List Row
append_rows f n buffer h =
    volume_rows f n buffer
    ++ (rows_in f h
    ++ (row 20 0 0 (ltb f.most (n + cards_in h + 1)) ∷ row 20 0 0 (ltb (cards_in buffer) (n + cards_in h + 1)) ∷ []))

-- the empty volume
unfoldable pub empty_rows : List ℕ → List Row
empty_rows buffer = row 20 0 0 (eqb (cards_in buffer) 0) ∷ []

-- and another form that it is brought into
unfoldable pub convert_rows : Form → Form → ℕ → List ℕ → List Row
convert_rows f g n buffer =
    volume_rows f n buffer
    ++ (row 21 0 0 (ltb g.most n) ∷ row 21 0 0 (not (few g.largest (headers_of f n (take (80 * n) buffer)))) ∷ [])
