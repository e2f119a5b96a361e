-- The cards of a volume that are no header's, a directory card for each header and the trailer; and what stands on them.
use Rattle.std.specs.Prelude.{ℕ, ◌+◌, ◌-◌, List, [], ◌∷◌, ◌++◌, length, take, drop, replicate}
use Rattle.volume_form.specs.Spelled.{spelled, standing}
use Rattle.volume_form.specs.Rows.{Row}

-- what the directory copies from a header's first card: columns 29 to 44 and 46 to 49
unfoldable pub name_of : List ℕ → List ℕ
name_of h = take 16 (drop 28 h)

unfoldable pub sequence_of : List ℕ → List ℕ
sequence_of h = take 4 (drop 45 h)

-- fields with a blank before each, and blanks up to column 80
unfoldable pub fielded : List ℕ → List (List ℕ) → List ℕ
fielded s [] = s
fielded s (t ∷ ts) = fielded (s ++ (32 ∷ t)) ts

unfoldable pub padded : List ℕ → List ℕ
padded s = s ++ replicate (80 - length s) 32

-- the directory card of the header h of n cards, whose first card is the card `at` of the volume
unfoldable pub entry_card : Row → List ℕ → ℕ → ℕ → List ℕ
entry_card f h at n = padded (fielded f.entry (name_of h ∷ sequence_of h ∷ spelled f.width at ∷ spelled f.width n ∷ []))

-- the trailer: the first directory card, and how many there are
unfoldable pub trailer_card : Row → ℕ → ℕ → List ℕ
trailer_card f at n = padded (fielded f.trailer (spelled f.width at ∷ spelled f.width n ∷ []))

-- the numbers that stand on a card, whatever stands there: where a directory card has its first card and its number of cards, and
-- where a trailer has its first directory card
unfoldable pub start_on : Row → List ℕ → ℕ
start_on f card = standing (take f.width (drop 28 card))

unfoldable pub count_on : Row → List ℕ → ℕ
count_on f card = standing (take f.width (drop (29 + f.width) card))

unfoldable pub first_on : Row → List ℕ → ℕ
first_on f card = standing (take f.width (drop 6 card))
