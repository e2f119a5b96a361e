-- How the code notes, in one pass over the cards, the forms they state: a byte for the grid, and behind it one for each vessel.
-- No promise to a caller cites this.
use Rattle.std.specs.Prelude.{ℕ, zero, suc, ◌+◌, List, cond, eqb, get_or, set, replicate}
use Rattle.format_layout.specs.declared.Form.{Form}
use Rattle.format_layout.specs.declared.Form.TheVariants.{Angles, Grid, Unknown}
use Rattle.header_check.specs.forms.Cards.{card_at, byte_in, layout_of}
use Rattle.format_layout.specs.Names.{H00X8, H00X9, H0100, H0101, H5000}

-- one for the grid and one for each byte
abbrev pub note_count : ℕ
note_count = 257

-- a form column's byte as it is noted: 1 for form 0, 2 for form 1, 3 where it cannot be known; 0 where none was seen
unfoldable pub mark : ℕ → ℕ
mark b = cond (eqb b 48) 1 (cond (eqb b 49) 2 3)

-- a note when a card is seen: the first one's form, and 3 from the second on
unfoldable pub noted : ℕ → ℕ → ℕ
noted old b = cond (eqb old 0) (mark b) 3

-- the form that a note says
unfoldable pub told : ℕ → Form
told n = cond (eqb n 1) Angles (cond (eqb n 2) Grid Unknown)

unfoldable pub note_at : List ℕ → ℕ → ℕ → List ℕ
note_at t i b = set t i (noted (get_or t i 0) b)

-- the notes when one more card is seen
unfoldable pub note_card : List ℕ → List ℕ → List ℕ
note_card t s =
    cond (eqb (layout_of s) H00X8) (note_at t (1 + byte_in s 30) (byte_in s 32))
    (cond (eqb (layout_of s) H0100) (note_at t 0 (byte_in s 21)) t)

-- the notes of the first cards
unfoldable pub notes_to : List ℕ → ℕ → List ℕ
notes_to h zero = replicate note_count 0
notes_to h (suc c) = note_card (notes_to h c) (card_at h c)

-- a card's form by its layout and the notes
unfoldable pub form_by : List ℕ → ℕ → List ℕ → Form
form_by t k s =
    cond (eqb k H00X8) (told (mark (byte_in s 32)))
    (cond (eqb k H00X9) (told (get_or t (1 + byte_in s 7) 0))
    (cond (eqb k H0101) (told (get_or t 0 0)) (cond (eqb k H5000) (told (mark (byte_in s 29))) Unknown)))
