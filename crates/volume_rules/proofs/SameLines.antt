-- Lines that are the same and lines that are not, and a wide volume compacted, as computed.
use Prim.Native.Nat.{ℕ}
use mathlib.Core.Path.{◌≡◌, refl}
use mathlib.Core.Bool.{true, false}
use mathlib.Core.List.{List, [], ◌∷◌, ◌++◌, map}
use lib.ListN.{replicate}
use Rattle.base_lists.specs.Parts.{alike}
use Rattle.base_digits.specs.digits.Digits.{digits, size_up_to}
use Rattle.base_digits.specs.digits.Figures.{blanks, unpadded, leading, behind, value_from}
use Rattle.base_digits.specs.signs.Signs.{signed_of}
use Rattle.format_layout.specs.Shape.{bytes}
use Rattle.value_number.specs.number.Reading.{point_of, figures_of, held_of, sign_of, number_of}
use Rattle.value_text.specs.text.Texts.{text_end, text_of}
use Rattle.value_field.specs.spelling.Reading.{number_in, whole_reading, reading_of}
use Rattle.header_check.specs.forms.Cards.{cards_in}
use Rattle.volume_form.specs.declared.Form.TheVariants.{Wide}
use Rattle.volume_form.specs.Rows.{row_of}
use Rattle.volume_form.specs.Spelled.{spelled}
use Rattle.volume_form.specs.Marked.{name_of, sequence_of, fielded, padded, entry_card, trailer_card}
use Rattle.volume_rules.specs.Volume.{joined, directory, volume_of}
use Rattle.volume_rules.specs.Latest.{superseded, latest, compacted}
use Rattle.volume_rules.specs.SameLine.{sort_of, size_of, same_number, same_in, same_line}

-- the first card of a header with this in columns 29 to 49: name, blank and sequence number
abbrev card : List ℕ → List ℕ
card line = bytes "H0000Line Name:             " ++ (line ++ replicate 31 32)

-- 1 is 1 with zeros in front, pushed left, or with its sign; it is not 2, -1, 10 or blank
pub numbers_alike : map (same_line (card (bytes "LINE 1              1")))
    (card (bytes "LINE 1           0001") ∷
    card (bytes "LINE 1           1   ") ∷
    card (bytes "LINE 1             +1") ∷
    card (bytes "LINE 1              2") ∷
    card (bytes "LINE 1             -1") ∷
    card (bytes "LINE 1             10") ∷
    card (bytes "LINE 1               ") ∷ [])
    ≡ true ∷ true ∷ true ∷ false ∷ false ∷ false ∷ false ∷ []
unfolding alike blanks unpadded leading behind value_from signed_of point_of figures_of held_of sign_of number_of text_end text_of number_in whole_reading reading_of name_of sequence_of sort_of size_of same_number same_in same_line
numbers_alike = refl

-- blank is blank and not 0
pub blank_alike : map (same_line (card (bytes "LINE 1               ")))
    (card (bytes "LINE 1               ") ∷
    card (bytes "LINE 1              0") ∷ [])
    ≡ true ∷ false ∷ []
unfolding alike blanks unpadded leading behind value_from signed_of point_of figures_of held_of sign_of number_of text_end text_of number_in whole_reading reading_of name_of sequence_of sort_of size_of same_number same_in same_line
blank_alike = refl

-- 0 is -0 and not blank
pub zero-alike : map (same_line (card (bytes "LINE 1              0")))
    (card (bytes "LINE 1             -0") ∷
    card (bytes "LINE 1               ") ∷ [])
    ≡ true ∷ false ∷ []
unfolding alike blanks unpadded leading behind value_from signed_of point_of figures_of held_of sign_of number_of text_end text_of number_in whole_reading reading_of name_of sequence_of sort_of size_of same_number same_in same_line
zero-alike = refl

-- case counts, and so do blanks before and within a name
pub names_alike : map (same_line (card (bytes "LINE 1              1")))
    (card (bytes "LINE 1              1") ∷
    card (bytes "Line 1              1") ∷
    card (bytes " LINE 1             1") ∷
    card (bytes "LINE  1             1") ∷
    card (bytes "LINE 11             1") ∷ [])
    ≡ true ∷ false ∷ false ∷ false ∷ false ∷ []
unfolding alike blanks unpadded leading behind value_from signed_of point_of figures_of held_of sign_of number_of text_end text_of number_in whole_reading reading_of name_of sequence_of sort_of size_of same_number same_in same_line
names_alike = refl

-- two headers with both blank are the same line
pub both_blank : map (same_line (card (bytes "                     ")))
    (card (bytes "                     ") ∷
    card (bytes "                    1") ∷
    card (bytes "LINE 1               ") ∷ [])
    ≡ true ∷ false ∷ false ∷ []
unfolding alike blanks unpadded leading behind value_from signed_of point_of figures_of held_of sign_of number_of text_end text_of number_in whole_reading reading_of name_of sequence_of sort_of size_of same_number same_in same_line
both_blank = refl

-- trailing blanks of a name do not count
pub name_ends : same_in (bytes "LINE 1") (bytes "   1") (bytes "LINE 1    ") (bytes "   1") ≡ true
unfolding alike blanks unpadded leading behind value_from signed_of point_of figures_of held_of sign_of number_of text_end text_of number_in whole_reading reading_of name_of sequence_of sort_of size_of same_number same_in same_line
name_ends = refl

-- three headers of a card each in a wide volume, the first of them superseded: seven cards, of which two become blank
abbrev season : List (List ℕ)
season = card (bytes "LINE 1              1") ∷ card (bytes "LINE 2              1") ∷ card (bytes "LINE 1           0001") ∷ []

pub compacted_wide : compacted same_line (row_of Wide) season (volume_of (row_of Wide) season ++ bytes "behind")
    ≡ card (bytes "LINE 2              1")
    ++ (card (bytes "LINE 1           0001")
    ++ (bytes "X0011 LINE 2              1     1     1" ++ (replicate 41 32
    ++ (bytes "X0011 LINE 1           0001     2     1" ++ (replicate 41 32
    ++ (bytes "X0019     3     2" ++ (replicate 63 32 ++ (replicate 160 32 ++ bytes "behind"))))))))
unfolding alike blanks unpadded leading behind value_from signed_of digits size_up_to point_of figures_of held_of sign_of number_of text_end text_of number_in whole_reading reading_of name_of sequence_of sort_of size_of same_number same_in same_line cards_in row_of spelled fielded padded entry_card trailer_card joined directory volume_of superseded latest compacted
compacted_wide = refl
