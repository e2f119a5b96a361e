-- Bytes that people mistake: the two ends of line, and the code of a header's first card.
use mathlib.Core.Path.{◌≡◌, refl}
use mathlib.Core.List.{[], ◌∷◌}
use Rattle.format_layout.specs.Shape.{bytes}
use Rattle.media_ebcdic.specs.Tables.{ascii_of}
use Rattle.media_ebcdic.specs.Translating.{ascii_from}

-- 0x15 is the next line 0x85, and 0x25 the line feed 0x0a
pub ends_of_line : ascii_from (0x15 ∷ 0x25 ∷ []) ≡ 0x85 ∷ 0x0a ∷ []
unfolding ascii_from ascii_of
ends_of_line = refl

pub first_card_lem : ascii_from (0xc8 ∷ 0xf0 ∷ 0xf0 ∷ 0xf0 ∷ 0xf0 ∷ []) ≡ bytes "H0000"
unfolding ascii_from ascii_of
first_card_lem = refl
