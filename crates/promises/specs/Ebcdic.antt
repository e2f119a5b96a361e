-- The words in which the promises speak of tapes in EBCDIC.
use Rattle.std.specs.Prelude.{ℕ, List, [], ◌∷◌, ltb}
use Rattle.base_lists.specs.Laid.{stored}
use Rattle.card_laws.specs.exactly.Rows.{Row, row}
use Rattle.media_ebcdic.specs.Translating.{ascii_from, ebcdic_from}

-- what an output holds after a tape was translated into it, and after a text was
abbrev pub ascii_in : List ℕ → List ℕ → List ℕ
ascii_in out tape = stored out 0 (ascii_from tape)

abbrev pub ebcdic_in : List ℕ → List ℕ → List ℕ
ebcdic_in out text = stored out 0 (ebcdic_from text)

-- the refusals for so many bytes and so much room
abbrev pub translate_rows : ℕ → ℕ → List Row
translate_rows bytes room = row 17 0 0 (ltb room bytes) ∷ []
