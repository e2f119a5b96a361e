-- How the code holds the passed codes: five bytes as one number. No promise to a caller cites this.
use Rattle.std.specs.Prelude.{ℕ, ◌/◌, ◌%◌, Bool, ◌&&◌, map, eqb, get_or}
use Rattle.format_layout.specs.Table.{passed_codes}
use Rattle.format_layout.specs.packed.Rows.{word_of}
use Rattle.format_code.specs.Codes.{byte_fits}

-- the passed code with a number as one number, 0 where there is none
unfoldable pub passed_of : ℕ → ℕ
passed_of n = get_or (map word_of passed_codes) n 0

-- a code with these first three bytes, fourth and fifth byte fits a pattern
unfoldable pub fits_word : ℕ → ℕ → ℕ → ℕ → Bool
fits_word w head fourth fifth = eqb (w / 65536) head && (byte_fits (w % 256) fifth && byte_fits (w / 256 % 256) fourth)
