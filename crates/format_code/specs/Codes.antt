-- What some bytes are as a code: read by the layout with a number, passed, or unknown.
use Rattle.std.specs.Prelude.{ℕ, ◌+◌, Bool, cond, ◌&&◌, List, [], ◌∷◌, ◌++◌, map, eqb, leb, ltb, length, get_or}
use Rattle.format_code.specs.declared.Code.{Code}
use Rattle.format_code.specs.declared.Code.TheVariants.{Read, Passed, Unknown}
use Rattle.format_layout.specs.Shape.{Layout}
use Rattle.format_layout.specs.Table.{read_table, passed_table, layouts, passed_codes}

-- a byte of a code fits one of a pattern: @ takes 1 to 9, # takes 0 to 9, anything else itself
unfoldable pub byte_fits : ℕ → ℕ → Bool
byte_fits p b = cond (eqb p 64) (leb 49 b && leb b 57) (cond (eqb p 35) (leb 48 b && leb b 57) (eqb p b))

-- the byte at a place fits the pattern's byte there
unfoldable pub fits_at : List ℕ → List ℕ → ℕ → Bool
fits_at p s i = byte_fits (get_or p i 0) (get_or s i 0)

-- a code of five bytes fits a pattern
unfoldable pub fits : List ℕ → List ℕ → Bool
fits p s = eqb (length s) 5 && (fits_at p s 0 && fits_at p s 1 && fits_at p s 2 && fits_at p s 3 && fits_at p s 4)

-- the patterns of the read codes and then those of the passed ones
unfoldable pub codes : List (List ℕ)
codes = map (λ (l : Layout). l.code) layouts ++ passed_codes

-- the number, from 0, of the first pattern that a code fits, or how many patterns there are
unfoldable pub place_in : List (List ℕ) → List ℕ → ℕ
place_in [] s = 0
place_in (p ∷ ps) s = cond (fits p s) 0 (1 + place_in ps s)

-- the code with the number: the read ones come first
unfoldable pub code_at : ℕ → Code
code_at n = cond (ltb n (length layouts)) (Read n) (cond (ltb n (length codes)) Passed Unknown)

-- what some bytes are as a code
unfoldable pub code_of : List ℕ → Code
code_of s = code_at (place_in codes s)

-- how many passed codes there are, and how many patterns in all
abbrev pub passed_count : ℕ
passed_count = length passed_table

abbrev pub pattern_count : ℕ
pattern_count = length read_table + passed_count
