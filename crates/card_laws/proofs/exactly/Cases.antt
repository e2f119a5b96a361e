-- Rows that decide: a case for each row of reading and opening and each own row of a put, and some where none does.
use Prim.Native.Nat.{ℕ}
use Prim.Native.String.{String}
use mathlib.Core.Path.{◌≡◌, refl}
use mathlib.Core.List.{List, [], ◌∷◌, ◌++◌}
use lib.IntN.{pos, negsuc}
use lib.ListN.{take, replicate}
use Rattle.base_lists.specs.Count.{first, first_from}
use Rattle.base_digits.specs.digits.Digits.{size_up_to}
use Rattle.base_digits.specs.digits.Figures.{blanks, unpadded, leading, behind, value_from}
use Rattle.value_number.specs.number.Reading.{point_of, figures_of, held_of as number_held, sign_of, number_of}
use Rattle.base_digits.specs.signs.Signs.{signed_of}
use Rattle.value_text.specs.text.Texts.{text_end, text_of, printable, leading_blank, well_formed}
use Rattle.base_value.specs.declared.Value.TheVariants.{Absent, Whole, Decimal}
use Rattle.value_field.specs.spelling.Reading.{text_reading, number_in, whole_reading, reading_of}
use Rattle.format_layout.specs.Shape.{bytes}
use Rattle.format_layout.specs.Table.{layouts, passed_codes}
use Rattle.format_code.specs.Codes.{byte_fits, fits_at, fits, codes, place_in, code_at, code_of}
use Rattle.format_layout.specs.Layouts.{layout_at, fields_of}
use Rattle.format_layout.specs.ranges.Ranges.{in_range}
use Rattle.base_refusal.specs.Refusals.{refusal}
use Rattle.value_text.specs.printable.Bytes.{first_bad}
use Rattle.card_field.specs.judging.Fields.{spelling_of}
use Rattle.card_field.specs.needing.Needs.{columns_of, is_blank, any_second}
use Rattle.card_put.specs.Putting.{placed_in}
use Rattle.card_laws.specs.exactly.Rows.{given}
use Rattle.card_laws.specs.exactly.Words.{fields_on, field_at, is_needed, reading_in, blanked_in}
use Rattle.card_laws.specs.exactly.Tables.{way_rows, field_rows, value_rows, text_rows, read_rows, put_rows, put_text_rows, open_rows}
use Rattle.std.specs.Prelude.{None, Some}

-- a text with blanks behind it up to column 80
abbrev card : String → List ℕ
card t = take 80 (bytes t ++ replicate 80 32)

-- a streamer's card, read
pub reading_cases : given (read_rows [] 1 0)
    ∷ given (read_rows (bytes "H2110") 1 0)
    ∷ given (read_rows (take 80 (bytes "H2110" ++ replicate 80 0)) 1 0)
    ∷ given (read_rows (card "H2100") 1 0)
    ∷ given (read_rows (card "H2110") 10 2)
    ∷ given (read_rows (card "H2110") 1 2)
    ∷ given (read_rows (card "H2110") 1 0)
    ∷ given (read_rows (card "H2110 1x") 1 0)
    ∷ given (read_rows (card "H2110  -1") 1 0)
    ∷ given (read_rows (card "H2110   1") 1 0)
    ∷ []
    ≡ Some (refusal 1 0 0)
    ∷ Some (refusal 2 0 0)
    ∷ Some (refusal 4 1 6)
    ∷ Some (refusal 5 1 1)
    ∷ Some (refusal 13 0 0)
    ∷ Some (refusal 10 0 0)
    ∷ Some (refusal 11 1 7)
    ∷ Some (refusal 9 1 7)
    ∷ Some (refusal 10 1 7)
    ∷ None
    ∷ []
unfolding first first_from blanks unpadded leading behind value_from point_of figures_of signed_of number_held sign_of number_of text_end printable leading_blank text_reading number_in text_of whole_reading reading_of layouts passed_codes byte_fits fits_at fits codes place_in code_at code_of layout_at fields_of in_range first_bad columns_of is_blank spelling_of any_second given fields_on field_at is_needed reading_in way_rows field_rows read_rows
reading_cases = refl

-- values put on a compass card: nodes of both sets, and the distance in columns 50 to 57
pub putting_cases : given (put_rows (card "H2210") 2 0 (Decimal (record { units = pos 1; places = 0 })))
    ∷ given (put_rows (card "H2210") 2 0 Absent)
    ∷ given (put_rows (card "H2210") 6 0 Absent)
    ∷ given (put_rows (card "H2210                                   A18") 6 0 Absent)
    ∷ given (put_rows (card "H2210") 2 0 (Whole (pos 0)))
    ∷ given (put_rows (card "H2210") 2 0 (Whole (pos 10000)))
    ∷ given (put_rows (card "H2210") 8 0 (Decimal (record { units = negsuc 1234566; places = 7 })))
    ∷ given (put_rows (card "H2210") 8 0 (Decimal (record { units = pos 1234567; places = 7 })))
    ∷ []
    ≡ Some (refusal 12 1 0)
    ∷ Some (refusal 11 1 11)
    ∷ None
    ∷ Some (refusal 11 1 36)
    ∷ Some (refusal 10 1 0)
    ∷ Some (refusal 14 1 0)
    ∷ Some (refusal 14 1 0)
    ∷ None
    ∷ []
unfolding first first_from blanks unpadded leading behind value_from size_up_to text_end printable layouts passed_codes byte_fits fits_at fits codes place_in code_at code_of layout_at fields_of in_range first_bad columns_of is_blank spelling_of any_second placed_in given fields_on field_at is_needed blanked_in way_rows value_rows put_rows
putting_cases = refl

-- texts put on it
pub text_cases : given (put_text_rows (card "H2210") 2 0 (bytes "A17"))
    ∷ given (put_text_rows (card "H2210") 3 0 (10 ∷ []))
    ∷ given (put_text_rows (card "H2210") 3 0 (bytes " A17"))
    ∷ given (put_text_rows (card "H2210") 3 0 (bytes "A17456789"))
    ∷ given (put_text_rows (card "H2210") 3 0 (bytes "A17"))
    ∷ given (put_text_rows (card "C0001") 1 0 (bytes " A17"))
    ∷ []
    ≡ Some (refusal 12 1 0)
    ∷ Some (refusal 4 1 0)
    ∷ Some (refusal 9 1 0)
    ∷ Some (refusal 14 1 0)
    ∷ None
    ∷ None
    ∷ []
unfolding first first_from text_end printable leading_blank well_formed layouts passed_codes byte_fits fits_at fits codes place_in code_at code_of layout_at fields_of first_bad given fields_on field_at way_rows text_rows put_text_rows
text_cases = refl

-- cards opened: a code of four bytes, and a passed code
pub opening_cases : given (open_rows (bytes "H2110") 0)
    ∷ given (open_rows (bytes "H2110") 79)
    ∷ given (open_rows (bytes "H211") 80)
    ∷ given (open_rows (bytes "H1410") 80)
    ∷ []
    ≡ Some (refusal 1 0 0) ∷ Some (refusal 2 0 0) ∷ Some (refusal 5 1 1) ∷ None ∷ []
unfolding layouts passed_codes byte_fits fits_at fits codes place_in code_at code_of given open_rows
opening_cases = refl
