-- Cards with their verdicts, as one statement for each question.
use Prim.Native.String.{String}
use mathlib.Core.Path.{◌≡◌, refl}
use mathlib.Core.List.{List, [], ◌∷◌, ◌++◌}
use lib.ListN.{take, replicate}
use Rattle.base_lists.specs.Count.{first, first_from}
use Rattle.base_lists.specs.Parts.{alike}
use Rattle.base_digits.specs.digits.Figures.{blanks, unpadded, leading, behind, value_from}
use Rattle.value_number.specs.number.Reading.{point_of, figures_of, held_of as number_held, sign_of, number_of as number_of_read}
use Rattle.base_digits.specs.signs.Signs.{signed_of}
use Rattle.value_text.specs.text.Texts.{text_end, text_of, leading_blank}
use Rattle.value_date.specs.Calendar.{is_leap, is_short, days_in, is_date}
use Rattle.value_date.specs.Dates.{dated_of, date_of}
use Rattle.value_coordinate.specs.angle.Angles.{padded_of, parts_of, is_spelled, angled_of, angle_of}
use Rattle.value_coordinate.specs.axes.Axes.{bound_of, letter_of}
use Rattle.value_coordinate.specs.grid.Grid.{present_of, grid_of}
use Rattle.value_field.specs.spelling.Reading.{text_reading, number_in, whole_reading, reading_of}
use Rattle.format_layout.specs.Shape.{bytes}
use Rattle.format_layout.specs.Table.{layouts, passed_codes}
use Rattle.format_code.specs.Codes.{byte_fits, fits_at, fits, codes, place_in, code_at, code_of}
use Rattle.format_layout.specs.Layouts.{layout_at, fields_of, label_of}
use Rattle.format_layout.specs.ranges.Ranges.{in_range}
use Rattle.value_text.specs.printable.Bytes.{first_bad}
use Rattle.card_field.specs.judging.Fields.{spelling_of, value_of, held_of, judged_of}
use Rattle.card_field.specs.needing.Needs.{columns_of, is_blank, any_second, needed_on}
use Rattle.format_layout.specs.declared.Form.{Form}
use Rattle.format_layout.specs.declared.Form.TheVariants.{Angles, Grid, Unknown}
use Rattle.card_check.specs.Judging.{field_offence, filled_at, gap_offence, column_offence, label_stands, label_offence, offence_at, verdict_at, verdict_from, code_verdict, verdict_of}
use Rattle.std.specs.Prelude.{Result, Err, ⊤}
use Rattle.card_check.specs.declared.Offence.{Offence}
use Rattle.base_refusal.specs.Refusals.{no_refusal}
use Rattle.card_check.specs.Verdicts.{offending}

-- the verdicts on texts with blanks behind them up to column 80
abbrev verdicts : Form → List String → List (Result ⊤ Offence)
verdicts form [] = []
verdicts form (t ∷ ts) = verdict_of (take 80 (bytes t ++ replicate 80 32)) form ∷ verdicts form ts

-- labels and gaps: a blank label, a byte behind the label, the leftmost of two offences
pub labels : verdicts Angles ("H0004" ∷ "H0004Client:" ∷ "H0004Client:x" ∷ "H0110" ∷ "H1410 any text" ∷ "H2110   xy" ∷ [])
    ≡ Err (offending 8 6) ∷ no_refusal ∷ Err (offending 7 13) ∷ Err (offending 5 1) ∷ no_refusal ∷ Err (offending 9 7) ∷ []
unfolding first first_from alike blanks unpadded leading behind value_from point_of figures_of signed_of number_held sign_of number_of_read text_end text_of leading_blank is_leap is_short days_in is_date dated_of date_of padded_of parts_of is_spelled angled_of angle_of bound_of letter_of present_of grid_of text_reading whole_reading number_in reading_of layouts passed_codes byte_fits fits_at fits codes place_in code_at code_of layout_at fields_of label_of in_range first_bad columns_of is_blank spelling_of any_second needed_on value_of held_of judged_of field_offence filled_at gap_offence column_offence label_stands label_offence offence_at verdict_at verdict_from code_verdict verdict_of
labels = refl

-- a coordinate by its form: as angles, as a grid, and passed over; a passed-over one still makes its second set present
abbrev waypoints : List String
waypoints =
    "H0019 1   1 0523010.250N"
    ∷ "H0019 1   1 0523010.250X"
    ∷ "H0019 1   1 0996010.250N"
    ∷ "H0019 1   1                               0523010.250N"
    ∷ "H0019 1   1 0523010.250Nx"
    ∷ "H0019 1"
    ∷ "H0019 1 x"
    ∷ []

pub by_angles : verdicts Angles waypoints
    ≡ no_refusal ∷ Err (offending 9 13) ∷ Err (offending 10 13) ∷ Err (offending 11 39) ∷ Err (offending 7 25) ∷ Err (offending 11 9) ∷ Err (offending 9 9) ∷ []
unfolding first first_from alike blanks unpadded leading behind value_from point_of figures_of signed_of number_held sign_of number_of_read text_end text_of leading_blank is_leap is_short days_in is_date dated_of date_of padded_of parts_of is_spelled angled_of angle_of bound_of letter_of present_of grid_of text_reading whole_reading number_in reading_of layouts passed_codes byte_fits fits_at fits codes place_in code_at code_of layout_at fields_of label_of in_range first_bad columns_of is_blank spelling_of any_second needed_on value_of held_of judged_of field_offence filled_at gap_offence column_offence label_stands label_offence offence_at verdict_at verdict_from code_verdict verdict_of
by_angles = refl

pub by_grid : verdicts Grid waypoints
    ≡ no_refusal ∷ Err (offending 9 13) ∷ no_refusal ∷ Err (offending 11 39) ∷ Err (offending 7 25) ∷ Err (offending 11 9) ∷ Err (offending 9 9) ∷ []
unfolding first first_from alike blanks unpadded leading behind value_from point_of figures_of signed_of number_held sign_of number_of_read text_end text_of leading_blank is_leap is_short days_in is_date dated_of date_of padded_of parts_of is_spelled angled_of angle_of bound_of letter_of present_of grid_of text_reading whole_reading number_in reading_of layouts passed_codes byte_fits fits_at fits codes place_in code_at code_of layout_at fields_of label_of in_range first_bad columns_of is_blank spelling_of any_second needed_on value_of held_of judged_of field_offence filled_at gap_offence column_offence label_stands label_offence offence_at verdict_at verdict_from code_verdict verdict_of
by_grid = refl

pub by_none : verdicts Unknown waypoints
    ≡ no_refusal ∷ no_refusal ∷ no_refusal ∷ Err (offending 11 39) ∷ Err (offending 7 25) ∷ Err (offending 11 9) ∷ Err (offending 9 9) ∷ []
unfolding first first_from alike blanks unpadded leading behind value_from point_of figures_of signed_of number_held sign_of number_of_read text_end text_of leading_blank is_leap is_short days_in is_date dated_of date_of padded_of parts_of is_spelled angled_of angle_of bound_of letter_of present_of grid_of text_reading whole_reading number_in reading_of layouts passed_codes byte_fits fits_at fits codes place_in code_at code_of layout_at fields_of label_of in_range first_bad columns_of is_blank spelling_of any_second needed_on value_of held_of judged_of field_offence filled_at gap_offence column_offence label_stands label_offence offence_at verdict_at verdict_from code_verdict verdict_of
by_none = refl
