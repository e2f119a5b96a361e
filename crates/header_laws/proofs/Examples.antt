-- Small headers with their answers, as one statement: the decisions D5 to D12.
use Prim.Native.Nat.{ℕ}
use Prim.Native.String.{String}
use mathlib.Core.Path.{◌≡◌, refl}
use mathlib.Core.List.{List, [], ◌∷◌, ◌++◌, map}
use lib.ListN.{take, replicate}
use Rattle.base_lists.specs.Count.{count, first, first_from}
use Rattle.base_lists.specs.Parts.{alike, part}
use Rattle.base_digits.specs.digits.Figures.{blanks, unpadded, leading, behind, value_from}
use Rattle.value_number.specs.number.Reading.{point_of, figures_of, held_of as number_held, sign_of, number_of as number_of_read}
use Rattle.base_digits.specs.signs.Signs.{signed_of}
use Rattle.value_text.specs.text.Texts.{text_end, text_of, leading_blank}
use Rattle.value_date.specs.Calendar.{is_leap, is_short, days_in, is_date}
use Rattle.value_date.specs.Dates.{dated_of, date_of}
use Rattle.value_coordinate.specs.angle.Angles.{padded_of, parts_of, is_spelled, angled_of, angle_of}
use Rattle.value_coordinate.specs.axes.Axes.{bound_of, letter_of}
use Rattle.value_coordinate.specs.grid.Grid.{present_of, grid_of}
use Rattle.value_field.specs.spelling.Reading.{text_reading, number_in, whole_reading, reading_of}
use Rattle.format_layout.specs.Shape.{bytes}
use Rattle.format_layout.specs.Table.{layouts, passed_codes}
use Rattle.format_code.specs.Codes.{byte_fits, fits_at, fits, codes, place_in, code_at, code_of}
use Rattle.format_layout.specs.Layouts.{layout_at, fields_of, label_of}
use Rattle.format_layout.specs.ranges.Ranges.{in_range}
use Rattle.base_refusal.specs.Refusals.{refusal, no_refusal}
use Rattle.value_text.specs.printable.Bytes.{first_bad}
use Rattle.card_field.specs.judging.Fields.{spelling_of, value_of, held_of, judged_of}
use Rattle.card_field.specs.needing.Needs.{columns_of, is_blank, any_second, needed_on}
use Rattle.card_check.specs.Judging.{field_offence, filled_at, gap_offence, column_offence, label_stands, label_offence, offence_at, verdict_at as column_verdict, verdict_from, code_verdict, verdict_of}
use Rattle.header_check.specs.forms.Cards.{card_at, cards_in, byte_in, layout_of}
use Rattle.header_check.specs.forms.Forms.{form_said, only_form, states_line, states_grid, line_form, grid_form, form_of}
use Rattle.header_check.specs.Opening.{code_number, number_before, goes_on, continues, block_end, has_line, stands_at}
use Rattle.header_check.specs.Refusing.{readable, placed_verdict, end_verdict, verdict_at, offends, answer_for, answer_at, cards_answer, refusal_of}
use Rattle.std.specs.Prelude.{Result, Err, ⊤}
use Rattle.base_refusal.specs.declared.Refusal.{Refusal}

-- texts as cards, each with blanks behind it up to column 80
abbrev cards : List String → List ℕ
cards [] = []
cards (t ∷ ts) = take 80 (bytes t ++ replicate 80 32) ++ cards ts

-- cards 1 to 8 with labels only
abbrev eight : List ℕ
eight =
    cards ("H0000Line Name:" ∷ "H0001Project Name:" ∷ "H0002Project Description:" ∷ "H0003Media Specification:" ∷ [])
    ++ cards ("H0004Client:" ∷ "H0005Geophysical Contractor:" ∷ [])
    ++ cards ("H0006Positioning Contractor:" ∷ "H0007Processing Contractor:" ∷ [])

-- these, card 9 for vessel 1 with form 1, and further cards
abbrev base : List String → List ℕ
base ts = eight ++ cards ("H0018Line Parameters Vessel: 1 1" ∷ ts)

-- two H00@8, of which the first has a northing
abbrev twice : String → List ℕ
twice t = eight ++ cards ("H0018Line Parameters Vessel: 1 1 0996010.250N" ∷ t ∷ [])

-- a header and its answer
pub record Case : Type 0 where
  pub header : List ℕ
  pub answer : Result ⊤ Refusal

abbrev case : List ℕ → Result ⊤ Refusal → Case
case h a = record { header = h; answer = a }

abbrev refused : ℕ → ℕ → ℕ → Result ⊤ Refusal
refused n card column = Err (refusal n card column)

abbrev cases : List Case
cases =
    -- the opening block alone
    case (base []) no_refusal ∷
    -- the leftmost column decides, whatever its number
    case (base ("H2110   xy" ∷ [])) (refused 9 10 7) ∷
    -- a blank label is an 8, a byte just behind a label a 7; both before cards are missing
    case (cards ("H0000Line Name:" ∷ "H0001" ∷ [])) (refused 8 2 6) ∷
    case (cards ("H0000Line Name:x" ∷ [])) (refused 7 1 16) ∷
    -- the card that cannot continue the block; a comment ends it, also before a code that would rise; no H0004 later
    case (cards ("H0000Line Name:" ∷ "H0001Project Name:" ∷ "H0003Media Specification:" ∷ [])) (refused 6 3 1) ∷
    case (base ("C0001" ∷ "H0019 1   1" ∷ [])) (refused 6 11 1) ∷
    case (base ("H0004Client:" ∷ [])) (refused 6 10 1) ∷
    -- H00@8 and H00@9 by code number: vessel by vessel, equal codes; not all H00@8 before any H00@9
    case (base ("H0019 1   1" ∷ "H0028Line Parameters Vessel: 2 1" ∷ "H0029 2   1" ∷ "H0029 2   2" ∷ "C0001" ∷ [])) no_refusal ∷
    case (base ("H0028Line Parameters Vessel: 2 1" ∷ "H0019 1   1" ∷ [])) (refused 6 11 1) ∷
    case (base ("H0009 0   1" ∷ [])) (refused 6 10 1) ∷
    -- an H00@9 needs no H00@8 before it, but the block does: else its first card behind it is out of place, or its end
    case (eight ++ cards ("H0009 0   1" ∷ "H0018Line Parameters Vessel: 1 1" ∷ [])) no_refusal ∷
    case (eight ++ cards ("H0019 1   1" ∷ "C0001" ∷ [])) (refused 6 10 1) ∷
    case (eight ++ cards ("H0019 1   1" ∷ "E1000" ∷ [])) (refused 5 10 1) ∷
    case (eight ++ cards ("H0019 1   1" ∷ [])) (refused 6 10 1) ∷
    -- missing cards come last; a card where an H00@8 has to stand is out of place; 5 comes before 6
    case (cards ("H0000Line Name:" ∷ "H0001Project Name:" ∷ [])) (refused 6 3 1) ∷
    case eight (refused 6 9 1) ∷
    case (eight ++ cards ("C0001" ∷ [])) (refused 6 9 1) ∷
    case (eight ++ cards ("C0003" ∷ [])) (refused 5 9 1) ∷
    -- a byte that is not printable on a passed card
    case (base [] ++ bytes "H1410" ++ replicate 74 32 ++ (127 ∷ [])) (refused 4 10 80) ∷
    -- coordinates of a vessel that has no H00@8 are passed over, the gaps beside them not
    case (base ("H0039 3   1 no latitude " ∷ [])) no_refusal ∷
    case (base ("H0039 3   1xno latitude " ∷ [])) (refused 7 10 12) ∷
    -- a gap makes no second set present, a coordinate that is passed over does
    case (base ("H0039 3   1                              x" ∷ [])) (refused 7 10 42) ∷
    case (base ("H0039 3   1                               no latitude " ∷ [])) (refused 11 10 39) ∷
    -- the form of the only H00@8 with the vessel: form 1, then two of them, one of them later and out of place
    case (base ("H0029 1   1 0996010.250N" ∷ [])) no_refusal ∷
    case (base ("H0019 1   1 no latitude " ∷ [])) (refused 9 10 13) ∷
    case (base ("H0028Line Parameters Vessel: 1 0" ∷ "H0029 1   1 no latitude " ∷ [])) no_refusal ∷
    case (base ("H0019 1   1 no latitude " ∷ "C0001" ∷ "H0028Line Parameters Vessel: 1 0" ∷ [])) (refused 6 12 1) ∷
    -- the grid may stand behind its points; two of them state nothing
    case (base ("H0101    5 0996010.250N" ∷ "H0100               1" ∷ [])) no_refusal ∷
    case (base ("H0101    5 0996010.250N" ∷ "H0100               0" ∷ [])) (refused 10 10 12) ∷
    case (base ("H0101    5 no latitude " ∷ "H0100               0" ∷ "H0100               0" ∷ [])) no_refusal ∷
    -- an H00@8 reads its own coordinates by its own form, also where two have one vessel
    case (twice "H0028Line Parameters Vessel: 1 0 0523010.250N") no_refusal ∷
    case (twice "H0028Line Parameters Vessel: 1 0 0996010.250N") (refused 10 10 34) ∷
    -- lengths
    case [] (refused 1 0 0) ∷
    case (replicate 79 32) (refused 2 0 0) ∷
    []

pub all_answered : map (λ (k : Case). refusal_of k.header) cases ≡ map (λ (k : Case). k.answer) cases
unfolding count first first_from alike part blanks unpadded leading behind value_from point_of figures_of signed_of number_held
    sign_of number_of_read text_end text_of leading_blank is_leap is_short days_in is_date dated_of date_of padded_of parts_of is_spelled
    angled_of angle_of bound_of letter_of present_of grid_of text_reading whole_reading
    number_in reading_of layouts passed_codes byte_fits fits_at fits codes place_in code_at code_of layout_at fields_of label_of in_range first_bad
    columns_of is_blank spelling_of any_second needed_on value_of held_of judged_of field_offence filled_at gap_offence column_offence
    label_stands label_offence offence_at column_verdict verdict_from code_verdict verdict_of card_at cards_in byte_in layout_of form_said
    only_form states_line states_grid line_form grid_form form_of code_number number_before goes_on continues block_end has_line stands_at readable placed_verdict
    end_verdict verdict_at offends answer_for answer_at cards_answer refusal_of
all_answered = refl
