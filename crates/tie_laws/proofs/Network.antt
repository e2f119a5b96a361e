-- The worked example of a network: its 23 cards are accepted, and have five faults.
use mathlib.Core.Path.{◌≡◌, refl}
use mathlib.Core.List.{[], ◌∷◌}
use Rattle.base_lists.specs.Count.{count, first, first_from}
use Rattle.base_lists.specs.Parts.{alike, part}
use Rattle.base_digits.specs.digits.Figures.{blanks, unpadded, leading, behind, value_from}
use Rattle.base_digits.specs.signs.Signs.{signed_of}
use Rattle.value_number.specs.number.Reading.{point_of, figures_of, held_of as number_held, sign_of, number_of}
use Rattle.value_text.specs.text.Texts.{text_end, text_of, leading_blank}
use Rattle.value_date.specs.Dates.{date_of}
use Rattle.value_coordinate.specs.grid.Grid.{present_of, grid_of}
use Rattle.value_coordinate.specs.axes.Axes.{bound_of, letter_of}
use Rattle.value_coordinate.specs.angle.Angles.{padded_of, parts_of, is_spelled, angled_of, angle_of}
use Rattle.value_field.specs.spelling.Reading.{text_reading, number_in, whole_reading, reading_of}
use Rattle.format_layout.specs.Table.{layouts, passed_codes}
use Rattle.format_layout.specs.Layouts.{layout_at, fields_of, label_of}
use Rattle.format_layout.specs.ranges.Ranges.{in_range}
use Rattle.format_code.specs.Codes.{byte_fits, fits_at, fits, codes, place_in, code_at, code_of}
use Rattle.value_text.specs.printable.Bytes.{first_bad}
use Rattle.card_field.specs.judging.Fields.{spelling_of, value_of, held_of, judged_of}
use Rattle.card_field.specs.needing.Needs.{columns_of, is_blank, any_second, needed_on}
use Rattle.card_check.specs.Judging.{field_offence, filled_at, gap_offence, column_offence, label_stands, label_offence, offence_at, verdict_at as column_verdict, verdict_from, code_verdict, verdict_of}
use Rattle.header_check.specs.forms.Cards.{card_at, cards_in, byte_in, layout_of}
use Rattle.header_check.specs.forms.Forms.{form_said, only_form, states_line, line_form, form_of}
use Rattle.header_check.specs.Opening.{code_number, number_before, goes_on, continues, block_end, has_line, stands_at}
use Rattle.header_check.specs.Refusing.{readable, placed_verdict, end_verdict, verdict_at, offends, answer_for, answer_at, cards_answer, refusal_of}
use Rattle.tie_laws.proofs.Complete.{list_of}
use Rattle.tie_laws.proofs.NetworkCards.{network}
use Rattle.tie_laws.proofs.NetworkSteps.{by_cards}
use Rattle.base_refusal.specs.Refusals.{no_refusal}

pub accepted : refusal_of network ≡ no_refusal
unfolding count first first_from alike part blanks unpadded leading behind value_from signed_of point_of figures_of number_held
    sign_of number_of text_end text_of leading_blank date_of present_of grid_of bound_of letter_of padded_of parts_of is_spelled angled_of
    angle_of text_reading number_in whole_reading
    reading_of layouts passed_codes layout_at fields_of label_of in_range byte_fits fits_at fits codes place_in code_at code_of first_bad
    columns_of is_blank spelling_of any_second needed_on value_of held_of judged_of field_offence filled_at gap_offence column_offence
    label_stands label_offence offence_at column_verdict verdict_from code_verdict verdict_of card_at cards_in byte_in layout_of form_said
    only_form states_line line_form form_of code_number number_before goes_on continues block_end has_line stands_at readable
    placed_verdict end_verdict verdict_at offends answer_for answer_at cards_answer refusal_of network
accepted = refl

-- card, column, kind, vessel: node 31 of two codes, node 4 of vessel 2 on a streamer of vessel 1, a range to node 31, and
-- parameters of an observation that stands nowhere
pub worked : list_of network
    ≡ (12 ∷ 11 ∷ 2 ∷ 1 ∷ []) ∷ (15 ∷ 7 ∷ 2 ∷ 1 ∷ []) ∷ (16 ∷ 29 ∷ 4 ∷ 2 ∷ []) ∷ (19 ∷ 34 ∷ 3 ∷ 10 ∷ []) ∷ (23 ∷ 7 ∷ 1 ∷ 10 ∷ []) ∷ []
worked = by_cards
