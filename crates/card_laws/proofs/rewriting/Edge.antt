-- The values at the edge, as one statement.
use mathlib.Core.Path.{◌≡◌, refl}
use mathlib.Core.List.{map}
use Rattle.base_digits.specs.digits.Figures.{blanks, unpadded, leading, behind, value_from}
use Rattle.base_digits.specs.digits.Digits.{digits, size_up_to}
use Rattle.base_digits.specs.digits.Columns.{right_adjusted}
use Rattle.value_number.specs.number.Reading.{point_of, figures_of, held_of, sign_of, number_of}
use Rattle.base_digits.specs.signs.Signs.{signed_of}
use Rattle.value_number.specs.number_entry.Spelling.{sign, plain, spelled, units_in as units_at, decimal_in}
use Rattle.value_date.specs.Calendar.{is_leap, is_short, days_in, is_date}
use Rattle.value_date.specs.Dates.{dated_of, date_of, date_in}
use Rattle.value_coordinate.specs.axes.Axes.{bound_of, letter_of}
use Rattle.value_coordinate.specs.angle.Angles.{padded_of, parts_of, is_spelled, angled_of, angle_of}
use Rattle.value_coordinate.specs.coordinate_entry.Plotting.{angle_in}
use Rattle.value_text.specs.text.Texts.{text_end, text_of}
use Rattle.value_field.specs.spelling.Reading.{number_in, pushed_left, reading_of, misplaced_in}
use Rattle.value_field.specs.writing.Writing.{rewritten_of, again_in, entry_of, units_in, day_in, arc_in}
use Rattle.card_laws.specs.rewriting.Edges.{found, edges}

pub edge : map found edges ≡ edges
unfolding text_end text_of number_in pushed_left reading_of misplaced_in rewritten_of again_in entry_of units_in day_in arc_in
    blanks unpadded leading behind value_from digits size_up_to right_adjusted
    point_of figures_of signed_of held_of sign_of number_of sign plain spelled units_at decimal_in
    is_leap is_short days_in is_date dated_of date_of date_in
    bound_of letter_of padded_of parts_of is_spelled angled_of angle_of angle_in
edge = refl
