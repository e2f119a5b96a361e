-- A slip ruled out by name: the form is not guessed. One text is a good latitude and a good northing; the form that is given
-- says which of the two it is.
use Prim.Native.Nat.{ℕ}
use mathlib.Core.Path.{◌≡◌, refl}
use mathlib.Core.List.{List}
use lib.IntN.{pos}
use Rattle.base_digits.specs.digits.Figures.{blanks, unpadded, leading, behind, value_from}
use Rattle.value_number.specs.number.Reading.{point_of, figures_of, held_of, sign_of, number_of}
use Rattle.base_digits.specs.signs.Signs.{signed_of}
use Rattle.value_coordinate.specs.axes.Axes.{bound_of, letter_of}
use Rattle.value_coordinate.specs.angle.Angles.{padded_of, parts_of, is_spelled, angled_of, angle_of}
use Rattle.value_coordinate.specs.grid.Grid.{present_of, grid_of}
use Rattle.format_layout.specs.declared.Kind.TheVariants as kind
use Rattle.format_layout.specs.declared.Form.TheVariants.{Angles, Grid}
use Rattle.card_field.specs.judging.Fields.{spelling_of}
use Rattle.base_value.specs.declared.Value.TheVariants as value
use Rattle.value_field.specs.spelling.Reading.{reading_of}
use Rattle.card_laws.specs.rewriting.Edges.{bytes, decimal}
use Rattle.std.specs.Prelude.{Ok}

abbrev pub ambiguous : List ℕ
ambiguous = bytes "0523010.250N"

-- 52 degrees, 30 minutes and 10.250 seconds in form 0; 523010.250 in form 1
pub form-decides :
    (reading_of (spelling_of kind.Latitude Angles) ambiguous ≡ Ok (value.Angle (pos 189010250))) ×
    (reading_of (spelling_of kind.Latitude Grid) ambiguous ≡ Ok (decimal (pos 523010250) 3))
unfolding reading_of spelling_of
    blanks unpadded leading behind value_from point_of figures_of signed_of held_of sign_of number_of
    bound_of letter_of padded_of parts_of is_spelled angled_of angle_of present_of grid_of
form-decides = (refl, refl)
