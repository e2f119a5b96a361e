-- The two axes: how far an angle goes from the middle, and the letters that say which way.
use Rattle.std.specs.Prelude.{ℕ, Bool, true, false, ◌||◌, eqb}
use Rattle.value_coordinate.specs.declared.axes.Axis.{Axis}
use Rattle.value_coordinate.specs.declared.axes.Axis.TheVariants.{Y, X}

-- 90 and 180 degrees, in thousandths of a second of arc
unfoldable pub bound_of : Axis → ℕ
bound_of Y = 324000000
bound_of X = 648000000

-- N or S, E or W; the second of each is for what is below zero
unfoldable pub letter_of : Axis → Bool → ℕ
letter_of Y false = 78
letter_of Y true = 83
letter_of X false = 69
letter_of X true = 87

abbrev pub is_letter : Axis → ℕ → Bool
is_letter a b = eqb b (letter_of a false) || eqb b (letter_of a true)
