-- The letters of an axis are told apart, and none is a blank; how far an axis goes at most.
use Prim.Native.Nat.{◌≤◌}
use native.Mathlib.Omega.{arith}
use mathlib.Core.Path.{◌≡◌, refl}
use mathlib.Core.Bool.{Bool, true, false}
use lib.Dec.{eqb}
use Rattle.value_coordinate.specs.axes.Axes.{bound_of, letter_of, is_letter}
use Rattle.value_coordinate.specs.declared.axes.Axis.{Axis}
use Rattle.value_coordinate.specs.declared.axes.Axis.TheVariants.{Y, X}

pub letter_is : (a : Axis) (minus : Bool) → is_letter a (letter_of a minus) ≡ true
unfolding letter_of
letter_is Y false = refl
letter_is Y true = refl
letter_is X false = refl
letter_is X true = refl

pub letter_minus : (a : Axis) (minus : Bool) → eqb (letter_of a minus) (letter_of a true) ≡ minus
unfolding letter_of
letter_minus Y false = refl
letter_minus Y true = refl
letter_minus X false = refl
letter_minus X true = refl

pub letter_blank : (a : Axis) (minus : Bool) → letter_of a minus ≡ 32 → ⊥
unfolding letter_of
letter_blank Y false h = omega arith
letter_blank Y true h = omega arith
letter_blank X false h = omega arith
letter_blank X true h = omega arith

pub bound_most : (a : Axis) → bound_of a ≤ 648000000
unfolding bound_of
bound_most Y = omega arith
bound_most X = omega arith
