-- What each reading can be: absent, a value of its one kind, or no value.
use mathlib.Core.List.{List, [], ◌∷◌}
use mathlib.Core.Bool.{Bool, true, false, cond, ◌&&◌}
use Prim.Native.Nat.{ℕ, ◌-◌}
use lib.ListN.{length, get_or, take}
use lib.Dec.{eqb, leb, ltb}
use Rattle.base_digits.specs.digits.Figures.{blanks, unpadded, value_from, limit}
use Rattle.base_digits.specs.signs.Signs.{signed_of}
use Rattle.base_value.specs.declared.Date.{Date as DateOf}
use Rattle.base_value.specs.declared.Value.{Value}
use Rattle.base_value.specs.declared.Value.TheVariants.{Absent, Decimal, Angle, Date}
use Rattle.base_value.specs.declared.Unread.TheVariants.{Malformed, OutOfRange}
use Rattle.value_number.specs.number.Reading.{all_digits, held_of, sign_of, number_of}
use Rattle.value_date.specs.Calendar.{is_date}
use Rattle.value_date.specs.Dates.{parts_of as parts_in, dated_of, date_of}
use Rattle.value_coordinate.specs.declared.axes.Axis.{Axis}
use Rattle.value_coordinate.specs.declared.angle.Parts.{Parts}
use Rattle.value_coordinate.specs.angle.Angles.{units_of, parts_of, arc_of, is_spelled, angled_of, angle_of}
use Rattle.value_coordinate.specs.axes.Axes.{bound_of, letter_of}
use Rattle.value_coordinate.specs.grid.Grid.{present_of, grid_of}
use Rattle.value_text.specs.text.Texts.{text_of}
use Rattle.value_field.specs.spelling.Reading.{number_in}
use Rattle.std.specs.Prelude.{Result, Ok, Err, Option, Some, None}
use Rattle.base_value.specs.declared.Unread.{Unread}
use Rattle.value_number.specs.declared.number.Figures.{Figures}

-- what holds of blanks, of every value of the kind, and of both ways to be none, holds of the reading
abbrev pub OfKind : {A : Type 0} → (A → Value) → Result Value Unread → Type 1
OfKind {A} kind r = (P : Result Value Unread → Type 0) → P (Ok Absent) → ((x : A) → P (Ok (kind x))) → P (Err Malformed) → P (Err OutOfRange) → P r

by_test : (P : Result Value Unread → Type 0) (b : Bool) {x y : Result Value Unread} → P x → P y → P (cond b x y)
by_test P true p q = p
by_test P false p q = q

held_kind : (minus : Bool) (f : Option Figures) → OfKind Decimal (held_of minus f)
unfolding held_of
held_kind minus None P a k m o = m
held_kind minus (Some f) P a k m o = by_test P (ltb f.units limit) (k _) o

sign_kind : (point : Bool) (s : List ℕ) → OfKind Decimal (sign_of point s)
unfolding sign_of
sign_kind point [] P a k m o = a
sign_kind point (b ∷ t) P a k m o =
    by_test P (eqb b 45) (held_kind _ _ P a k m o) (by_test P (eqb b 43) (held_kind _ _ P a k m o) (held_kind _ _ P a k m o))

pub number_kind : (point : Bool) (s : List ℕ) → OfKind Decimal (number_of point s)
unfolding number_of
number_kind point s = sign_kind point (unpadded s)

pub number_in_kind : (point : Bool) (s : List ℕ) → OfKind Decimal (number_in point s)
unfolding number_in
number_in_kind point s = number_kind point (text_of s)

dated_kind : (d : DateOf) → OfKind Date (dated_of d)
unfolding dated_of
dated_kind d P a k m o = by_test P (is_date d) (k d) o

pub date_kind : (s : List ℕ) → OfKind Date (date_of s)
unfolding date_of
date_kind s P a k m o =
    by_test P (eqb (blanks s) (length s)) a
    (by_test P (eqb (length s) 8 && all_digits s) (dated_kind (parts_in (value_from 0 s)) P a k m o) m)

angled_kind : (x : Axis) (minus : Bool) (p : Parts) → OfKind Angle (angled_of x minus p)
unfolding angled_of
angled_kind x minus p P a k m o =
    by_test P ((ltb (units_of p.minutes) 60 && ltb (units_of p.seconds) 60) && leb (arc_of p) (bound_of x)) (k (signed_of minus (arc_of p))) o

pub angle_kind : (x : Axis) (s : List ℕ) → OfKind Angle (angle_of x s)
unfolding angle_of
angle_kind x s P a k m o =
    by_test P (eqb (blanks s) (length s)) a
    (by_test P (eqb (length s) 12 && is_spelled x (parts_of s) (get_or s 7 0) (get_or s 11 0))
    (angled_kind x (eqb (get_or s 11 0) (letter_of x true)) (parts_of s) P a k m o)
    m)

pub grid_kind : (x : Axis) (s : List ℕ) → OfKind Decimal (grid_of x s)
unfolding grid_of present_of
grid_kind x s P a k m o =
    by_test P (eqb (blanks s) (length s)) a
    (by_test P (eqb (get_or s (length s - 1) 0) (letter_of x false))
    (number_kind true (take (length s - 1) s) (λ r. P (present_of r)) m k m o)
    m)
