-- An angle that is read can be written into the columns it stood in.
use Prim.Native.Nat.{ℕ}
use native.Mathlib.Omega.{arith}
use mathlib.Core.Path.{◌≡◌, refl, sym, ap, ◌∙◌}
use mathlib.Core.List.{List, [], ◌∷◌, ◌++◌}
use mathlib.Core.Bool.{Bool, true, false, cond, ◌&&◌}
use lib.ListN.{length, get_or}
use lib.Dec.{eqb, leb, ltb}
use lib.IntN.{ℤ, nat_abs}
use Rattle.base_digits.specs.digits.Figures.{blanks}
use Rattle.base_digits.specs.digits.Columns.{agreed}
use Rattle.base_digits.specs.signs.Signs.{signed_of, is_minus}
use Rattle.value_number.proofs.number_entry.Agreed.{signed-size}
use Rattle.value_number.specs.number_entry.Spelling.{plain}
use Rattle.value_coordinate.specs.axes.Axes.{bound_of, letter_of}
use Rattle.value_coordinate.specs.angle.Angles.{units_of, parts_of, is_spelled, arc_of, angled_of, angle_of}
use Rattle.value_coordinate.specs.coordinate_entry.Plotting.{figures_in, angle_in}
use Rattle.value_coordinate.specs.declared.axes.Axis.{Axis}
use Rattle.base_value.specs.declared.Value.TheVariants.{Absent, Angle}
use Rattle.base_value.specs.declared.Unread.TheVariants.{Malformed, OutOfRange}
use Rattle.std.specs.Prelude.{Ok, Err}

pub angle_agreed : (a : Axis) (s : List ℕ) (z : ℤ) → angle_of a s ≡ Ok (Angle z) → (t : List ℕ) × (angle_in a (length s) z ≡ agreed t)
unfolding angle_of angled_of angle_in
angle_agreed a s z h =
    go (eqb (blanks s) (length s)) (eqb (length s) 12) refl (is_spelled a (parts_of s) (get_or s 7 0) (get_or s 11 0))
    (ltb (units_of (parts_of s).minutes) 60 && ltb (units_of (parts_of s).seconds) 60)
    (leb (arc_of (parts_of s)) (bound_of a)) refl h
  where
    n : ℕ
    n = arc_of (parts_of s)

    minus : Bool
    minus = eqb (get_or s 11 0) (letter_of a true)

    room : eqb (length s) 12 ≡ true → leb n (bound_of a) ≡ true → signed_of minus n ≡ z
        → angle_in a (length s) z ≡ agreed (plain 7 3 (figures_in (nat_abs z)) ++ (letter_of a (is_minus z) ∷ []))
    room w f e = let q : nat_abs z ≡ n = ap nat_abs (sym e) ∙ signed-size minus n in rw (ap (λ k. leb k (bound_of a)) q ∙ f, w)

    go : (b c : Bool) → eqb (length s) 12 ≡ c → (d e f : Bool) → leb n (bound_of a) ≡ f
        → cond b (Ok Absent) (cond (c && d) (cond (e && f) (Ok (Angle (signed_of minus n))) (Err OutOfRange)) (Err Malformed)) ≡ Ok (Angle z)
        → (t : List ℕ) × (angle_in a (length s) z ≡ agreed t)
    go true c p d e f q r = absurd (let x : ◌≡◌ {A = ℕ} 0 1 = cc in omega arith)
    go false false p d e f q r = absurd (let x : ◌≡◌ {A = ℕ} 0 1 = cc in omega arith)
    go false true p false e f q r = absurd (let x : ◌≡◌ {A = ℕ} 0 1 = cc in omega arith)
    go false true p true false f q r = absurd (let x : ◌≡◌ {A = ℕ} 0 1 = cc in omega arith)
    go false true p true true false q r = absurd (let x : ◌≡◌ {A = ℕ} 0 1 = cc in omega arith)
    go false true p true true true q r = (plain 7 3 (figures_in (nat_abs z)) ++ (letter_of a (is_minus z) ∷ []), room p q (cc))
