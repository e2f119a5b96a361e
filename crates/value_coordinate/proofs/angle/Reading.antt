-- What each way through the reading of an angle finds.
use Prim.Native.Nat.{ℕ, ◌+◌, ◌^◌, ◌≤◌, ◌<◌}
use native.Mathlib.Omega.{arith}
use native.Mathlib.Nat.{pow-le-pow_right}
use mathlib.Core.Path.{◌≡◌, sym, ap, ◌∙◌}
use mathlib.Core.List.{List, [], ◌∷◌, ◌++◌, append-nil}
use mathlib.Core.Bool.{Bool, true, false, cond, ◌&&◌}
use lib.ListN.{length, get_or, drop, length-take, length-drop}
use lib.Dec.{eqb, lit<}
use lib.IntN.{ℤ}
use borrow.Author.Tests.{eq-eqb, ne_eqb, eqb-true, lt-ltb, le-ltb, le-leb, lt-leb}
use Rattle.base_digits.specs.digits.Figures.{blanks, unpadded, leading, behind, value_from, capped}
use Rattle.base_digits.proofs.digits.Numbers.{value_below}
use Rattle.base_digits.proofs.digits.Walk.{leading-take}
use Rattle.base_digits.proofs.digits.Bools.{and_left, and_right}
use Rattle.base_digits.proofs.digits.Blank.{blank_at}
use Rattle.value_number.specs.number.Reading.{point_of, figures_of}
use Rattle.base_digits.specs.signs.Signs.{signed_of}
use Rattle.value_coordinate.specs.axes.Axes.{bound_of, letter_of, is_letter}
use Rattle.value_coordinate.specs.angle.Angles.{part, padded_of, is_number, units_of, parts_of, is_spelled, arc_of, angled_of, angle_of}
use Rattle.value_coordinate.specs.declared.axes.Axis.{Axis}
use Rattle.value_coordinate.specs.declared.angle.Parts.{Parts}
use Rattle.base_value.specs.declared.Value.TheVariants.{Absent, Angle}
use Rattle.base_value.specs.declared.Unread.TheVariants.{Malformed, OutOfRange}
use Rattle.std.specs.Prelude.{Ok, Err, Option, Some, None}
use Rattle.value_number.specs.declared.number.Figures.{Figures}
use Rattle.value_number.specs.number.Figures.{figures}

pub same_parts : {d e m n s r t u : Option Figures} → d ≡ e → m ≡ n → s ≡ r → t ≡ u
    → ◌≡◌ {A = Parts} (record { degrees = d; minutes = m; seconds = s; thousandths = t }) (record { degrees = e; minutes = n; seconds = r; thousandths = u })
same_parts a b c d = λ i. record { degrees = a i; minutes = b i; seconds = c i; thousandths = d i }

-- three columns hold no more than 999
three : (t : List ℕ) → length t ≤ 3 → units_of (figures_of false t) < 1000
unfolding figures_of point_of
three t h = go (behind t)
  where
    small : value_from 0 (leading t) < 1000
    small =
        let k : length (leading t) ≤ 3 = omega (arith, ap length (leading-take t) ∙ length-take (length (leading t)) t) in
        let p : 10 ^ length (leading t) ≤ 10 ^ 3 = pow-le-pow_right (lit< tt) k in
        omega (arith, value_below 0 t)

    none-or-small : (b : Bool) → units_of (cond b None (Some (figures (capped (value_from 0 (leading t ++ []))) 0))) < 1000
    none-or-small true = omega arith
    none-or-small false = rw append-nil (let v : value_from 0 (leading t) < 1000 = small in omega arith)

    go : (b : List ℕ) → units_of (point_of false (leading t) b) < 1000
    go [] = none-or-small (eqb (length (leading t) + 0) 0)
    go (b ∷ r) = omega arith

pub parts-small : (s : List ℕ) → (units_of (parts_of s).degrees < 1000) × (units_of (parts_of s).thousandths < 1000)
unfolding parts_of padded_of unpadded
parts-small s = (
  three (drop (blanks (part 0 3 s)) (part 0 3 s)) (simp (length-drop, length-take) (omega arith)),
  three (part 8 11 s) (simp (length-take) (omega arith)),
)

-- an angle on its axis
module _ (a : Axis) (minus : Bool) (p : Parts) where
  pub minutes_outside : 60 ≤ units_of p.minutes → (Err OutOfRange) ≡ angled_of a minus p
  unfolding angled_of
  minutes_outside h = rw (le-ltb (units_of p.minutes) 60 h)

  module _ (within : units_of p.minutes < 60) where
    pub seconds_outside : 60 ≤ units_of p.seconds → (Err OutOfRange) ≡ angled_of a minus p
    unfolding angled_of
    seconds_outside h = rw (lt-ltb (units_of p.minutes) 60 within, le-ltb (units_of p.seconds) 60 h)

    module _ (too : units_of p.seconds < 60) (n : ℕ) (e : n ≡ arc_of p) (b : ℕ) (f : b ≡ bound_of a) where
      pub arc_outside : b < n → (Err OutOfRange) ≡ angled_of a minus p
      unfolding angled_of
      arc_outside h =
          rw (← e, ← f, lt-ltb (units_of p.minutes) 60 within, lt-ltb (units_of p.seconds) 60 too, lt-leb n b h)

      pub arc_within : n ≤ b → (z : ℤ) → z ≡ signed_of minus n → Ok (Angle z) ≡ angled_of a minus p
      unfolding angled_of
      arc_within h z q =
          rw (← e, ← f, lt-ltb (units_of p.minutes) 60 within, lt-ltb (units_of p.seconds) 60 too, le-leb n b h, q)

module _ (a : Axis) (s : List ℕ) where
  pub angle_width : (length s ≡ 12 → ⊥) → cond (eqb (blanks s) (length s)) (Ok Absent) (Err Malformed) ≡ angle_of a s
  unfolding angle_of
  angle_width h = rw (ne_eqb (length s) 12 h)

  module _ (wide : length s ≡ 12) (p : Parts) (q : p ≡ parts_of s) (b : Bool) (r : b ≡ is_spelled a p (get_or s 7 0) (get_or s 11 0)) where
    pub angle_other : b ≡ false → cond (eqb (blanks s) (length s)) (Ok Absent) (Err Malformed) ≡ angle_of a s
    unfolding angle_of
    angle_other h = rw (eq-eqb (length s) 12 wide, ← q, ← r, h)

    -- the point is no blank
    present : b ≡ true → eqb (blanks s) (length s) ≡ false
    unfolding is_spelled
    present h =
        let n = (is_number p.degrees && is_number p.minutes) && (is_number p.seconds && is_number p.thousandths) in
        let t = and_right n (eqb (get_or s 7 0) 46 && is_letter a (get_or s 11 0)) (sym r ∙ h) in
        let point : get_or s 7 0 ≡ 46 = eqb-true (get_or s 7 0) 46 (and_left (eqb (get_or s 7 0) 46) (is_letter a (get_or s 11 0)) t) in
        ne_eqb (blanks s) (length s) (λ e. let x : 46 ≡ 32 = sym point ∙ blank_at s 7 e (omega arith) in omega arith)

    pub angle_parts : b ≡ true → (l : ℕ) → l ≡ letter_of a true → angled_of a (eqb (get_or s 11 0) l) p ≡ angle_of a s
    unfolding angle_of
    angle_parts h l k = rw (present h, eq-eqb (length s) 12 wide, ← q, ← r, h, ← k)
