-- How large a number is by its columns: one of up to eighteen is below the limit.
use Prim.Native.Nat.{ℕ, zero, suc, ◌+◌, ◌*◌, ◌-◌, ◌≤◌, ◌<◌, ◌^◌}
use native.Mathlib.Omega.{arith}
use native.Mathlib.Nat.{lt_of_lt_of_le, le_trans, le_of_eq, mul-le-mul_right, pow-le-pow_right, zero-lt-suc}
use lib.Pow.{pow-add}
use mathlib.Core.Path.{◌≡◌, refl, sym}
use mathlib.Core.List.{List, [], ◌∷◌, ◌++◌}
use mathlib.Core.Bool.{Bool, true, false, cond, ◌&&◌}
use lib.Dec.{eqb, ltb}
use lib.IntN.{nat_abs}
use lib.ListN.{length, length-drop}
use borrow.Author.Tests.{eqb-true}
use Rattle.base_digits.specs.digits.Figures.{is_digit, blanks, unpadded, leading, behind, value_from, limit, capped}
use Rattle.base_digits.proofs.digits.Walk.{value_append, all-leading}
use Rattle.base_digits.proofs.digits.Numbers.{value_below}
use Rattle.base_digits.proofs.digits.Bools.{and_right}
use Rattle.base_digits.specs.signs.Signs.{signed_of}
use Rattle.base_value.specs.declared.Value.TheVariants.{Absent, Whole, Decimal, Angle, Date, Text}
use Rattle.base_value.specs.declared.Unread.TheVariants.{Malformed, OutOfRange}
use Rattle.value_number.specs.number.Reading.{all_digits, counted_of, units_of, point_of, figures_of, held_of, sign_of, number_of}
use Rattle.std.specs.Prelude.{Result, Ok, Err, Option, Some, None}
use Rattle.base_value.specs.declared.Unread.{Unread}
use Rattle.base_value.specs.declared.Value.{Value}
use Rattle.value_number.specs.declared.number.Figures.{Figures}
use Rattle.value_number.specs.number.Figures.{figures}

-- units below 10 ^ w, with at most w places
abbrev pub Within : ℕ → Option Figures → Type 0
Within w None = Unit
Within w (Some f) = (f.units < 10 ^ w) × (f.places ≤ w)

counted-within : (w c n p : ℕ) → n < 10 ^ w → p ≤ w → Within w (counted_of c n p)
counted-within w c n p h l = go (eqb c 0)
  where
    go : (b : Bool) → Within w (cond b None (Some (figures n p)))
    go true = tt
    go false = (h, l)

-- digits behind digits, no more than w
digits_below : (w : ℕ) (t b : List ℕ) → leading b ≡ b → length (leading t) + length b ≤ w → value_from 0 (leading t ++ b) < 10 ^ w
digits_below w t b e h =
    let u : value_from 0 (leading t) < (0 + 1) * 10 ^ length (leading t) = value_below 0 t in
    let v : value_from (value_from 0 (leading t)) b < (value_from 0 (leading t) + 1) * 10 ^ length b =
    rw e at (value_below (value_from 0 (leading t)) b) in
    let y : (value_from 0 (leading t) + 1) * 10 ^ length b ≤ 10 ^ length (leading t) * 10 ^ length b =
    mul-le-mul_right (10 ^ length b) (omega arith) in
    let x : 10 ^ length (leading t) * 10 ^ length b ≤ 10 ^ w =
    le_trans (le_of_eq (sym (pow-add 10 (length (leading t)) (length b)))) (pow-le-pow_right (zero-lt-suc 9) h) in
    rw (value_append 0 (leading t) b) (lt_of_lt_of_le v (le_trans y x))

units_within : (w : ℕ) (t b : List ℕ) → leading b ≡ b → length (leading t) + length b ≤ w → Within w (units_of (leading t) b)
units_within w t b e h =
    let v : value_from 0 (leading t ++ b) < 10 ^ w = digits_below w t b e h in
    counted-within w (length (leading t) + length b) (capped (value_from 0 (leading t ++ b))) (length b) (omega arith) (omega arith)

leads_within : (t : List ℕ) → length (leading t) ≤ length t
unfolding leading
leads_within [] = omega arith
leads_within (b ∷ t) = go (is_digit b) (leads_within t)
  where
    go : (x : Bool) → length (leading t) ≤ length t → length (cond x (b ∷ leading t) []) ≤ suc (length t)
    go true h = omega arith
    go false h = omega arith

behind_long : (t : List ℕ) → length (behind t) ≡ length t - length (leading t)
unfolding behind
behind_long t = length-drop (length (leading t)) t

pub figures_within : (w : ℕ) (pointed : Bool) (t : List ℕ) → length t ≤ w → Within w (figures_of pointed t)
unfolding figures_of point_of leading
figures_within w pointed t h = go (behind t) (behind_long t) (leads_within t)
  where
    go : (r : List ℕ) → length r ≡ length t - length (leading t) → length (leading t) ≤ length t → Within w (point_of pointed (leading t) r)
    go [] e l = units_within w t [] refl (omega arith)
    go (c ∷ b) e l = pick (pointed && (eqb c 46 && all_digits b)) refl
      where
        pick : (x : Bool) → pointed && (eqb c 46 && all_digits b) ≡ x → Within w (cond x (units_of (leading t) b) None)
        pick true q =
            let d : length (leading b) ≡ length b = eqb-true _ _ (and_right (eqb c 46) (all_digits b) (and_right pointed (eqb c 46 && all_digits b) q)) in
            units_within w t b (all-leading b d) (omega arith)
        pick false q = tt

-- the same of eighteen columns
abbrev pub Small : Option Figures → Type 0
Small None = Unit
Small (Some f) = f.units < limit

pub figures_small : (pointed : Bool) (t : List ℕ) → length t ≤ 18 → Small (figures_of pointed t)
figures_small pointed t h = go (figures_of pointed t) (figures_within 18 pointed t h)
  where
    go : (f : Option Figures) → Within 18 f → Small f
    go None k = tt
    go (Some f) k = omega (arith, k.0)

-- the same of a number that was read
abbrev pub Sized : ℕ → Result Value Unread → Type 0
Sized w (Ok (Decimal d)) = (nat_abs d.units < 10 ^ w) × (d.places ≤ w)
Sized w (Ok Absent) = Unit
Sized w (Ok (Whole z)) = Unit
Sized w (Ok (Angle z)) = Unit
Sized w (Ok (Date d)) = Unit
Sized w (Ok (Text c)) = Unit
Sized w (Err Malformed) = Unit
Sized w (Err OutOfRange) = Unit

held-sized : (w : ℕ) (minus : Bool) (f : Option Figures) → Within w f → Sized w (held_of minus f)
unfolding held_of signed_of
held-sized w minus None k = tt
held-sized w minus (Some f) k = go (ltb f.units limit)
  where
    size : (m : Bool) (n : ℕ) → nat_abs (signed_of m n) ≡ n
    size true zero = refl
    size true (suc n) = refl
    size false n = refl

    go : (b : Bool) → Sized w (cond b (Ok (Decimal (record { units = signed_of minus f.units; places = f.places }))) (Err OutOfRange))
    go true = (omega (arith, size minus f.units, k.0), k.1)
    go false = tt

-- a number of up to w columns has at most w digits
pub number-sized : (w : ℕ) (pointed : Bool) (s : List ℕ) → length s ≤ w → Sized w (number_of pointed s)
unfolding number_of sign_of unpadded
number-sized w pointed s h = go (unpadded s) (omega (arith, length-drop (blanks s) s))
  where
    go : (t : List ℕ) → length t ≤ w → Sized w (sign_of pointed t)
    go [] l = tt
    go (b ∷ t) l = pick (eqb b 45) (eqb b 43)
      where
        short : length t ≤ w
        short = omega arith

        pick : (x y : Bool) → Sized w (cond x (held_of true (figures_of pointed t)) (cond y (held_of false (figures_of pointed t)) (held_of false (figures_of pointed (b ∷ t)))))
        pick true y = held-sized w true (figures_of pointed t) (figures_within w pointed t short)
        pick false true = held-sized w false (figures_of pointed t) (figures_within w pointed t short)
        pick false false = held-sized w false (figures_of pointed (b ∷ t)) (figures_within w pointed (b ∷ t) l)
