-- How large the numbers are that are summed: a correction by its columns, a raw reading by the refusal of others.
use Prim.Native.Nat.{ℕ, ◌+◌, ◌-◌, ◌*◌, ◌^◌, ◌≤◌, ◌<◌}
use native.Mathlib.Omega.{arith}
use native.Mathlib.Nat.{mul-le-mul_left, one-le-pow, zero-lt-suc}
use mathlib.Core.Path.{◌≡◌, refl, sym, ap, ap₂, subst, ◌∙◌}
use mathlib.Core.Bool.{Bool, true, false, ◌||◌, ◌&&◌, not, cond, true≢false}
use mathlib.Core.List.{List}
use lib.Dec.{eqb, leb, ltb}
use lib.IntN.{ℤ, pos, negsuc, nat_abs}
use Rattle.std.specs.Ordering.{int_cmp, is_le, is_lt}
use Rattle.std.proofs.lemmas.Bool.Decides.{nat_tests}
use lib.ListN.{drop, length-take}
use borrow.Author.Tests.{ltb-false, leb-false, lt-ltb, le-ltb, eq-eqb, ne_eqb}
use Rattle.base_digits.specs.signs.Signs.{is_minus}
use Rattle.base_value.specs.declared.Decimal.{Decimal}
use Rattle.base_value.specs.Sums.{nothing, exact_sum, sum_of}
use Rattle.base_value.specs.declared.Value.{Value}
use Rattle.base_value.specs.declared.Value.TheVariants as value
use Rattle.base_value.specs.declared.Unread.TheVariants.{Malformed, OutOfRange}
use Rattle.value_text.specs.text.Texts.{text_end, text_of}
use Rattle.value_number.proofs.shapes.Small.{Sized, number-sized}
use Rattle.value_field.specs.declared.spelling.Spelling.TheVariants as spelled
use Rattle.value_field.specs.spelling.Reading.{number_in, reading_of}
use Rattle.tie_rules.specs.Keys.{between}
use Rattle.survey_compass.specs.Directions.{unlisted, least_rank, nearest}
use Rattle.survey_compass.specs.Corrections.{correction_of, correction_in, fixed_on, correction_at, nearest_on, summed_on, turn}
use Rattle.survey_compass.specs.Headings.{most_places, bad_reading}
use Rattle.survey_compass.proofs.Bounds.{AtMost, sum_right, sum-most, sum-places}
use Rattle.std.specs.Prelude.{Result, Ok, Err}
use Rattle.base_value.specs.declared.Unread.{Unread}

-- a decimal of at most w digits
abbrev pub Fits : ℕ → Decimal → Type 0
Fits w d = AtMost (10 ^ w) d × (d.places ≤ w)

nothing-fits : (w : ℕ) → Fits w nothing
unfolding nothing
nothing-fits w = (omega arith, omega arith)

read_fits : (w : ℕ) (r : Result Value Unread) → Sized w r → Fits w (correction_of r)
unfolding correction_of
read_fits w (Ok (value.Decimal d)) k =
    let q : 10 ^ w * 1 ≤ 10 ^ w * 10 ^ d.places = mul-le-mul_left (10 ^ w) (one-le-pow d.places 10 (zero-lt-suc 9)) in
    (omega (arith, q, k.0), k.1)
read_fits w (Ok value.Absent) k = nothing-fits w
read_fits w (Ok (value.Whole z)) k = nothing-fits w
read_fits w (Ok (value.Angle z)) k = nothing-fits w
read_fits w (Ok (value.Date d)) k = nothing-fits w
read_fits w (Ok (value.Text c)) k = nothing-fits w
read_fits w (Err Malformed) k = nothing-fits w
read_fits w (Err OutOfRange) k = nothing-fits w

-- the correction in w columns
columns_fit : (w first last : ℕ) (s : List ℕ) → last - (first - 1) ≤ w → Fits w (correction_in first last s)
unfolding correction_in reading_of number_in text_of between
columns_fit w first last s h =
    let t = between first last s in
    read_fits w (reading_of spelled.Decimal t)
    (number-sized w true (text_of t) (omega (arith, length-take (text_end t) t, length-take (last - (first - 1)) (drop (first - 1) s))))

pub fixed-fits : (s : List ℕ) → Fits 6 (fixed_on s)
unfolding fixed_on
fixed-fits s = columns_fit 6 15 20 s (omega arith)

pub pair_fits_lem : (s : List ℕ) (i : ℕ) → Fits 4 (correction_at s i)
unfolding correction_at
pair_fits_lem s i = columns_fit 4 (24 + 7 * i) (27 + 7 * i) s (omega arith)

pub nearest-fits : (s : List ℕ) (asked : ℕ) → Fits 4 (nearest_on s asked)
unfolding nearest_on
nearest-fits s asked = go (eqb (least_rank s asked) unlisted)
  where
    go : (b : Bool) → Fits 4 (cond b nothing (correction_at s (nearest s asked)))
    go true = nothing-fits 4
    go false = pair_fits_lem s (nearest s asked)

-- a raw reading that is not refused
either : (a b : Bool) → (a || b) ≡ false → (a ≡ false) × (b ≡ false)
either true b e = absurd (true≢false e)
either false b e = (refl, e)

pub raw_fits : (raw : Decimal) → bad_reading raw ≡ false → AtMost 360 raw × (raw.places ≤ 11)
unfolding bad_reading turn
raw_fits raw e =
    let a = either (is_minus raw.units) (ltb most_places raw.places || leb (turn raw.places) (nat_abs raw.units)) e in
    let b = either (ltb most_places raw.places) (leb (turn raw.places) (nat_abs raw.units)) a.1 in
    (omega (arith, leb-false (turn raw.places) (nat_abs raw.units) b.1), ltb-false most_places raw.places b.0)

-- the correction for the nearest direction, by the least rank
module _ (s : List ℕ) (asked least : ℕ) (is : least ≡ least_rank s asked) where
  pub none_used : least ≡ unlisted → nothing ≡ nearest_on s asked
  unfolding nearest_on
  none_used e = rw (← is, eq-eqb least unlisted e)

  pub one_used : (least ≡ unlisted → ⊥) → (i : ℕ) → i ≡ nearest s asked → (d : Decimal) → d ≡ correction_at s i → d ≡ nearest_on s asked
  unfolding nearest_on
  one_used h i e d q = rw (← is, ne_eqb least unlisted h, ← e) q

-- the sum by the steps of the code
pub summed : (s : List ℕ) (raw : Decimal) (asked : ℕ) → bad_reading raw ≡ false
    → (f : Decimal) → f ≡ correction_in 15 20 s → (u : Decimal) → u ≡ nearest_on s asked
    → (x : Decimal) → x ≡ sum_of raw f → (y : Decimal) → y ≡ sum_of x u → (y ≡ summed_on s raw asked) × (y.places ≤ 11)
unfolding summed_on fixed_on
summed s raw asked e f ef u eu x ex y ey =
    let a = raw_fits raw e in
    let b = fixed-fits s in
    let d = nearest-fits s asked in
    let ab = exact_sum raw (fixed_on s) in
    let p : ab.places ≤ 11 = sum-places raw (fixed_on s) a.1 (omega (arith, b.1)) in
    let q : sum_of raw f ≡ ab =
    ap (sum_of raw) ef ∙ sum_right raw (fixed_on s) 360 (10 ^ 6) a.0 b.0 (omega arith) (omega arith) a.1 (omega (arith, b.1)) in
    let m = sum-most raw (fixed_on s) 360 (10 ^ 6) a.0 b.0 in
    let w : y ≡ exact_sum ab (nearest_on s asked) =
    ey ∙ ap₂ sum_of (ex ∙ q) eu
    ∙ sum_right ab (nearest_on s asked) (360 + 10 ^ 6) (10 ^ 4) m d.0 (omega arith) (omega arith) p (omega (arith, d.1)) in
    (w, subst (λ z. z.places ≤ 11) (sym w) (sum-places ab (nearest_on s asked) p (omega (arith, d.1))))

-- within a range of the machine's integers
pub below_turn : (z : ℤ) (t : ℕ) → not (is_le (int_cmp (pos 0) z) && is_lt (int_cmp z (pos t))) ≡ (is_minus z || leb t (nat_abs z))
below_turn (pos m) t = grind (arith, nat_tests)
below_turn (negsuc m) t = refl

pub up_to_turn : (z : ℤ) (t : ℕ) → not (is_le (int_cmp (pos 0) z) && is_le (int_cmp z (pos t))) ≡ (is_minus z || ltb t (nat_abs z))
up_to_turn (pos m) t = grind (arith, nat_tests)
up_to_turn (negsuc m) t = refl

-- a raw reading is judged by its places first
or_true : (a : Bool) → true ≡ (a || true)
or_true true = refl
or_true false = refl

pub too_many_lem : (raw : Decimal) → 11 < raw.places → true ≡ bad_reading raw
unfolding bad_reading
too_many_lem raw h =
    or_true (is_minus raw.units)
    ∙ ap (λ b. is_minus raw.units || (b || leb (turn raw.places) (nat_abs raw.units))) (sym (lt-ltb most_places raw.places h))

pub judged : (raw : Decimal) → raw.places ≤ 11 → (is_minus raw.units || leb (turn raw.places) (nat_abs raw.units)) ≡ bad_reading raw
unfolding bad_reading
judged raw h = rw (le-ltb most_places raw.places h)
