-- What is written of an angle is read as that angle.
use Prim.Native.Nat.{ℕ, ◌+◌, ◌*◌, ◌/◌, ◌%◌, ◌^◌, ◌≤◌, ◌<◌}
use native.Mathlib.Omega.{arith}
use mathlib.Core.Path.{◌≡◌, refl, sym, ap, ◌∙◌}
use mathlib.Core.List.{List, [], ◌∷◌, ◌++◌}
use mathlib.Core.Bool.{Bool, true, false, cond}
use lib.ListN.{length, get_or}
use lib.Dec.{eqb, leb}
use lib.IntN.{ℤ, nat_abs}
use borrow.Author.Tests.{eq-eqb, ne_eqb, lt-ltb, leb-true, eqb-true}
use Rattle.base_refusal.specs.declared.Unwritten.TheVariants.{OutOfRange as Outside, NoRoom}
use Rattle.base_digits.specs.digits.Figures.{blanks}
use Rattle.base_digits.specs.digits.Digits.{digits}
use Rattle.base_digits.specs.digits.Columns.{agreed, refused}
use Rattle.base_digits.proofs.digits.Numbers.{digits_split}
use Rattle.value_number.specs.number.Reading.{figures_of}
use Rattle.base_digits.specs.signs.Signs.{is_minus}
use Rattle.value_number.specs.number_entry.Spelling.{plain}
use Rattle.value_number.proofs.number_entry.Back.{sign_back}
use Rattle.value_coordinate.specs.axes.Axes.{bound_of, letter_of}
use Rattle.value_coordinate.specs.angle.Angles.{part, padded_of, parts_of, is_spelled, angled_of, angle_of}
use Rattle.value_coordinate.specs.coordinate_entry.Plotting.{figures_in, angle_in}
use Rattle.value_coordinate.specs.declared.axes.Axis.{Axis}
use Rattle.value_coordinate.specs.declared.angle.Parts.{Parts}
use Rattle.base_value.specs.declared.Value.TheVariants.{Angle}
use Rattle.value_coordinate.proofs.angle.Reading.{same_parts}
use Rattle.value_coordinate.proofs.coordinate_entry.ArcFilled.{figures_digits, padded-digits}
use Rattle.base_digits.proofs.digits.Blank.{blank_at}
use Rattle.value_coordinate.proofs.axes.Letters.{letter_is, letter_minus, bound_most}
use Rattle.std.specs.Prelude.{Ok, Some}
use Rattle.value_number.specs.number.Figures.{figures}

-- twelve columns by their parts
abbrev laid : ℕ → ℕ → ℕ → List ℕ
laid x m l = ((digits 3 (x / 10 ^ 4) ++ (digits 2 (x / 10 ^ 2) ++ digits 2 x)) ++ (46 ∷ digits 3 m)) ++ (l ∷ [])

laid-plain : (m l : ℕ) → plain 7 3 m ++ (l ∷ []) ≡ laid (m / 10 ^ 3) m l
unfolding plain
laid-plain m l =
    ap (λ (d : List ℕ). (d ++ (46 ∷ digits 3 m)) ++ (l ∷ []))
    (digits_split 3 4 (m / 10 ^ 3) ∙ ap (λ (d : List ℕ). digits 3 (m / 10 ^ 3 / 10 ^ 4) ++ d) (digits_split 2 2 (m / 10 ^ 3)))

laid_degrees : (x m l : ℕ) → part 0 3 (laid x m l) ≡ digits 3 (x / 10 ^ 4)
unfolding digits
laid_degrees x m l = refl

laid_minutes : (x m l : ℕ) → part 3 5 (laid x m l) ≡ digits 2 (x / 10 ^ 2)
unfolding digits
laid_minutes x m l = refl

laid_seconds : (x m l : ℕ) → part 5 7 (laid x m l) ≡ digits 2 x
unfolding digits
laid_seconds x m l = refl

laid_thousandths : (x m l : ℕ) → part 8 11 (laid x m l) ≡ digits 3 m
unfolding digits
laid_thousandths x m l = refl

laid_rest : (x m l : ℕ) → (length (laid x m l) ≡ 12) × (get_or (laid x m l) 7 0 ≡ 46) × (get_or (laid x m l) 11 0 ≡ l)
unfolding digits
laid_rest x m l = (refl, refl, refl)

-- the parts of n thousandths of a second
abbrev parts_in : ℕ → Parts
parts_in n =
    record {
      degrees = Some (figures (n / 3600000) 0);
      minutes = Some (figures (n / 60000 % 60) 0);
      seconds = Some (figures (n % 60000 / 1000) 0);
      thousandths = Some (figures (n % 1000) 0);
    }

-- the digits of an angle's figures are those of its parts
module _ (d m r : ℕ) (low : d < 1000) (few : m < 60) (less : r < 60000) where
  joined : ℕ
  joined = d * 10000000 + m * 100000 + r

  above : joined / 10 ^ 3 ≡ d * 10000 + m * 100 + r / 1000
  unfolding joined
  above = omega arith

  degrees_of : joined / 10 ^ 3 / 10 ^ 4 % 10 ^ 3 ≡ d
  degrees_of = rw above (omega arith)

  minutes_of : joined / 10 ^ 3 / 10 ^ 2 % 10 ^ 2 ≡ m
  minutes_of = rw above (omega arith)

  seconds_of : joined / 10 ^ 3 % 10 ^ 2 ≡ r / 1000
  seconds_of = rw above (omega arith)

  thousandths_of : joined % 10 ^ 3 ≡ r % 1000
  unfolding joined
  thousandths_of = omega arith

parts_back : (n l : ℕ) → n ≤ 648000000 → parts_of (laid (figures_in n / 10 ^ 3) (figures_in n) l) ≡ parts_in n
unfolding parts_of joined
parts_back n l h =
    same_parts
    (ap padded_of (laid_degrees x m l) ∙ padded-digits 3 (x / 10 ^ 4) (omega arith) (omega arith) (omega arith) ∙ ap (λ v. Some (figures v 0)) (degrees_of d i r low few less))
    (ap padded_of (laid_minutes x m l) ∙ padded-digits 2 (x / 10 ^ 2) (omega arith) (omega arith) (omega arith) ∙ ap (λ v. Some (figures v 0)) (minutes_of d i r low few less))
    (ap padded_of (laid_seconds x m l) ∙ padded-digits 2 x (omega arith) (omega arith) (omega arith) ∙ ap (λ v. Some (figures v 0)) (seconds_of d i r low few less))
    (ap (figures_of false) (laid_thousandths x m l) ∙ figures_digits 3 m (omega arith) (omega arith) (omega arith) ∙ ap (λ v. Some (figures v 0)) (thousandths_of d i r low few less ∙ omega arith))
  where
    m : ℕ
    m = figures_in n

    x : ℕ
    x = m / 10 ^ 3

    d : ℕ
    d = n / 3600000

    i : ℕ
    i = n / 60000 % 60

    r : ℕ
    r = n % 60000

    low : d < 1000
    low = omega arith

    few : i < 60
    few = omega arith

    less : r < 60000
    less = omega arith

-- and the angle that they make
angled_back : (a : Axis) (z : ℤ) → leb (nat_abs z) (bound_of a) ≡ true → angled_of a (is_minus z) (parts_in (nat_abs z)) ≡ Ok (Angle z)
unfolding angled_of
angled_back a z h =
    let n = nat_abs z in
    let e : ((n / 3600000 * 60 + n / 60000 % 60) * 60 + n % 60000 / 1000) * 1000 + n % 1000 ≡ n = omega arith in
    rw (lt-ltb (n / 60000 % 60) 60 (omega arith), lt-ltb (n % 60000 / 1000) 60 (omega arith), e, h) (ap (λ (x : ℤ). Ok (Angle x)) (sign_back z))

read_back : (a : Axis) (z : ℤ) → leb (nat_abs z) (bound_of a) ≡ true
    → angle_of a (laid (figures_in (nat_abs z) / 10 ^ 3) (figures_in (nat_abs z)) (letter_of a (is_minus z))) ≡ Ok (Angle z)
unfolding angle_of is_spelled
read_back a z h =
    let l = letter_of a (is_minus z) in
    let m = figures_in (nat_abs z) in
    let t = laid (m / 10 ^ 3) m l in
    let r = laid_rest (m / 10 ^ 3) m l in
    let b : nat_abs z ≤ bound_of a = leb-true (nat_abs z) (bound_of a) h in
    let w : length t ≡ 12 = r.0 in
    let k : nat_abs z ≤ 648000000 = omega (arith, bound_most a) in
    rw (ne_eqb (blanks t) (length t) (λ q. let p : 46 ≡ 32 = sym r.1 ∙ blank_at t 7 q (omega arith) in omega arith), eq-eqb (length t) 12 w, parts_back (nat_abs z) l k, r.1, r.2, letter_is a (is_minus z), letter_minus a (is_minus z)) (angled_back a z h)

pub angle_back : (a : Axis) (w : ℕ) (z : ℤ) (t : List ℕ) → angle_in a w z ≡ agreed t → (angle_of a t ≡ Ok (Angle z)) × (length t ≡ w)
unfolding angle_in
angle_back a w z t h = go (leb (nat_abs z) (bound_of a)) refl (eqb w 12) refl h
  where
    go : (b : Bool) → leb (nat_abs z) (bound_of a) ≡ b → (c : Bool) → eqb w 12 ≡ c
        → cond b (cond c (agreed (plain 7 3 (figures_in (nat_abs z)) ++ (letter_of a (is_minus z) ∷ []))) (refused NoRoom)) (refused Outside) ≡ agreed t
        → (angle_of a t ≡ Ok (Angle z)) × (length t ≡ w)
    go true p true q e =
        let m = figures_in (nat_abs z) in
        let l = letter_of a (is_minus z) in
        let f : plain 7 3 m ++ (l ∷ []) ≡ t = cc in
        let s : t ≡ laid (m / 10 ^ 3) m l = sym f ∙ laid-plain m l in
        (ap (angle_of a) s ∙ read_back a z p, ap length s ∙ (laid_rest (m / 10 ^ 3) m l).0 ∙ sym (eqb-true w 12 q))
    go true p false q e = absurd (let x : ◌≡◌ {A = ℕ} 0 1 = cc in omega arith)
    go false p c q e = absurd (let x : ◌≡◌ {A = ℕ} 0 1 = cc in omega arith)
