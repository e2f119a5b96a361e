-- What was read can always be rewritten in the same width, or in a larger one.
use Prim.Native.Nat.{ℕ, zero, suc, ◌+◌, ◌-◌, ◌*◌, ◌^◌, ◌≤◌, ◌<◌, max}
use native.Mathlib.Omega.{arith}
use native.Mathlib.Nat.{zero-add, add-zero, one-mul, lt_of_lt_of_le, mul-le-mul_right}
use mathlib.Core.Path.{◌≡◌, refl, sym, ap, subst, ◌∙◌}
use mathlib.Core.List.{List, [], ◌∷◌, ◌++◌, append-nil}
use mathlib.Core.Bool.{Bool, true, false, cond, ◌&&◌}
use lib.ListN.{length, drop, length-append, length-drop, take-append-drop}
use lib.Dec.{eqb, ltb}
use lib.Pow.{pow-add}
use lib.IntN.{nat_abs}
use borrow.Author.Tests.{eqb-true, eqb-false, lt-ltb, ltb-true}
use Rattle.base_digits.specs.digits.Figures.{blanks, unpadded, leading, behind, value_from, limit, capped}
use Rattle.base_digits.specs.digits.Digits.{size}
use Rattle.base_digits.specs.digits.Columns.{or_else}
use Rattle.base_digits.proofs.digits.Bools.{and_right}
use Rattle.base_digits.proofs.digits.Walk.{value_append, leading-take, all-leading}
use Rattle.base_digits.proofs.digits.Numbers.{value_below, size_le}
use Rattle.base_value.specs.declared.Decimal.{Decimal}
use Rattle.base_value.specs.declared.Value.TheVariants as value
use Rattle.base_value.specs.declared.Unread.TheVariants.{OutOfRange}
use Rattle.value_number.specs.number.Reading.{all_digits, counted_of, units_of, point_of, figures_of, held_of, sign_of, number_of}
use Rattle.base_digits.specs.signs.Signs.{signed_of, is_minus}
use Rattle.value_number.specs.number_entry.Spelling.{sign_columns, point_columns, units_in, decimal_in}
use Rattle.value_number.proofs.number_entry.Writing.{adjusted_some, full_in, least_in}
use Rattle.std.specs.Prelude.{Ok, Err, Some, None, Option}
use Rattle.value_number.specs.declared.number.Figures.{Figures}
use Rattle.value_number.specs.number.Figures.{figures}

-- digits that were counted
counted_is : (c m q n p : ℕ) → counted_of c m q ≡ Some (figures n p) → (1 ≤ c) × (m ≡ n) × (q ≡ p)
counted_is c m q n p e = go (eqb c 0) refl e
  where
    go : (b : Bool) → eqb c 0 ≡ b → cond b None (Some (figures m q)) ≡ Some (figures n p) → (1 ≤ c) × (m ≡ n) × (q ≡ p)
    go true z h = let x : ◌≡◌ {A = ℕ} 0 1 = cc in absurd (omega arith)
    go false z h = let some : c ≡ 0 → ⊥ = eqb-false c 0 z in
        let x : figures m q ≡ figures n p = cc in
        (omega arith, ap (λ (f : Figures). f.units) x, ap (λ (f : Figures). f.places) x)

-- what stood in the columns of an unsigned number: k digits before the point, and p behind it, hold it
pub record Stood (width n p : ℕ) : Type 0 where
  pub before : ℕ
  pub room : before + point_columns p ≤ width
  pub digit : 1 ≤ before + p
  pub below : n < 10 ^ (before + p)

pointed-room : (a p : ℕ) → a + point_columns p ≤ a + suc p
pointed-room a zero = omega arith
pointed-room a (suc p) = omega arith

module _ (u : List ℕ) where
  -- the digits at the front and what stands behind them are the whole
  pub front_back : leading u ++ behind u ≡ u
  unfolding behind
  front_back = ap (λ (l : List ℕ). l ++ drop (length (leading u)) u) (leading-take u) ∙ take-append-drop (length (leading u)) u

  front_length : length (leading u) + length (behind u) ≡ length u
  front_length = sym (length-append (leading u) (behind u)) ∙ ap length front_back

  front_below : value_from 0 (leading u) < 10 ^ length (leading u)
  front_below = rw (one-mul (10 ^ length (leading u))) at (rw (zero-add 1) at (value_below 0 u))

  -- nothing behind the digits
  stood_whole : (n p : ℕ) → units_of (leading u) [] ≡ Some (figures n p) → Stood (length u) n p
  stood_whole n p h =
      let x = counted_is (length (leading u) + 0) (capped (value_from 0 (leading u ++ []))) 0 n p h in
      let v : capped (value_from 0 (leading u)) ≡ n = ap (λ (l : List ℕ). capped (value_from 0 l)) (sym (append-nil (leading u))) ∙ x.1 in
      let f : value_from 0 (leading u) < 10 ^ length (leading u) = front_below in
      let one : 1 ≤ length (leading u) + 0 = x.0 in
      let all : length (leading u) + length (behind u) ≡ length u = front_length in
      subst (λ q. Stood (length u) n q) x.2
      (record { before = length (leading u); room = omega arith; digit = one; below = rw (add-zero (length (leading u))) (omega arith) })

  -- a point behind them, and digits alone behind the point
  both_below : (b : List ℕ) → all_digits b ≡ true → value_from 0 (leading u ++ b) < 10 ^ (length (leading u) + length b)
  both_below b d =
      let e : length (leading b) ≡ length b = eqb-true (length (leading b)) (length b) d in
      let v = value_from 0 (leading u) in
      let f : v < 10 ^ length (leading u) = front_below in
      let h : value_from v b < (v + 1) * 10 ^ length b = rw (all-leading b e) at (value_below v b) in
      rw (value_append 0 (leading u) b, pow-add 10 (length (leading u)) (length b))
      (lt_of_lt_of_le h (mul-le-mul_right (10 ^ length b) (omega arith)))

  stood_pointed : (c : ℕ) (b : List ℕ) → behind u ≡ c ∷ b → all_digits b ≡ true → (n p : ℕ) → units_of (leading u) b ≡ Some (figures n p)
      → Stood (length u) n p
  stood_pointed c b q d n p h =
      let x = counted_is (length (leading u) + length b) (capped (value_from 0 (leading u ++ b))) (length b) n p h in
      let v : capped (value_from 0 (leading u ++ b)) ≡ n = x.1 in
      let f : value_from 0 (leading u ++ b) < 10 ^ (length (leading u) + length b) = both_below b d in
      let all : length (leading u) + suc (length b) ≡ length u = ap (λ (l : List ℕ). length (leading u) + length l) (sym q) ∙ front_length in
      let r : length (leading u) + point_columns (length b) ≤ length (leading u) + suc (length b) = pointed-room (length (leading u)) (length b) in
      subst (λ q. Stood (length u) n q) x.2
      (record { before = length (leading u); room = omega arith; digit = x.0; below = omega arith })

  pub figures_stood : (point : Bool) (n p : ℕ) → figures_of point u ≡ Some (figures n p) → Stood (length u) n p
  unfolding figures_of point_of
  figures_stood point n p e = go (behind u) refl e
    where
      test : (c : ℕ) (b : List ℕ) → behind u ≡ c ∷ b → (t : Bool) → (point && (eqb c 46 && all_digits b)) ≡ t
          → cond t (units_of (leading u) b) None ≡ Some (figures n p) → Stood (length u) n p
      test c b q true z h = stood_pointed c b q (and_right (eqb c 46) (all_digits b) (and_right point (eqb c 46 && all_digits b) z)) n p h
      test c b q false z h = let x : ◌≡◌ {A = ℕ} 0 1 = cc in absurd (omega arith)

      go : (r : List ℕ) → behind u ≡ r → point_of point (leading u) r ≡ Some (figures n p) → Stood (length u) n p
      go [] q h = stood_whole n p h
      go (c ∷ b) q h = test c b q (point && (eqb c 46 && all_digits b)) refl h

-- what stood in the columns of a number
pub record Read (width : ℕ) (d : Decimal) : Type 0 where
  pub minus : Bool
  pub number : ℕ
  pub columns : ℕ
  pub within : sign_columns minus + columns ≤ width
  pub stood : Stood columns number d.places
  pub small : number < limit
  pub is : d.units ≡ signed_of minus number

held-read : (minus point : Bool) (u : List ℕ) (width : ℕ) (d : Decimal) → sign_columns minus + length u ≤ width
    → held_of minus (figures_of point u) ≡ Ok (value.Decimal d) → Read width d
unfolding held_of
held-read minus point u width d w e = go (figures_of point u) refl e
  where
    test : (n p : ℕ) → figures_of point u ≡ Some (figures n p) → (t : Bool) → ltb n limit ≡ t
        → cond t (Ok (value.Decimal (record { units = signed_of minus n; places = p }))) (Err OutOfRange) ≡ Ok (value.Decimal d) → Read width d
    test n p q true z h =
        let e : ◌≡◌ {A = Decimal} (record { units = signed_of minus n; places = p }) d = cc in
        subst (λ (x : Decimal). Read width x) e
        (record { minus = minus; number = n; columns = length u; within = w; stood = figures_stood u point n p q; small = ltb-true n limit z; is = refl })
    test n p q false z h = let x : ◌≡◌ {A = ℕ} 0 1 = cc in absurd (omega arith)

    go : (f : Option Figures) → figures_of point u ≡ f → held_of minus f ≡ Ok (value.Decimal d) → Read width d
    go None q h = let x : ◌≡◌ {A = ℕ} 0 1 = cc in absurd (omega arith)
    go (Some f) q h = test f.units f.places q (ltb f.units limit) refl h

sign_read : (point : Bool) (v : List ℕ) (d : Decimal) → sign_of point v ≡ Ok (value.Decimal d) → Read (length v) d
unfolding sign_of
sign_read point [] d e = let x : ◌≡◌ {A = ℕ} 0 1 = cc in absurd (omega arith)
sign_read point (b ∷ t) d e = go (eqb b 45) (eqb b 43) e
  where
    go : (x y : Bool)
        → cond x (held_of true (figures_of point t)) (cond y (held_of false (figures_of point t)) (held_of false (figures_of point (b ∷ t)))) ≡ Ok (value.Decimal d)
        → Read (suc (length t)) d
    go true y h = held-read true point t (suc (length t)) d (omega arith) h
    go false true h = held-read false point t (suc (length t)) d (omega arith) h
    go false false h = held-read false point (b ∷ t) (suc (length t)) d (omega arith) h

-- the sign and the magnitude of a number with a sign
pub signed-size : (m : Bool) (n : ℕ) → nat_abs (signed_of m n) ≡ n
unfolding signed_of
signed-size true zero = refl
signed-size true (suc n) = refl
signed-size false n = refl

signed-sign : (m : Bool) (n : ℕ) → sign_columns (is_minus (signed_of m n)) ≤ sign_columns m
unfolding signed_of
signed-sign true zero = omega arith
signed-sign true (suc n) = omega arith
signed-sign false n = omega arith

-- a number that was read is written in no more columns than it stood in
module _ (w : ℕ) (d : Decimal) (r : Read w d) where
  size_is : nat_abs d.units ≡ r.number
  size_is = ap nat_abs r.is ∙ signed-size r.minus r.number

  pub number_small : nat_abs d.units < limit
  number_small = rw size_is r.small

  sign_less : sign_columns (is_minus d.units) ≤ sign_columns r.minus
  sign_less = rw r.is (signed-sign r.minus r.number)

  narrow : sign_columns (is_minus d.units) + (max (size (nat_abs d.units)) d.places - d.places + point_columns d.places) ≤ w
  narrow =
      let k = r.stood.before in
      let p = d.places in
      let s : size (nat_abs d.units) ≤ k + p = rw size_is (size_le 20 r.number (k + p) r.stood.below r.stood.digit) in
      let a : sign_columns (is_minus d.units) ≤ sign_columns r.minus = sign_less in
      let b : sign_columns r.minus + r.columns ≤ w = r.within in
      let c : k + point_columns p ≤ r.columns = r.stood.room in
      omega arith

  pub units_agreed : (t : List ℕ) × (units_in w (is_minus d.units) d.places (nat_abs d.units) ≡ Some t)
  unfolding units_in
  units_agreed = go (full_in w (is_minus d.units) d.places (nat_abs d.units))
    where
      go : (a : Option (List ℕ)) → (t : List ℕ) × (or_else a (least_in w (is_minus d.units) d.places (nat_abs d.units)) ≡ Some t)
      go (Some t) = (t, refl)
      go None = (_, adjusted_some w (is_minus d.units) _ d.places (nat_abs d.units) _ refl narrow)

-- what was read as a number can be written wherever its columns have room
pub decimal-agreed : (point : Bool) (s : List ℕ) (d : Decimal) → number_of point s ≡ Ok (value.Decimal d) → (w : ℕ) → length s ≤ w
    → (t : List ℕ) × (decimal_in w d ≡ Some t)
unfolding number_of unpadded decimal_in
decimal-agreed point s d e w h =
    let small : length (drop (blanks s) s) ≤ w = rw (length-drop (blanks s) s) (omega arith) in
    let r = wider (length (drop (blanks s) s)) w d small (sign_read point (drop (blanks s) s) d e) in
    let u = units_agreed w d r in
    (u.0, rw (lt-ltb (nat_abs d.units) limit (number_small w d r)) u.1)
  where
    wider : (v w : ℕ) (d : Decimal) → v ≤ w → Read v d → Read w d
    wider v w d h r =
        let b : sign_columns r.minus + r.columns ≤ v = r.within in
        record { minus = r.minus; number = r.number; columns = r.columns; within = omega arith; stood = r.stood; small = r.small; is = r.is }

figures_places : (u : List ℕ) (n p : ℕ) → figures_of false u ≡ Some (figures n p) → p ≡ 0
unfolding figures_of point_of
figures_places u n p e = go (behind u) e
  where
    go : (r : List ℕ) → point_of false (leading u) r ≡ Some (figures n p) → p ≡ 0
    go [] h = sym (counted_is (length (leading u) + 0) (capped (value_from 0 (leading u ++ []))) 0 n p h).2
    go (c ∷ b) h = let x : ◌≡◌ {A = ℕ} 0 1 = cc in absurd (omega arith)

held-places : (minus : Bool) (u : List ℕ) (d : Decimal) → held_of minus (figures_of false u) ≡ Ok (value.Decimal d) → d.places ≡ 0
unfolding held_of
held-places minus u d e = go (figures_of false u) refl e
  where
    test : (n p : ℕ) → figures_of false u ≡ Some (figures n p) → (t : Bool)
        → cond t (Ok (value.Decimal (record { units = signed_of minus n; places = p }))) (Err OutOfRange) ≡ Ok (value.Decimal d) → d.places ≡ 0
    test n p q true h =
        let e : ◌≡◌ {A = Decimal} (record { units = signed_of minus n; places = p }) d = cc in
        sym (ap (λ (x : Decimal). x.places) e) ∙ figures_places u n p q
    test n p q false h = let x : ◌≡◌ {A = ℕ} 0 1 = cc in absurd (omega arith)

    go : (f : Option Figures) → figures_of false u ≡ f → held_of minus f ≡ Ok (value.Decimal d) → d.places ≡ 0
    go None q h = let x : ◌≡◌ {A = ℕ} 0 1 = cc in absurd (omega arith)
    go (Some f) q h = test f.units f.places q (ltb f.units limit) h

sign-places : (v : List ℕ) (d : Decimal) → sign_of false v ≡ Ok (value.Decimal d) → d.places ≡ 0
unfolding sign_of
sign-places [] d e = let x : ◌≡◌ {A = ℕ} 0 1 = cc in absurd (omega arith)
sign-places (b ∷ t) d e = go (eqb b 45) (eqb b 43) e
  where
    go : (x y : Bool)
        → cond x (held_of true (figures_of false t)) (cond y (held_of false (figures_of false t)) (held_of false (figures_of false (b ∷ t)))) ≡ Ok (value.Decimal d)
        → d.places ≡ 0
    go true y h = held-places true t d h
    go false true h = held-places false t d h
    go false false h = held-places false (b ∷ t) d h

-- a whole number has no places
pub whole-places : (s : List ℕ) (d : Decimal) → number_of false s ≡ Ok (value.Decimal d) → d.places ≡ 0
unfolding number_of
whole-places s d e = sign-places (unpadded s) d e
