-- The sums of corrections are exact: no number among them is large enough to leave the largest size.
use Prim.Native.Nat.{ℕ, zero, suc, ◌+◌, ◌-◌, ◌*◌, ◌^◌, ◌≤◌}
use native.Mathlib.Omega.{arith}
use native.Mathlib.Nat.{mul_assoc, add-mul, add-sub_of_le, le_trans, le_of_eq, mul-le-mul, mul-le-mul_right, pow-le-pow_right, zero-lt-suc}
use lib.Pow.{pow-add}
use mathlib.Core.Path.{◌≡◌, refl, sym, ap, ◌∙◌}
use mathlib.Core.Bool.{Bool, true, false, cond}
use lib.Dec.{ltb}
use lib.IntN.{ℤ, pos, negsuc, neg_ℤ, nat_abs, sub_ℕ, ◌+ℤ◌, ◌*ℤ◌}
use borrow.Author.Tests.{ltb-true}
use Rattle.base_value.specs.declared.Decimal.{Decimal}
use Rattle.base_value.specs.Sums.{largest, places_of, units_at, exact_sum, sum_of}
use Rattle.base_value.proofs.Adding.{size_at, sum_exact}

-- a decimal is at most b in size
abbrev pub AtMost : ℕ → Decimal → Type 0
AtMost b d = nat_abs d.units ≤ b * 10 ^ d.places

-- the most of all that is summed, in degrees, and the most places
abbrev pub most : ℕ
most = 2000000

-- the size when it has p places
at_places : (d : Decimal) (b p : ℕ) → AtMost b d → d.places ≤ p → size_at p d ≤ b * 10 ^ p
at_places d b p h l =
    let q : b * 10 ^ d.places * 10 ^ (p - d.places) ≡ b * 10 ^ p =
    mul_assoc b (10 ^ d.places) (10 ^ (p - d.places))
    ∙ ap (λ m. b * m) (sym (pow-add 10 d.places (p - d.places)) ∙ ap (λ k. 10 ^ k) (add-sub_of_le l)) in
    le_trans (mul-le-mul_right (10 ^ (p - d.places)) h) (le_of_eq q)

few : (b p : ℕ) → b ≤ most → p ≤ 11 → b * 10 ^ p ≤ largest
few b p h l =
    let q : b * 10 ^ p ≤ most * 10 ^ 11 = mul-le-mul h (pow-le-pow_right (zero-lt-suc 9) l) in
    le_trans q (omega arith)

-- a sum of such is exact
pub sum_right : (a b : Decimal) (m n : ℕ) → AtMost m a → AtMost n b → m ≤ most → n ≤ most → a.places ≤ 11 → b.places ≤ 11
    → sum_of a b ≡ exact_sum a b
sum_right a b m n h k hm kn l r =
    let p : places_of a b ≤ 11 = omega arith in
    sum_exact a b
    (le_trans (at_places a m (places_of a b) h (omega arith)) (few m (places_of a b) hm p))
    (le_trans (at_places b n (places_of a b) k (omega arith)) (few n (places_of a b) kn p))

-- the size of a sum and of a product
less_size : (a b : ℕ) → nat_abs (sub_ℕ a b) ≤ a + b
less_size a b = go (ltb a b) refl
  where
    go : (x : Bool) → ltb a b ≡ x → nat_abs (cond x (negsuc (b - suc a)) (pos (a - b))) ≤ a + b
    go true e = omega (arith, ltb-true a b e)
    go false e = omega arith

sum-size : (a b : ℤ) → nat_abs (a +ℤ b) ≤ nat_abs a + nat_abs b
sum-size (pos a) (pos b) = omega arith
sum-size (pos a) (negsuc b) = less_size a (suc b)
sum-size (negsuc a) (pos b) = omega (arith, less_size b (suc a))
sum-size (negsuc a) (negsuc b) = omega arith

minus_size : (n : ℕ) → nat_abs (neg_ℤ (pos n)) ≡ n
minus_size zero = refl
minus_size (suc n) = refl

times_size : (z : ℤ) (m : ℕ) → nat_abs (z *ℤ pos m) ≡ nat_abs z * m
times_size (pos n) m = refl
times_size (negsuc n) m = minus_size (suc n * m)

-- the sum is at most the two together, and has no more places
pub sum-most : (a b : Decimal) (m n : ℕ) → AtMost m a → AtMost n b → AtMost (m + n) (exact_sum a b)
unfolding exact_sum units_at
sum-most a b m n h k =
    let p = places_of a b in
    let x = at_places a m p h (omega arith) in
    let y = at_places b n p k (omega arith) in
    let s = sum-size (a.units *ℤ pos (10 ^ (p - a.places))) (b.units *ℤ pos (10 ^ (p - b.places))) in
    let u = times_size a.units (10 ^ (p - a.places)) in
    let v = times_size b.units (10 ^ (p - b.places)) in
    omega (arith, x, y, s, u, v, add-mul m n (10 ^ p))

pub sum-places : (a b : Decimal) → a.places ≤ 11 → b.places ≤ 11 → (exact_sum a b).places ≤ 11
unfolding exact_sum
sum-places a b l r = omega arith
