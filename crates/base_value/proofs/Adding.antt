-- Sums of units that the machine's 64-bit integers hold, and units with more places.
use Prim.Native.Nat.{ℕ, zero, suc, ◌*◌, ◌-◌, ◌^◌, ◌≤◌, min}
use native.Mathlib.Decide.{dec_lt}
use native.Mathlib.Omega.{arith}
use native.Mathlib.Nat.{pow-le-pow_right, zero-mul, suc-mul}
use mathlib.Core.Path.{◌≡◌, refl, ap, ap₂, ◌∙◌}
use mathlib.Core.Bool.{Bool, true, false, cond}
use lib.Dec.{ltb}
use lib.IntN.{ℤ, pos, negsuc, nat_abs, sub_ℕ, ◌+ℤ◌, ◌*ℤ◌}
use mir.Syntax.{w64}
use mir.Val.{SFits, to_z, of_z}
use mir.ValLaws.{to_z-of_z}
use Rattle.base_digits.specs.signs.Signs.{signed_of, is_minus}
use Rattle.base_value.specs.declared.Decimal.{Decimal}
use Rattle.base_value.specs.Sums.{decimal, largest, places_of, units_at, exact_sum, raised_of, sum_of}

-- the difference of two sizes
less_fits : (a b : ℕ) → a ≤ largest → b ≤ largest → SFits w64 (sub_ℕ a b)
less_fits a b h k = go (ltb a b)
  where
    go : (x : Bool) → SFits w64 (cond x (negsuc (b - suc a)) (pos (a - b)))
    go true = record { sfits = omega arith }
    go false = record { sfits = omega arith }

-- the sum of two numbers whose sizes are not over the largest
pub sum_fits : (a b : ℤ) → nat_abs a ≤ largest → nat_abs b ≤ largest → SFits w64 (a +ℤ b)
sum_fits (pos a) (pos b) h k = record { sfits = omega arith }
sum_fits (pos a) (negsuc b) h k = less_fits a (suc b) h k
sum_fits (negsuc a) (pos b) h k = less_fits b (suc a) k h
sum_fits (negsuc a) (negsuc b) h k = record { sfits = omega arith }

-- units of a size that is not over the largest, as the machine has them
pub small-held : (z : ℤ) → nat_abs z ≤ largest → to_z w64 (of_z w64 z) ≡ z
small-held z h = to_z-of_z w64 z (fits z h)
  where
    fits : (z : ℤ) → nat_abs z ≤ largest → SFits w64 z
    fits (pos n) h = record { sfits = omega arith }
    fits (negsuc n) h = record { sfits = omega arith }

-- a size times so many tens, no more than 18 of them: any size but 0 is then as large as the largest
pub grown_is : (n k : ℕ) → min (min (n * 10 ^ min k 18) (2 ^ 64 - 1)) largest ≡ min largest (n * 10 ^ k)
grown_is n k = elim (dec_lt k 18) [
  | yes l ↦ let e : min k 18 ≡ k = omega arith in rw e (omega arith)
  | no l ↦
      let e : min k 18 ≡ 18 = omega arith in
      let h : 18 ≤ k = omega arith in
      let p : 10 ^ 18 ≤ 10 ^ k = pow-le-pow_right (omega arith) h in
      rw e (go n p)
]
  where
    go : (n : ℕ) → 10 ^ 18 ≤ 10 ^ k → min (min (n * 10 ^ 18) (2 ^ 64 - 1)) largest ≡ min largest (n * 10 ^ k)
    go zero p = rw zero-mul
    go (suc n) p =
        let q : 10 ^ k ≤ suc n * 10 ^ k = rw suc-mul (omega arith) in
        omega (arith, p, q)

-- units with more places are not over the largest
pub raised_small : (z : ℤ) (k : ℕ) → nat_abs (raised_of z k) ≤ largest
unfolding raised_of signed_of
raised_small z k = go (is_minus z) (min largest (nat_abs z * 10 ^ k)) (omega arith)
  where
    go : (m : Bool) (n : ℕ) → n ≤ largest → nat_abs (signed_of m n) ≤ largest
    go true zero h = h
    go true (suc n) h = h
    go false n h = h

-- it is exact where the size is not over the largest
raised_exact : (z : ℤ) (k : ℕ) → nat_abs z * 10 ^ k ≤ largest → raised_of z k ≡ z *ℤ pos (10 ^ k)
unfolding raised_of signed_of
raised_exact z k h =
    let c : min largest (nat_abs z * 10 ^ k) ≡ nat_abs z * 10 ^ k = omega arith in
    ap (signed_of (is_minus z)) c ∙ times z (10 ^ k)
  where
    times : (z : ℤ) (m : ℕ) → signed_of (is_minus z) (nat_abs z * m) ≡ z *ℤ pos m
    times (pos n) m = refl
    times (negsuc n) m = refl

-- how large a decimal is when it has p places
abbrev pub size_at : ℕ → Decimal → ℕ
size_at p d = nat_abs d.units * 10 ^ (p - d.places)

-- a sum is exact where neither grows over the largest size
pub sum_exact : (a b : Decimal) → size_at (places_of a b) a ≤ largest → size_at (places_of a b) b ≤ largest → sum_of a b ≡ exact_sum a b
unfolding sum_of exact_sum units_at
sum_exact a b h k =
    ap (λ z. decimal z (places_of a b))
    (ap₂ ◌+ℤ◌ (raised_exact a.units (places_of a b - a.places) h) (raised_exact b.units (places_of a b - b.places) k))
