-- A sum taken into 0 to under a whole turn: it lies there, and differs by whole turns.
use Prim.Native.Nat.{ℕ, zero, suc, ◌+◌, ◌-◌, ◌*◌, ◌/◌, ◌%◌, ◌^◌, ◌≤◌, ◌<◌}
use native.Mathlib.Omega.{arith}
use native.Mathlib.Nat.{mod-lt, div-add-mod', suc-mul, one-le-pow, zero-lt-suc, mul-le-mul_left, pow-le-pow_right}
use mathlib.Core.Path.{◌≡◌, refl, sym, ap, ◌∙◌}
use mathlib.Core.Bool.{cond}
use lib.IntN.{ℤ, pos, negsuc, neg_ℤ, ◌+ℤ◌, ◌*ℤ◌}
use borrow.Author.Tests.{lt-ltb}
use Rattle.std.specs.Int.{int_rem_euclid}
use mir.Syntax.{w64}
use mir.Val.{SFits, to_z, of_z}
use mir.ValLaws.{to_z-of_z}
use Rattle.base_value.specs.Sums.{decimal}
use Rattle.base_value.specs.declared.Decimal.{Decimal}
use Rattle.survey_compass.specs.Corrections.{turn, within, turned}

pub turn-some : (p : ℕ) → 360 ≤ turn p
unfolding turn
turn-some p = omega (arith, one-le-pow p 10 (zero-lt-suc 9))

pub turn-most : (i : ℕ) → i ≤ 11 → turn i ≤ 36000000000000
unfolding turn
turn-most i h =
    let q : 360 * 10 ^ i ≤ 360 * 10 ^ 11 = mul-le-mul_left 360 (pow-le-pow_right (zero-lt-suc 9) h) in
    omega (arith, q)

-- it lies in 0 to under n
pub within_below : (n : ℕ) → 0 < n → (z : ℤ) → within n z < n
unfolding within
within_below n p (pos m) = mod-lt m p
within_below n p (negsuc m) = omega (arith, mod-lt m p)

-- a turn as a signed number
pub turn_signed : (p : ℕ) → p ≤ 11 → (n : ℕ) → n ≡ turn p → to_z w64 n ≡ pos (turn p)
turn_signed p h n e =
    let m = turn-most p h in
    let f : SFits w64 (pos (turn p)) = record { sfits = omega (arith, m) } in
    ap (to_z w64) e ∙ to_z-of_z w64 (pos (turn p)) f

-- the remainder of a sum, as the machine takes it
pub remainder-is : (n : ℕ) (z : ℤ) → int_rem_euclid z (pos n) ≡ pos (within n z)
unfolding within
remainder-is n (pos m) = refl
remainder-is n (negsuc m) = ap pos (omega arith)

pub turned-is : (d : Decimal) → d.places ≤ 11 → (t : ℤ) → t ≡ pos (turn d.places) → (r : ℤ) → r ≡ int_rem_euclid (to_z w64 (of_z w64 d.units)) (to_z w64 (of_z w64 t))
    → SFits w64 d.units → decimal (to_z w64 (of_z w64 r)) d.places ≡ turned d
unfolding turned
turned-is d h t e r q f =
    let m = turn-most d.places h in
    let g : SFits w64 (pos (turn d.places)) = record { sfits = omega (arith, m) } in
    let l = within_below (turn d.places) (omega (arith, turn-some d.places)) d.units in
    let k : SFits w64 (pos (within (turn d.places) d.units)) = record { sfits = omega (arith, m, l) } in
    rw (q, e, to_z-of_z w64 d.units f, to_z-of_z w64 (pos (turn d.places)) g, remainder-is (turn d.places) d.units) (ap (λ z. decimal z d.places) (to_z-of_z w64 _ k))

-- minus more than r, and r
less_than : (r x m : ℕ) → suc m + r ≡ x → pos r +ℤ neg_ℤ (pos x) ≡ negsuc m
less_than r zero m e = absurd (omega (arith, e))
less_than r (suc x) m e =
    let k : suc x - suc r ≡ m = omega (arith, e) in
    ap (λ b. cond b (negsuc (suc x - suc r)) (pos (r - suc x))) (lt-ltb r (suc x) (omega (arith, e))) ∙ ap negsuc k

-- and differs from the number by whole multiples of n
pub multiples : (n : ℕ) → 0 < n → (z : ℤ) → (k : ℤ) × (z ≡ pos (within n z) +ℤ k *ℤ pos n)
unfolding within
multiples n p (pos m) = (pos (m / n), ap pos (omega (arith, div-add-mod' m n)))
multiples n p (negsuc m) =
    let b = mod-lt m p in
    let s : suc (m / n) * n ≡ m / n * n + n = suc-mul (m / n) n in
    (negsuc (m / n), sym (less_than (n - suc (m % n)) (suc (m / n) * n) m (omega (arith, b, s, div-add-mod' m n))))
