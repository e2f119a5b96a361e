-- What stands in a row of the table is the machine's step: one computed test of all of it.
use Prim.Native.Nat.{ℕ, zero, suc, ◌+◌, ◌-◌, ◌*◌, ◌/◌, ◌%◌, ◌^◌, ◌<◌}
use mathlib.Core.Path.{◌≡◌, refl, ap, ◌∙◌, subst}
use mathlib.Core.Bool.{Bool, true, false, cond, ◌&&◌, ◌||◌}
use native.Mathlib.Omega.{arith}
use native.Mathlib.Nat.{not-suc-le-zero}
use native.Mathlib.Decide.{dec_lt}
use lib.Dec.{T, eqb, leb}
use borrow.Author.Tests.{eqb-true, leb-true}
use Rattle.card_screen.specs.Machine.{class_of, step_by, step, row_at, decimal_by, first_by, later_by}

abbrev pub all_to : (ℕ → Bool) → ℕ → Bool
all_to p zero = true
all_to p (suc n) = all_to p n && p n

pub both : (a b : Bool) → T (a && b) → T a × T b
both true true h = (tt, tt)
both true false h = absurd h
both false b h = absurd h

pub all_at : (p : ℕ → Bool) (n : ℕ) → T (all_to p n) → (i : ℕ) → i < n → T (p i)
all_at p zero t i h = absurd (not-suc-le-zero h)
all_at p (suc n) t i h = elim (dec_lt i n) [
  | yes g ↦ all_at p n (both (all_to p n) (p n) t).0 i g
  | no g ↦ let e : n ≡ i = omega arith in subst (λ j. T (p j)) e (both (all_to p n) (p n) t).1
]

pub is_true : (b : Bool) → T b → b ≡ true
is_true true h = refl
is_true false h = absurd h

abbrev test : ℕ → ℕ → ℕ → Bool
test r c j = eqb (row_at (16 * c + r) / 2 ^ (8 * j) % 64) (step_by r c (8 * j)) && eqb (step_by r c (8 * j) % 8) 0

tested : T (all_to (λ r. all_to (λ c. all_to (test r c) 8) 16) 16)
unfolding row_at step_by decimal_by first_by later_by
tested = tt

module _ (r c q : ℕ) (in-r : r < 16) (in_c : c < 16) (in-q : q < 64) (by_8 : q % 8 ≡ 0) where
  eighth : 8 * (q / 8) ≡ q
  eighth = omega (arith, by_8)

  here : T (test r c (q / 8))
  here = all_at (test r c) 8 (all_at (λ d. all_to (test r d) 8) 16 (all_at (λ e. all_to (λ d. all_to (test e d) 8) 16) 16 tested r in-r) c in_c) (q / 8) (omega arith)

  pub row_step : row_at (16 * c + r) / 2 ^ q % 64 ≡ step_by r c q
  row_step =
      subst (λ z. row_at (16 * c + r) / 2 ^ z % 64 ≡ step_by r c z) eighth
      (eqb-true _ _ (is_true _ (both (eqb (row_at (16 * c + r) / 2 ^ (8 * (q / 8)) % 64) (step_by r c (8 * (q / 8)))) _ here).0))

  pub step_eighth : step_by r c q % 8 ≡ 0
  step_eighth =
      subst (λ z. step_by r c z % 8 ≡ 0) eighth
      (eqb-true _ _ (is_true _ (both (eqb (row_at (16 * c + r) / 2 ^ (8 * (q / 8)) % 64) (step_by r c (8 * (q / 8)))) _ here).1))

pub class_below : (b : ℕ) → class_of b < 16
unfolding class_of
class_below b = go (eqb b 32) (eqb b 43 || eqb b 45) (eqb b 46) (leb 48 b) (leb b 57) refl
  where
    go : (w x y u v : Bool) → leb b 57 ≡ v → cond w 0 (cond x 1 (cond y 2 (cond (u && v) (b - 45) 13))) < 16
    go true x y u v e = omega arith
    go false true y u v e = omega arith
    go false false true u v e = omega arith
    go false false false true true e = omega (arith, leb-true b 57 e)
    go false false false true false e = omega arith
    go false false false false v e = omega arith

-- one more byte, by the table
module _ (role b q k row r : ℕ) (in-role : role < 16) (in-q : q < 64) (by_8 : q % 8 ≡ 0) where
  pub next-is : k ≡ 16 * class_of b → row ≡ row_at (k + role) → r ≡ row / 2 ^ q % 64 → (r ≡ step role b q) × (r < 64) × (r % 8 ≡ 0)
  unfolding step
  next-is e f g =
      let s : r ≡ step_by role (class_of b) q = g ∙ rw (f, e) (row_step role (class_of b) q in-role (class_below b) in-q by_8) in
      (s, omega (arith, g), ap (λ z. z % 8) s ∙ step_eighth role (class_of b) q in-role (class_below b) in-q by_8)
