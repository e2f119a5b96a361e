-- What a walk over columns from the back knows as it writes digits, and how many digits a number has.
use Prim.Native.Nat.{ℕ, zero, suc, ◌+◌, ◌-◌, ◌*◌, ◌/◌, ◌%◌, ◌^◌, ◌≤◌, ◌<◌, max}
use native.Mathlib.Omega.{arith}
use native.Mathlib.Nat.{pow-suc, pow-succ', one-le-pow, div-div-eq-div-mul, div-one}
use mathlib.Core.Path.{◌≡◌, refl, sym, ap, ◌∙◌}
use mathlib.Core.List.{List, [], ◌∷◌, ◌++◌, append_assoc}
use native.Mathlib.Numerals.{add-one}
use lib.ListN.{length, drop, set, length-append}
use borrow.Author.Tests.{lt-ltb, le-ltb}
use Rattle.base_digits.specs.digits.Digits.{digits, size_up_to, size}
use Rattle.base_digits.proofs.digits.Parts.{placed}

-- one more digit written before those that stand
pub digit_goes : (i n : ℕ) (s : List ℕ) → 0 < i → i ≤ length s
    → digits i n ++ drop i s ≡ digits (i - 1) (n / 10) ++ drop (i - 1) (set s (i - 1) (48 + n % 10))
unfolding digits
digit_goes zero n s h inside = absurd (omega arith)
digit_goes (suc j) n s h inside =
    let e : suc j - 1 ≡ j = omega arith in
    rw e
    (append_assoc (digits j (n / 10)) ((48 + n % 10) ∷ []) (drop (suc j) s)
    ∙ ap (λ t. digits j (n / 10) ++ t) (sym (placed j (48 + n % 10) s inside)))

-- what is left of n once its last digits are taken
pub rest_goes : (i n : ℕ) → 0 < i → n / 10 ^ i ≡ n / 10 / 10 ^ (i - 1)
rest_goes zero n h = absurd (omega arith)
rest_goes (suc j) n h =
    let e : suc j - 1 ≡ j = omega arith in
    rw e (ap (λ k. n / k) (pow-succ' 10 j) ∙ sym (div-div-eq-div-mul n 10 (10 ^ j)))

-- a number of two digits is not below 10 ^ 1
pub two_more : (k n : ℕ) → 10 ≤ n → n < 10 ^ k → 2 ≤ k
two_more zero n h l = omega arith
two_more (suc zero) n h l = omega arith
two_more (suc (suc k)) n h l = omega arith

pub tenth : (k n : ℕ) → n < 10 ^ suc k → n / 10 < 10 ^ k
tenth k n h = let l : n < 10 ^ k * 10 = rw (pow-suc 10 k) at h in omega arith

-- a number from 10 ^ k up to below 10 ^ (k + 1) has k + 1 digits
size_known : (m k n : ℕ) → k < m → 10 ^ k ≤ n → n < 10 * 10 ^ k → size_up_to m n ≡ k + 1
unfolding size_up_to
size_known zero k n h least most = absurd (omega arith)
size_known (suc m) zero n h least most = rw (lt-ltb n 10 most)
size_known (suc m) (suc k) n h least most =
    let e : 10 ^ suc k ≡ 10 * 10 ^ k = pow-succ' 10 k in
    let low : 10 * 10 ^ k ≤ n = rw e at least in
    let high : n < 10 * (10 * 10 ^ k) = rw e at most in
    let one : 1 ≤ 10 ^ k = one-le-pow k 10 (omega arith) in
    rw (le-ltb n 10 (omega arith), size_known m k (n / 10) (omega arith) (omega arith) (omega arith)) (omega arith)

-- the same for zero too, which has as many as one
pub size_is : (n k : ℕ) → k < 20 → 10 ^ k ≤ max n 1 → max n 1 < 10 * 10 ^ k → size n ≡ k + 1
unfolding size_up_to
size_is zero zero h least most = refl
size_is zero (suc k) h least most =
    let e : 10 ^ suc k ≡ 10 * 10 ^ k = pow-succ' 10 k in
    let one : 1 ≤ 10 ^ k = one-le-pow k 10 (omega arith) in
    absurd (omega arith)
size_is (suc n) k h least most = size_known 20 k (suc n) h (omega arith) (omega arith)

-- the walk has come to the first column
pub columns-done : (i n : ℕ) (s : List ℕ) → i ≤ 0 → digits i n ++ drop i s ≡ s
unfolding digits
columns-done zero n s h = refl
columns-done (suc i) n s h = absurd (omega arith)

pub rest_done : (i n : ℕ) → i ≤ 0 → n / 10 ^ i ≡ n
rest_done zero n h = div-one n
rest_done (suc i) n h = absurd (omega arith)

pub digits-length : (k n : ℕ) → length (digits k n) ≡ k
unfolding digits
digits-length zero n = refl
digits-length (suc k) n =
    length-append (digits k (n / 10)) ((48 + n % 10) ∷ []) ∙ ap (λ m. m + 1) (digits-length k (n / 10)) ∙ add-one k
