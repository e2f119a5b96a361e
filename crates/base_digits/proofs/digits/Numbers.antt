-- What digits that were written are worth when they are read, and how large a number of so many digits can be.
use Prim.Native.Nat.{ℕ, zero, suc, ◌+◌, ◌-◌, ◌*◌, ◌/◌, ◌%◌, ◌^◌, ◌≤◌, ◌<◌, suc-le-suc}
use native.Mathlib.Omega.{arith}
use native.Mathlib.Nat.{pow-suc, pow-succ', mod-lt, add-zero, add-suc, mul_assoc, div-div-eq-div-mul, div-one, lt_of_lt_of_le, mul-le-mul_right}
use mathlib.Core.Path.{◌≡◌, refl, sym, ap, ◌∙◌}
use mathlib.Core.List.{List, [], ◌∷◌, ◌++◌, append_assoc, append-nil}
use mathlib.Core.Bool.{Bool, true, false, cond}
use lib.ListN.{length}
use lib.Dec.{leb, ltb, lit<}
use lib.Arith.{mod-mul}
use borrow.Author.Tests.{ne_eqb, leb-true, ltb-true, ltb-false}
use Rattle.base_digits.specs.digits.Figures.{is_digit, blanks, leading, value_from}
use Rattle.base_digits.specs.digits.Digits.{digits, size_up_to}
use Rattle.base_digits.proofs.digits.Bools.{and_left, and_right}
use Rattle.base_digits.proofs.digits.Spell.{two_more, tenth}
use Rattle.base_digits.proofs.digits.Walk.{is_digit_lem, value_append}

-- a digit that was written is one
written-digit : (n : ℕ) → is_digit (48 + n % 10) ≡ true
written-digit n = let h : n % 10 < 10 = mod-lt n (omega arith) in is_digit_lem (48 + n % 10) (omega arith) (omega arith)

-- digits that were written are read as digits, whatever follows
pub digits_lead : (k n : ℕ) (r : List ℕ) → leading (digits k n ++ r) ≡ digits k n ++ leading r
unfolding digits leading
digits_lead zero n r = refl
digits_lead (suc k) n r =
    ap leading (append_assoc (digits k (n / 10)) ((48 + n % 10) ∷ []) r)
    ∙ digits_lead k (n / 10) ((48 + n % 10) ∷ r)
    ∙ ap (λ (l : List ℕ). digits k (n / 10) ++ l) one
    ∙ sym (append_assoc (digits k (n / 10)) ((48 + n % 10) ∷ []) (leading r))
  where
    one : leading ((48 + n % 10) ∷ r) ≡ (48 + n % 10) ∷ leading r
    one = rw (written-digit n)

-- so they are digits alone
pub digits_alone : (k n : ℕ) → leading (digits k n) ≡ digits k n
unfolding leading
digits_alone k n = ap leading (sym (append-nil (digits k n))) ∙ digits_lead k n [] ∙ append-nil (digits k n)

-- a byte before digits alone is one, and no blank
pub first-digit : (b : ℕ) (s : List ℕ) → length (leading (b ∷ s)) ≡ suc (length s) → (is_digit b ≡ true) × (length (leading s) ≡ length s)
unfolding leading
first-digit b s h = go (is_digit b) refl h
  where
    go : (t : Bool) → is_digit b ≡ t → length (cond t (b ∷ leading s) []) ≡ suc (length s) → (is_digit b ≡ true) × (length (leading s) ≡ length s)
    go true e q = (e, omega arith)
    go false e q = absurd (omega arith)

pub no_blanks : (s : List ℕ) → length (leading s) ≡ length s → 0 < length s → blanks s ≡ 0
unfolding blanks
no_blanks [] h k = refl
no_blanks (b ∷ s) h k =
    let l : 48 ≤ b = leb-true 48 b (and_left (leb 48 b) (leb b 57) (first-digit b s h).0) in
    rw (ne_eqb b 32 (λ p. omega arith))

tens : (k : ℕ) → 0 < 10 ^ k
tens zero = omega arith
tens (suc k) = rw (pow-suc 10 k) (let h : 0 < 10 ^ k = tens k in omega arith)

-- and make the number again, less what stands before its last k digits
pub digits_value : (m k n : ℕ) → value_from m (digits k n) ≡ m * 10 ^ k + n % 10 ^ k
unfolding digits value_from
digits_value m zero n = omega arith
digits_value m (suc k) n =
    value_append m (digits k (n / 10)) ((48 + n % 10) ∷ [])
    ∙ ap (λ v. v * 10 + (48 + n % 10 - 48)) (digits_value m k (n / 10))
    ∙ rw (pow-suc 10 k, mod-mul n (tens k) (lit< {m = 0} {n = 10} tt)) (omega (arith, mul_assoc m (10 ^ k) 10))

-- the digits of a number in two parts
pub digits_split : (a b n : ℕ) → digits (a + b) n ≡ digits a (n / 10 ^ b) ++ digits b n
unfolding digits
digits_split a zero n = rw (add-zero a, append-nil, div-one n)
digits_split a (suc b) n =
    rw (add-suc a b, digits_split a b (n / 10), pow-succ' 10 b, div-div-eq-div-mul n 10 (10 ^ b))
    (append_assoc (digits a (n / (10 * 10 ^ b))) (digits b (n / 10)) ((48 + n % 10) ∷ []))

-- so many digits make no larger number
pub value_below : (n : ℕ) (s : List ℕ) → value_from n (leading s) < (n + 1) * 10 ^ length (leading s)
unfolding leading value_from
value_below n [] = omega arith
value_below n (b ∷ s) = go (is_digit b) refl (value_below (n * 10 + (b - 48)) s)
  where
    go : (d : Bool) → is_digit b ≡ d → value_from (n * 10 + (b - 48)) (leading s) < (n * 10 + (b - 48) + 1) * 10 ^ length (leading s)
        → value_from n (cond d (b ∷ leading s) []) < (n + 1) * 10 ^ length (cond d (b ∷ leading s) [])
    go true e h =
        let m : b ≤ 57 = leb-true b 57 (and_right (leb 48 b) (leb b 57) e) in
        rw (pow-succ' 10 (length (leading s)), ← mul_assoc (n + 1) 10 (10 ^ length (leading s))) (lt_of_lt_of_le h (mul-le-mul_right (10 ^ length (leading s)) (omega arith)))
    go false e h = omega arith

-- a number has no more digits than its power of ten says
pub size_le : (f n k : ℕ) → n < 10 ^ k → 1 ≤ k → size_up_to f n ≤ k
unfolding size_up_to
size_le zero n k h l = omega arith
size_le (suc f) n zero h l = absurd (omega arith)
size_le (suc f) n (suc k) h l = go (ltb n 10) refl (λ more. size_le f (n / 10) k (tenth k n h) more)
  where
    go : (t : Bool) → ltb n 10 ≡ t → (1 ≤ k → size_up_to f (n / 10) ≤ k) → cond t 1 (suc (size_up_to f (n / 10))) ≤ suc k
    go true e r = omega arith
    go false e r = let m : 10 ≤ n = ltb-false n 10 e in let h2 : 2 ≤ suc k = two_more (suc k) n m h in suc-le-suc (r (omega arith))

-- and no fewer
pub size_enough : (f n : ℕ) → n < 10 ^ f → n < 10 ^ size_up_to f n
unfolding size_up_to
size_enough zero n h = h
size_enough (suc f) n h = go (ltb n 10) refl (size_enough f (n / 10) (tenth f n h))
  where
    go : (t : Bool) → ltb n 10 ≡ t → n / 10 < 10 ^ size_up_to f (n / 10) → n < 10 ^ cond t 1 (suc (size_up_to f (n / 10)))
    go true e r = ltb-true n 10 e
    go false e r = rw (pow-suc 10 (size_up_to f (n / 10))) (omega arith)

-- every number has a digit
pub size-some : (f n : ℕ) → 1 ≤ size_up_to (suc f) n
unfolding size_up_to
size-some f n = go (ltb n 10)
  where
    go : (t : Bool) → 1 ≤ cond t 1 (suc (size_up_to f (n / 10)))
    go true = omega arith
    go false = omega arith
