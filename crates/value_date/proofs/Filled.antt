-- Digits that fill their columns: only they make their number.
use Prim.Native.Nat.{ℕ, suc, ◌+◌, ◌-◌, ◌*◌, ◌/◌, ◌%◌, ◌≤◌}
use native.Mathlib.Omega.{arith}
use native.Mathlib.Nat.{add-zero, add-suc, suc-add}
use mathlib.Core.Path.{◌≡◌, sym, ap, ap₂, ◌∙◌}
use mathlib.Core.List.{List, [], ◌∷◌, ◌++◌, append_assoc, append-nil}
use mathlib.Core.Bool.{true}
use lib.ListN.{length}
use lib.Dec.{leb}
use borrow.Author.Tests.{leb-true}
use Rattle.base_digits.specs.digits.Figures.{is_digit, leading, value_from}
use Rattle.base_digits.specs.digits.Digits.{digits}
use Rattle.base_digits.proofs.digits.Bools.{and_left, and_right}
use Rattle.base_digits.proofs.digits.Numbers.{digits_alone, first-digit}

from_zero_lem : (b : ℕ) → is_digit b ≡ true → 48 ≤ b
from_zero_lem b h = leb-true 48 b (and_left (leb 48 b) (leb b 57) h)

to_nine : (b : ℕ) → is_digit b ≡ true → b ≤ 57
to_nine b h = leb-true b 57 (and_right (leb 48 b) (leb b 57) h)

-- digits that were written fill their columns
pub digits_fill : (k n : ℕ) → length (leading (digits k n)) ≡ length (digits k n)
unfolding leading
digits_fill k n = ap length (digits_alone k n)

-- the number of such columns is written with the same digits
pub value_digits : (k n : ℕ) (s : List ℕ) → length (leading s) ≡ length s → digits (k + length s) (value_from n s) ≡ digits k n ++ s
unfolding digits value_from
value_digits k n [] h = rw (add-zero k, append-nil)
value_digits k n (b ∷ s) h =
    let d = (first-digit b s h).0 in
    let l : 48 ≤ b = from_zero_lem b d in
    let m : b ≤ 57 = to_nine b d in
    ap (λ j. digits j (value_from (n * 10 + (b - 48)) s)) (add-suc k (length s) ∙ sym (suc-add k (length s)))
    ∙ value_digits (suc k) (n * 10 + (b - 48)) s (first-digit b s h).1
    ∙ append_assoc (digits k ((n * 10 + (b - 48)) / 10)) ((48 + (n * 10 + (b - 48)) % 10) ∷ []) s
    ∙ ap₂ (λ x y. digits k x ++ (y ∷ s)) (omega arith) (omega arith)
