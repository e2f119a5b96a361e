-- Bytes are printable exactly where no bad one is found among them.
use Prim.Native.Nat.{ℕ, zero, suc, ◌≤◌, ◌<◌}
use native.Mathlib.Omega.{arith}
use mathlib.Core.Path.{◌≡◌, refl, ap}
use mathlib.Core.List.{List, [], ◌∷◌}
use mathlib.Core.Bool.{true, false, ◌&&◌, not}
use lib.ListN.{length, drop}
use lib.Dec.{leb}
use borrow.Author.Tests.{not-false}
use Rattle.base_digits.proofs.digits.Bools.{and_left, and_right, and_both}
use Rattle.base_lists.proofs.Finding.{first_below, first-none}
use Rattle.value_text.specs.text.Texts.{printable}
use Rattle.value_text.specs.printable.Bytes.{bad_at, first_bad}

-- a byte of printable bytes is none that is bad
good_at_lem : (s : List ℕ) (i : ℕ) → printable s ≡ true → i < length s → bad_at s i ≡ false
unfolding printable
good_at_lem [] i h k = absurd (omega arith)
good_at_lem (b ∷ s) zero h k =
    let x = leb 32 b in
    let y = leb b 126 in
    let r = and_right x (y && printable s) h in
    ap not (and_both x y (and_left x (y && printable s) h) (and_left y (printable s) r))
good_at_lem (b ∷ s) (suc i) h k =
    let x = leb 32 b in
    let y = leb b 126 in
    good_at_lem s i (and_right y (printable s) (and_right x (y && printable s) h)) (omega arith)

pub none-bad : (s : List ℕ) → printable s ≡ true → first_bad s ≡ length s
unfolding first_bad
none-bad s h = first-none (bad_at s) (length s) (λ i k. good_at_lem s i h k)

all_good : (s : List ℕ) → ((i : ℕ) → i < length s → bad_at s i ≡ false) → printable s ≡ true
unfolding printable
all_good [] h = refl
all_good (b ∷ s) h =
    let x = leb 32 b in
    let y = leb b 126 in
    let g : (x && y) ≡ true = not-false (x && y) (h 0 (omega arith)) in
    and_both x (y && printable s) (and_left x y g)
    (and_both y (printable s) (and_right x y g) (all_good s (λ i k. h (suc i) (omega arith))))

pub bad-none : (s : List ℕ) → length s ≤ first_bad s → printable s ≡ true
unfolding first_bad
bad-none s h = all_good s (λ i k. first_below (bad_at s) (length s) i (omega arith))

-- what is left of printable bytes
pub rest_printable : (n : ℕ) (s : List ℕ) → printable s ≡ true → printable (drop n s) ≡ true
unfolding printable
rest_printable zero s h = h
rest_printable (suc n) [] h = refl
rest_printable (suc n) (b ∷ s) h =
    let x = leb 32 b in
    let y = leb b 126 in
    rest_printable n s (and_right y (printable s) (and_right x (y && printable s) h))
