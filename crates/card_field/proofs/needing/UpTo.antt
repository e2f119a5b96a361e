-- The numbers of `a..=b`, as an iterator yields them.
use Prim.Native.Nat.{ℕ, ◌+◌, ◌-◌}
use native.Mathlib.Omega.{arith}
use native.Mathlib.Numerals.{add-one}
use mathlib.Core.Path.{◌≡◌, refl, sym, ap, ◌∙◌}
use mathlib.Core.List.{List, ◌∷◌}
use mathlib.Core.Bool.{Bool, true, false}
use lib.ListN.{length}
use Rattle.std.specs.declared.ops.RangeInclusive.{RangeInclusive}
use Rattle.std.specs.Range.{range_inclusive_len, range_inclusive_start, range_inclusive_end, range_inclusive_exhausted}
use Rattle.std.specs.List.{range_with_len}
use Rattle.std.proofs.iter.runs.Sources.{nat_range_inclusive_steps}
use Rattle.std.proofs.lemmas.Iterator.{YieldsList}
use Rattle.std.proofs.lemmas.Iterator.Splits.{YieldsList-from_shown_while}

-- how many are left, and they
abbrev pub left : RangeInclusive ℕ → ℕ
left s = range_inclusive_len (λ x y. y - x) (range_inclusive_start s) (range_inclusive_end s) (range_inclusive_exhausted s)

abbrev pub shown : RangeInclusive ℕ → List ℕ
shown s = range_with_len (range_inclusive_start s) (left s)

none_left : (s t : RangeInclusive ℕ) → left s ≡ 0 → length (shown s) ≡ 0
none_left s t e = rw e refl

one_less : (s t : RangeInclusive ℕ) (x : ℕ) → x ≡ range_inclusive_start s → left t + 1 ≡ left s
    → (range_inclusive_exhausted t ≡ false → range_inclusive_start t ≡ range_inclusive_start s + 1) → shown s ≡ x ∷ shown t
one_less s t x e l h = go (range_inclusive_exhausted t) refl
  where
    more : shown s ≡ x ∷ range_with_len (range_inclusive_start s + 1) (left t)
    more = rw (← l, add-one (left t), e) refl

    go : (b : Bool) → range_inclusive_exhausted t ≡ b → shown s ≡ x ∷ shown t
    go true z =
        let n : left t ≡ 0 = ap (range_inclusive_len (λ x y. y - x) (range_inclusive_start t) (range_inclusive_end t)) z in
        more ∙ rw n refl
    go false z = more ∙ ap (λ n. x ∷ range_with_len n (left t)) (sym (h z))

pub from_range : (s : RangeInclusive ℕ) → YieldsList nat_range_inclusive_steps (λ x. x) s (shown s)
from_range s = YieldsList-from_shown_while nat_range_inclusive_steps (λ x. x) shown (λ s. Unit {0})
    (λ s t e h. none_left s t h.1.0)
    (λ s x t e h. (tt, one_less s t x h.1.0 h.1.1 h.1.2)) s tt

-- a range that is not spent has as many as lie from its start to its end
pub all_left : (s : RangeInclusive ℕ) → range_inclusive_exhausted s ≡ false → left s ≡ range_inclusive_end s + 1 - range_inclusive_start s
all_left s z = omega (arith, ap (range_inclusive_len (λ x y. y - x) (range_inclusive_start s) (range_inclusive_end s)) z)
