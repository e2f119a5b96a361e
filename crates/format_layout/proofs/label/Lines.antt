-- The labels: which one a `match` picks, and what it holds.
use mathlib.Core.Path.{◌≡◌, refl, sym, ◌∙◌, ap}
use mathlib.Core.Bool.{Bool, true, false, ◌||◌, true≢false}
use mathlib.Core.List.{List, [], ◌∷◌, ◌++◌}
use Prim.Native.Nat.{ℕ, zero, suc, ◌+◌, ◌-◌, ◌<◌, ◌≤◌}
use native.Mathlib.Nat.{le_of_suc-le-suc, not-suc-le-zero}
use native.Mathlib.Omega.{arith}
use native.Mathlib.Decide.{dec_lt}
use borrow.Author.Tests.{le-ltb}
use lib.Dec.{T, eqb, eqb→eq, leb, leb→le, ltb}
use lib.ListN.{length, get_or, replicate, get_or-eq_default}
use Rattle.format_layout.specs.Shape.{Layout}
use Rattle.format_layout.specs.Table.{layouts}
use Rattle.format_layout.specs.Layouts.{layout_at, label_of}
use Rattle.format_layout.specs.packed.Rows.{layout_count, label_row}
use Rattle.format_layout.proofs.Places.{empty, layouts-count, no_label}
use Rattle.format_layout.proofs.Every.{every, at}
use Rattle.format_layout.proofs.Lines.{Others, above}

-- a label with its blanks, and its length
abbrev pub Labels : ℕ → List ℕ → ℕ → Type 0
Labels k t w = (t ≡ label_row k) × (w ≡ length (label_of k))

pub same_label : (k p : ℕ) → p ≡ k → (t : List ℕ) (w : ℕ) → Labels k t w → Labels p t w
same_label k p e t w h = rw e h

-- only the first layouts have a label

abbrev labelled : ℕ → Layout → Bool
labelled i l = ltb i 9 || eqb (length l.label) 0

all-labelled : T (every labelled 0 layouts)
unfolding layouts
all-labelled = tt

tested : (k : ℕ) → k < layout_count → T (labelled k (layout_at k))
unfolding layout_at
tested k h = at labelled empty layouts all-labelled k (omega (arith, layouts-count))

or_right : (a b : Bool) → a ≡ false → T (a || b) → T b
or_right true b e t = absurd (true≢false e)
or_right false b e t = t

unlabelled : (k : ℕ) → 9 ≤ k → length (label_of k) ≡ 0
unfolding label_of
unlabelled k h = elim (dec_lt k layout_count) [
  | yes g ↦ eqb→eq (length (layout_at k).label) 0 (or_right (ltb k 9) (eqb (length (layout_at k).label) 0) (le-ltb k 9 h) (tested k g))
  | no g ↦ no_label k (omega arith)
]

nil : (l : List ℕ) → length l ≡ 0 → l ≡ []
nil [] e = refl
nil (x ∷ l) e = absurd (omega arith)

pub no_label-row : (p : ℕ) → Others 0 9 p → (t : List ℕ) (w : ℕ) → (t ≡ replicate 23 32) × (w ≡ 0) → Labels p t w
unfolding label_row
no_label-row p o t w h =
    let u : length (label_of p) ≡ 0 = unlabelled p (above 0 9 p (omega arith) o) in
    (h.0 ∙ rw (nil (label_of p) u), omega (arith, h.1))

-- a byte of a label and its blanks is the label's, or a blank

blank : (m i : ℕ) → i < m → ◌≡◌ {A = ℕ} (get_or (replicate m 32) i 0) 32
blank zero i h = absurd (not-suc-le-zero h)
blank (suc m) zero h = refl
blank (suc m) (suc i) h = blank m i (le_of_suc-le-suc h)

padded : (l : List ℕ) (m i : ℕ) → i < length l + m → get_or (l ++ replicate m 32) i 0 ≡ get_or l i 32
padded [] m i h = blank m i (omega arith)
padded (x ∷ l) m zero h = refl
padded (x ∷ l) m (suc i) h = padded l m i (omega arith)

pub label-byte-is : (k i : ℕ) → i < 23 → (t : List ℕ) → t ≡ label_row k → get_or t i 0 ≡ get_or (label_of k) i 32
unfolding label_row
label-byte-is k i h t e =
    ap (λ (l : List ℕ). get_or l i 0) e ∙ padded (label_of k) (23 - length (label_of k)) i (omega arith)

abbrev short : ℕ → Layout → Bool
short i l = leb (length l.label) 23

all_short : T (every short 0 layouts)
unfolding layouts
all_short = tt

short_at : (k : ℕ) → k < layout_count → T (short k (layout_at k))
unfolding layout_at
short_at k h = at short empty layouts all_short k (omega (arith, layouts-count))

label_short : (k : ℕ) → length (label_of k) ≤ 23
unfolding label_of
label_short k = elim (dec_lt k layout_count) [
  | yes g ↦ leb→le (length (layout_at k).label) 23 (short_at k g)
  | no g ↦ omega (arith, no_label k (omega arith))
]

pub label_past : (k i : ℕ) → 23 ≤ i → 32 ≡ get_or (label_of k) i 32
label_past k i h = sym (get_or-eq_default (label_of k) 32 (omega (arith, label_short k)))
