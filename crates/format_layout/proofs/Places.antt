-- Layouts by number: past the last one there is nothing.
use mathlib.Core.Path.{◌≡◌, refl, ap}
use mathlib.Core.Bool.{Bool, true, false}
use mathlib.Core.List.{[]}
use Prim.Native.Nat.{ℕ, ◌<◌, ◌≤◌}
use native.Mathlib.Omega.{arith}
use borrow.Author.Tests.{ltb-true, ltb-false}
use lib.Dec.{ltb}
use lib.ListN.{length, get_or-eq_default}
use Rattle.format_layout.specs.Shape.{Layout}
use Rattle.format_layout.specs.Table.{layouts}
use Rattle.format_layout.specs.Layouts.{layout_at, fields_of, label_of}
use Rattle.format_layout.specs.packed.Rows.{layout_count}

abbrev pub empty : Layout
empty = record { code = []; label = []; fields = [] }

pub layouts-count : length layouts ≡ layout_count
unfolding layouts
layouts-count = refl

pub past : (k : ℕ) → layout_count ≤ k → layout_at k ≡ empty
unfolding layout_at
past k h = get_or-eq_default layouts empty (omega (arith, layouts-count))

pub no_fields : (k : ℕ) → layout_count ≤ k → length (fields_of k) ≡ 0
unfolding fields_of
no_fields k h = ap (λ (l : Layout). length l.fields) (past k h)

pub no_label : (k : ℕ) → layout_count ≤ k → length (label_of k) ≡ 0
unfolding label_of
no_label k h = ap (λ (l : Layout). length l.label) (past k h)

-- what is not so past the last layout is so of a layout only
only : (k : ℕ) → (layout_count ≤ k → ⊥) → (b : Bool) → ltb k layout_count ≡ b → k < layout_count
only k n true e = ltb-true k layout_count e
only k n false e = absurd (n (ltb-false k layout_count e))

pub has_fields : (k n : ℕ) → n < length (fields_of k) → k < layout_count
has_fields k n h = only k (λ (b : layout_count ≤ k). omega (arith, no_fields k b)) (ltb k layout_count) refl

pub has_label : (k n : ℕ) → n < length (label_of k) → k < layout_count
has_label k n h = only k (λ (b : layout_count ≤ k). omega (arith, no_label k b)) (ltb k layout_count) refl
