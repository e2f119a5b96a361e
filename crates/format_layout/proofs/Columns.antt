-- The columns of the table: fields in order, apart, on the card after the label, as wide as their kind asks.
use mathlib.Core.Bool.{Bool, true, ◌&&◌}
use mathlib.Core.List.{List, [], ◌∷◌}
use Prim.Native.Nat.{ℕ, zero, suc, ◌+◌, ◌<◌, ◌≤◌}
use native.Mathlib.Nat.{le_of_suc-le-suc, not-suc-le-zero}
use native.Mathlib.Omega.{arith}
use lib.Dec.{T, leb, leb→le}
use lib.ListN.{length, get_or}
use Rattle.format_layout.specs.declared.Field.{Field}
use Rattle.format_layout.specs.Shape.{Layout}
use Rattle.format_layout.specs.Table.{layouts}
use Rattle.format_layout.specs.Layouts.{layout_at, fields_of, label_of, no_field}
use Rattle.format_layout.specs.Columns.{width, wide_as, ranged}
use Rattle.format_layout.specs.packed.Rows.{layout_count}
use Rattle.format_layout.proofs.Every.{every, at, and_left, and_right}
use Rattle.format_layout.proofs.Places.{layouts-count, has_fields}

-- a test of every layout holds of the one with a number
pub of_layout : (f : Layout → Bool) → T (every (λ (i : ℕ). f) 0 layouts) → (k : ℕ) → k < layout_count → T (f (layout_at k))
unfolding layout_at
of_layout f t k h = at (λ (i : ℕ). f) (record { code = []; label = []; fields = [] }) layouts t k (omega (arith, layouts-count))

-- order

-- each field lies on the card from column c on, and the next after it
abbrev pub is_in_order : ℕ → List Field → Bool
is_in_order c [] = true
is_in_order c (f ∷ fs) = leb c f.first && (leb f.first f.last && (leb f.last 80 && is_in_order (suc f.last) fs))

abbrev pub ordered : Layout → Bool
ordered l = is_in_order (6 + length l.label) l.fields

pub all_ordered : T (every (λ (i : ℕ). ordered) 0 layouts)
unfolding layouts
all_ordered = tt

-- a field that lies from column c on
pub record Lies (c : ℕ) (f : Field) : Type 0 where
  pub after : c ≤ f.first
  pub forward : f.first ≤ f.last
  pub on_card : f.last ≤ 80

module _ (c : ℕ) (f : Field) (fs : List Field) (t : T (is_in_order c (f ∷ fs))) where
  past : T (leb f.first f.last && (leb f.last 80 && is_in_order (suc f.last) fs))
  past = and_right (leb c f.first) (leb f.first f.last && (leb f.last 80 && is_in_order (suc f.last) fs)) t

  more : T (leb f.last 80 && is_in_order (suc f.last) fs)
  more = and_right (leb f.first f.last) (leb f.last 80 && is_in_order (suc f.last) fs) past

  pub rest : T (is_in_order (suc f.last) fs)
  rest = and_right (leb f.last 80) (is_in_order (suc f.last) fs) more

  pub front : Lies c f
  front =
      record {
        after = leb→le _ _ (and_left (leb c f.first) (leb f.first f.last && (leb f.last 80 && is_in_order (suc f.last) fs)) t);
        forward = leb→le _ _ (and_left (leb f.first f.last) (leb f.last 80 && is_in_order (suc f.last) fs) past);
        on_card = leb→le _ _ (and_left (leb f.last 80) (is_in_order (suc f.last) fs) more);
      }

lies : (c : ℕ) (fs : List Field) → T (is_in_order c fs) → (i : ℕ) → i < length fs → Lies c (get_or fs i no_field)
lies c [] t i h = absurd (not-suc-le-zero h)
lies c (f ∷ fs) t zero h = front c f fs t
lies c (f ∷ fs) t (suc i) h =
    let l : Lies (suc f.last) (get_or fs i no_field) = lies (suc f.last) fs (rest c f fs t) i (le_of_suc-le-suc h) in
    record {
      after = omega (arith, (front c f fs t).after, (front c f fs t).forward, l.after);
      forward = l.forward;
      on_card = l.on_card;
    }

follows : (c : ℕ) (fs : List Field) → T (is_in_order c fs) → (i j : ℕ) → i < j → j < length fs
    → (get_or fs i no_field).last < (get_or fs j no_field).first
follows c [] t i j h hj = absurd (not-suc-le-zero hj)
follows c (f ∷ fs) t i zero h hj = absurd (not-suc-le-zero h)
follows c (f ∷ fs) t zero (suc j) h hj = (lies (suc f.last) fs (rest c f fs t) j (le_of_suc-le-suc hj)).after
follows c (f ∷ fs) t (suc i) (suc j) h hj =
    follows (suc f.last) fs (rest c f fs t) i j (le_of_suc-le-suc h) (le_of_suc-le-suc hj)

-- every field stands on the card, after the label
pub after_label : (k i : ℕ) → i < length (fields_of k) → Lies (6 + length (label_of k)) (get_or (fields_of k) i no_field)
unfolding fields_of label_of
after_label k i h =
    lies (6 + length (layout_at k).label) (layout_at k).fields (of_layout ordered all_ordered k (has_fields k i h)) i h

-- a field ends before every later one begins
pub ends-before : (k i j : ℕ) → i < j → j < length (fields_of k)
    → (get_or (fields_of k) i no_field).last < (get_or (fields_of k) j no_field).first
unfolding fields_of
ends-before k i j h hj =
    follows (6 + length (layout_at k).label) (layout_at k).fields (of_layout ordered all_ordered k (has_fields k j hj)) i j h hj

-- widths

abbrev field_test : ℕ → Field → Bool
field_test i f = wide_as f.kind (width f) && ranged f.kind f.range

abbrev fields_test : Layout → Bool
fields_test l = every field_test 0 l.fields

all-fields : T (every (λ (i : ℕ). fields_test) 0 layouts)
unfolding layouts
all-fields = tt

module _ (k i : ℕ) (h : i < length (fields_of k)) where
  tested : T (field_test i (get_or (fields_of k) i no_field))
  unfolding fields_of
  tested = at field_test no_field (layout_at k).fields (of_layout fields_test all-fields k (has_fields k i h)) i h

  pub wide : T (wide_as (get_or (fields_of k) i no_field).kind (width (get_or (fields_of k) i no_field)))
  wide = and_left (wide_as (get_or (fields_of k) i no_field).kind (width (get_or (fields_of k) i no_field))) _ tested

  pub whole-only : T (ranged (get_or (fields_of k) i no_field).kind (get_or (fields_of k) i no_field).range)
  whole-only = and_right (wide_as (get_or (fields_of k) i no_field).kind (width (get_or (fields_of k) i no_field))) _ tested
