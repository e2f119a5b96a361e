-- What a row says of the number that it was found by.
use mathlib.Core.Path.{◌≡◌, refl, sym}
use mathlib.Core.Bool.{Bool}
use Prim.Native.Nat.{ℕ, ◌+◌, ◌<◌, ◌≤◌}
use native.Mathlib.Omega.{arith}
use native.Mathlib.Decide.{dec_lt}
use lib.Dec.{T, leb, leb→le}
use lib.ListN.{length}
use Rattle.format_layout.specs.Shape.{Layout}
use Rattle.format_layout.specs.Table.{layouts}
use Rattle.format_layout.specs.Layouts.{layout_at, fields_of, field_of}
use Rattle.format_layout.specs.packed.Rows.{layout_count, unpack, row_of}
use Rattle.format_layout.proofs.Every.{every}
use Rattle.format_layout.proofs.Places.{no_fields}
use Rattle.format_layout.proofs.Columns.{of_layout}
use Rattle.format_layout.proofs.Lines.{is_none, is_found}
use Rattle.format_layout.proofs.Numbers.{numbered, never_nothing}
use Rattle.std.specs.Prelude.{Some}

module _ (k n r : ℕ) (is : r ≡ row_of k (n + 1)) where
  one_on : n + 1 ≡ 0 → ⊥
  one_on e = omega arith

  pub row-there : (r ≡ 0 → ⊥) → field_of k (n + 1) ≡ Some (unpack r)
  row-there z = sym (is_found k (n + 1) r (unpack r) one_on is z refl)

  pub row_inside : (r ≡ 0 → ⊥) → n < length (fields_of k)
  row_inside z = omega (arith, (numbered k (n + 1) (unpack r) (row-there z)).within)

  pub row_past : r ≡ 0 → length (fields_of k) ≤ n
  row_past z = elim (dec_lt n (length (fields_of k))) [
    | yes h ↦ absurd (never_nothing k n h (sym (is_none k (n + 1) r one_on is z)))
    | no h ↦ omega arith
  ]

-- no layout has more fields than a card has columns
abbrev few : Layout → Bool
few l = leb (length l.fields) 80

all-few : T (every (λ (i : ℕ). few) 0 layouts)
unfolding layouts
all-few = tt

pub fields-few : (k : ℕ) → length (fields_of k) ≤ 80
unfolding fields_of
fields-few k = elim (dec_lt k layout_count) [
  | yes h ↦ leb→le (length (layout_at k).fields) 80 (of_layout few all-few k h)
  | no h ↦ omega (arith, no_fields k (omega arith))
]
