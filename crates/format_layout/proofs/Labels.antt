-- Every label has room behind the code.
use Prim.Native.Nat.{ℕ, ◌≤◌}
use native.Mathlib.Omega.{arith}
use native.Mathlib.Decide.{dec_lt}
use mathlib.Core.Bool.{Bool}
use lib.ListN.{length}
use lib.Dec.{T, leb, leb→le}
use Rattle.format_layout.specs.Shape.{Layout}
use Rattle.format_layout.specs.Table.{layouts}
use Rattle.format_layout.specs.Layouts.{label_of, layout_at}
use Rattle.format_layout.specs.packed.Rows.{layout_count}
use Rattle.format_layout.proofs.Every.{every}
use Rattle.format_layout.proofs.Places.{no_label}
use Rattle.format_layout.proofs.Columns.{of_layout}

-- every label has room behind the code
abbrev short : Layout → Bool
short l = leb (length l.label) 75

all_short : T (every (λ (i : ℕ). short) 0 layouts)
unfolding layouts
all_short = tt

pub label-fits : (k : ℕ) → length (label_of k) ≤ 75
unfolding label_of
label-fits k = elim (dec_lt k layout_count) [
  | yes h ↦ leb→le (length (layout_at k).label) 75 (of_layout short all_short k h)
  | no h ↦ omega (arith, no_label k (omega arith))
]
