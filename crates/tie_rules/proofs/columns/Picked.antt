-- Which row a `match` picks, and which part of a range.
use Prim.Native.Nat.{ℕ, zero, suc, ◌-◌, ◌/◌, ◌%◌, ◌≤◌}
use mathlib.Core.Path.{◌≡◌, refl, sym}
use mathlib.Core.Bool.{false}
use mathlib.Core.List.{[], ◌∷◌, map}
use native.Mathlib.Omega.{arith}
use borrow.Author.Tests.{ne_eqb}
use lib.ListN.{length, get_or, length-map, get_or-eq_default}
use Rattle.base_lists.specs.Count.{bit}
use Rattle.format_layout.proofs.Lines.{Others, above}
use Rattle.tie_rules.specs.Ties.{allotted, has_vessel, tie_columns}
use Rattle.tie_rules.specs.packed.Rows.{parts, part_at, source_by, row_at, tie_row}
use Rattle.tie_rules.proofs.columns.Tied.{past_columns, past_vessels}

pub same_tie : (k n p q : ℕ) → p ≡ k → q ≡ n → tie_row k n ≡ tie_row p q
same_tie k n p q e f = rw (e, f)

-- behind the rows of a layout there is none
pub past_ties : (k p q : ℕ) → p ≡ k → Others 0 (suc (length (tie_columns k))) q → 0 ≡ tie_row p q
unfolding tie_row
past_ties k p q e o =
    let l = above 0 (suc (length (tie_columns k))) q (omega arith) o in
    rw e (sym (get_or-eq_default (bit (has_vessel k) ∷ map (row_at k) (tie_columns k)) 0 {n = q} (omega (arith, l, length-map (tie_columns k) (row_at k)))))

-- a layout without any
pub no_ties : (k p q : ℕ) → p ≡ k → has_vessel k ≡ false → tie_columns k ≡ [] → 0 ≡ tie_row p q
unfolding tie_row
no_ties k p q e v c = rw (e, v, c) (go q)
  where
    go : (i : ℕ) → ◌≡◌ {A = ℕ} 0 (get_or (0 ∷ []) i 0)
    go zero = refl
    go (suc i) = refl

pub past_layouts : (p q : ℕ) → 31 ≤ p → 0 ≡ tie_row p q
past_layouts p q h = no_ties p p q refl (past_vessels p h) (past_columns p h)

-- the parts of a range
pub same_part : (n q : ℕ) → q ≡ n → part_at n ≡ part_at q
same_part n q e = rw e

pub past_parts : (q : ℕ) → Others 0 (length parts) q → 0 ≡ part_at q
unfolding part_at
past_parts q o = sym (get_or-eq_default parts 0 {n = q} (omega (arith, above 0 (length parts) q (omega arith) o)))

-- any way from 6 on finds a number of a part
pub by_part : (how first last : ℕ) → 6 ≤ how
    → source_by how first last ≡ allotted first last (part_at (how - 6) / 65536) (part_at (how - 6) % 65536)
unfolding source_by
by_part how first last h = rw (
  ne_eqb how 1 (λ e. omega arith),
  ne_eqb how 2 (λ e. omega arith),
  ne_eqb how 3 (λ e. omega arith),
  ne_eqb how 4 (λ e. omega arith),
  ne_eqb how 5 (λ e. omega arith),
  ne_eqb how 0 (λ e. omega arith),
)
