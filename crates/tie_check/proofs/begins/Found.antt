-- The row of a column is the first in the table that is about it, and the column alone where there is none.
use Prim.Native.Nat.{ℕ, zero, suc, ◌+◌, ◌≤◌, ◌<◌}
use native.Mathlib.Decide.{ℕ_discrete, dec_lt}
use native.Mathlib.Omega.{arith}
use mathlib.Core.Path.{◌≡◌, refl, sym, ap, ◌∙◌}
use mathlib.Core.List.{map}
use lib.Dec.{eqb}
use lib.ListN.{get_or}
use borrow.Author.Tests.{eq-eqb, ne_eqb}
use Rattle.std.specs.Prelude.{Option, None, Some, unwrap_or}
use Rattle.std.specs.Option.{option_map}
use Rattle.std.specs.List.{find, range_with_len}
use Rattle.tie_rules.specs.Ties.{tie_columns}
use Rattle.tie_rules.specs.packed.Rows.{row_at, column_in, tie_row}
use Rattle.tie_rules.proofs.keys.Table.{row_is, column-is}
use Rattle.tie_check.proofs.begins.Columns.{row_alone}

pub same_option : (r : Option ℕ) → r ≡ option_map (λ x. x) r
same_option None = refl
same_option (Some x) = refl

module _ (k column : ℕ) (on_card : column ≤ 80) where
  abbrev pub slot_row : ℕ → ℕ
  slot_row i = tie_row k (i + 1)

  pub found_from : (n i : ℕ) → i + n ≡ 5 → ((j : ℕ) → j < i → get_or (tie_columns k) j 0 ≡ column → ⊥)
      → unwrap_or (find (λ r. eqb (column_in r) column) (map slot_row (range_with_len i n))) column ≡ row_at k column
  found_from zero i e f = row_alone k column on_card (λ j l. f j (omega arith))
  found_from (suc n) i e f = elim (ℕ_discrete (column_in (slot_row i)) column) [
    | yes q ↦ rw (eq-eqb _ _ q) (row_is k i _ refl ∙ ap (row_at k) (sym (column-is k i _ refl) ∙ q))
    | no q ↦
        rw (ne_eqb _ _ q) (found_from n (i + 1) (omega arith) (λ j l. elim (dec_lt j i) [
          | yes m ↦ f j m
          | no m ↦
              let p : i ≡ j = omega arith in
              λ z. q (column-is k i _ refl ∙ ap (λ x. get_or (tie_columns k) x 0) p ∙ z)
        ]))
  ]
