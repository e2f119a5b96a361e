-- `card_check::judge_columns` meets its contract.
use mathlib.Core.Path.{◌≡◌}
use Prim.Native.Nat.{◌≤◌}
use lib.ListN.{length, drop}
use lib.Dec.{T}
use Rattle.format_layout.proofs.Columns.{is_in_order}
use Rattle.format_layout.specs.Layouts.{fields_of}
use Rattle.card_check.specs.Judging.{column_offence, verdict_from}
use Rattle.card_check.proofs.judge_columns.Given as goal

abbrev pub invariant-loop-number : goal.invariant-loop-number
invariant-loop-number l =
    (l.number ≤ length (fields_of l.layout)) × (1 ≤ l.column) × (l.column ≤ 81) × T (is_in_order l.column (drop l.number (fields_of l.layout)))
    × (verdict_from (column_offence l.layout l.form l.card (fields_of l.layout)) l.from ≡ verdict_from (column_offence l.layout l.form l.card (drop l.number (fields_of l.layout))) l.column)
