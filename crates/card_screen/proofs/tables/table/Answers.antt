-- `card_screen::tables::table` meets its contract.
use native.Mathlib.Omega.{arith}
use Rattle.card_screen.proofs.Rows.{class_below}
use Rattle.card_screen.proofs.tables.table.Goals as goal

pub overflow_add-table : goal.overflow_add-table
overflow_add-table c = omega (arith, c.class_of.ensures, class_below c.loop-i.i)
