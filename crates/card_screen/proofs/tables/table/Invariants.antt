-- `card_screen::tables::table` meets its contract.
use Rattle.card_screen.proofs.Filling.{Filled}
use Rattle.card_screen.proofs.tables.table.Given as goal

abbrev pub invariant-loop-i : goal.invariant-loop-i
invariant-loop-i l = Filled l.i l.table
