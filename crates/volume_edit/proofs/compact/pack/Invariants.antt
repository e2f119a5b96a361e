-- `volume_edit::compact::pack` meets its contract.
use Rattle.volume_form.specs.Rows.{row_of}
use Rattle.volume_edit.proofs.compact.Walk.{Pack}
use Rattle.volume_edit.proofs.compact.pack.Given as goal

abbrev pub invariant-loop-i : goal.invariant-loop-i
invariant-loop-i l = Pack (row_of l.form) l.initial.buffer l.body l.count l.buffer l.at l.i l.cards l.lines
