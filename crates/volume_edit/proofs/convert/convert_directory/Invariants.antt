-- `volume_edit::convert::convert_directory` meets its contract.
use Rattle.volume_form.specs.Rows.{row_of}
use Rattle.volume_edit.proofs.convert.Steps.{Walk}
use Rattle.volume_edit.proofs.convert.convert_directory.Given as goal

abbrev pub invariant-loop-i : goal.invariant-loop-i
invariant-loop-i l = Walk (row_of l.from) (row_of l.to) l.initial.buffer l.body l.count l.buffer l.at l.i
