-- `volume_edit::compact::same_number` meets its contract.
use Rattle.volume_rules.specs.SameLine.{same_number}
use Rattle.volume_edit.proofs.compact.Sequences.{equal_read}
use Rattle.volume_edit.proofs.compact.same_number.Goals as goal

pub returns : goal.returns
unfolding same_number
returns c = rw (c.eq.ensures, c.sequence_of-one.ensures, c.sequence_of-other.ensures, c.read.ensures, c.read-2.ensures) (equal_read _ _)
