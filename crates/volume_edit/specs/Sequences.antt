-- The sequence number that stands on a directory card, as the code tells lines apart by it.
use Rattle.std.specs.Prelude.{Result, Ok, Err}
use Rattle.base_value.specs.declared.Value.{Value}
use Rattle.base_value.specs.declared.Value.TheVariants.{Absent, Whole, Decimal, Angle, Date, Text}
use Rattle.base_value.specs.declared.Unread.{Unread}
use Rattle.volume_edit.specs.declared.compact.Sequence.{Sequence}
use Rattle.volume_edit.specs.declared.compact.Sequence.TheVariants as sequence

unfoldable pub sequence_of : Result Value Unread → Sequence
sequence_of (Ok Absent) = sequence.Absent
sequence_of (Ok (Whole z)) = sequence.Number z
sequence_of (Ok (Decimal d)) = sequence.Odd
sequence_of (Ok (Angle z)) = sequence.Odd
sequence_of (Ok (Date d)) = sequence.Odd
sequence_of (Ok (Text c)) = sequence.Odd
sequence_of (Err e) = sequence.Odd
