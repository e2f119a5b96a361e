-- A field that was read: its value, and whether that is a misplaced number.
use Rattle.std.specs.Prelude.{Bool}
use Rattle.base_value.specs.declared.Value.{Value}
use Rattle.card_field.specs.declared.FieldRead.{FieldRead}

abbrev pub field_read : Value → Bool → FieldRead
field_read v misplaced = record { value = v; misplaced = misplaced }
