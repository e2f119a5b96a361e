-- A field that was found on a card: its layout, and itself or the row that holds it.
use Rattle.std.specs.Prelude.{ℕ}
use Rattle.format_layout.specs.declared.Field.{Field}
use Rattle.card_field.specs.declared.seeking.FieldRow.{FieldRow}

pub record Sought : Type 0 where
  pub layout : ℕ
  pub field : Field

abbrev pub sought : ℕ → Field → Sought
sought k f = record { layout = k; field = f }

abbrev pub field_row : ℕ → ℕ → FieldRow
field_row k row = record { layout = k; row = row }
