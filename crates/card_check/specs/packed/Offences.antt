-- How the code judges a field without its value: the offence of one that is needed, by what its columns read as. No promise to a
-- caller cites this.
use Rattle.std.specs.Prelude.{ℕ, true, cond, List, Result}
use Rattle.value_coordinate.specs.declared.axes.Axis.{Axis}
use Rattle.value_coordinate.specs.angle.Angles.{angle_of}
use Rattle.value_coordinate.specs.grid.Grid.{grid_of}
use Rattle.format_layout.specs.declared.Field.{Field}
use Rattle.format_layout.specs.declared.Form.{Form}
use Rattle.format_layout.specs.Forms.{is_grid}
use Rattle.card_field.specs.judging.Fields.{number_of, held_of}
use Rattle.base_value.specs.declared.Unread.{Unread}
use Rattle.base_value.specs.declared.Value.{Value}

-- held against its range
unfoldable pub offence_in : Field → Result Value Unread → ℕ
offence_in f r = number_of (held_of true f r)

-- a coordinate read in a form
abbrev pub coordinate_reading : Axis → Form → List ℕ → Result Value Unread
coordinate_reading a form s = cond (is_grid form) (grid_of a s) (angle_of a s)
