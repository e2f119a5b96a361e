-- The forms that coordinates are spelled in.
use Rattle.std.specs.Prelude.{ℕ, Bool, true, false, cond, eqb}
use Rattle.format_layout.specs.declared.Form.{Form}
use Rattle.format_layout.specs.declared.Form.TheVariants.{Angles, Grid, Unknown}

-- form 1, and a form that is not known
abbrev pub is_grid : Form → Bool
is_grid Angles = false
is_grid Grid = true
is_grid Unknown = false

abbrev pub is_open : Form → Bool
is_open Angles = false
is_open Grid = false
is_open Unknown = true

-- the form that a caller's number names
unfoldable pub form_numbered : ℕ → Form
form_numbered n = cond (eqb n 0) Angles (cond (eqb n 1) Grid Unknown)
