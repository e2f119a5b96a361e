-- `value_coordinate::angle::three_columns` meets its contract: a blank in front, or digits alone.
use mathlib.Core.Path.{◌∙◌}
use Rattle.value_coordinate.proofs.angle.Columns.{three_padded, three_plain}
use Rattle.value_coordinate.proofs.angle.three_columns.Goals as goal

pub returns-then-a-eq-BLANK : goal.returns-then-a-eq-BLANK
returns-then-a-eq-BLANK c = c.two_columns.ensures ∙ three_padded _ _ _ c.if-a-eq-BLANK.true

pub returns : goal.returns
returns c = c.three_digits.ensures ∙ three_plain _ _ _ c.if-a-eq-BLANK.false
