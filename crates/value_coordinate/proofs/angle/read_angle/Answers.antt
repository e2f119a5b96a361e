-- `value_coordinate::angle::read_angle` meets its contract.
use mathlib.Core.Path.{◌∙◌}
use Rattle.value_coordinate.proofs.angle.Reading.{angle_width, angle_other, angle_parts, parts-small}
use Rattle.value_coordinate.proofs.angle.read_angle.Goals as goal

pub returns-then-s-ne-WIDTH : goal.returns-then-s-ne-WIDTH
returns-then-s-ne-WIDTH c = c.unspelled.ensures ∙ angle_width _ _ c.if-s-ne-WIDTH.true

pub returns-then-not-is_spelled : goal.returns-then-not-is_spelled
returns-then-not-is_spelled c =
    c.unspelled-then-not-is_spelled.ensures ∙ angle_other _ _ c.if-s-ne-WIDTH.false _ c.parts_in-p.ensures _ c.is_spelled.ensures c.if-not-is_spelled.true

pub judged-requires : goal.judged-requires
judged-requires c = rw c.parts_in-p.ensures (parts-small _)

pub returns : goal.returns
returns c =
    c.judged.ensures ∙ angle_parts _ _ c.if-s-ne-WIDTH.false _ c.parts_in-p.ensures _ c.is_spelled.ensures c.if-not-is_spelled.false _ c.letter.ensures
