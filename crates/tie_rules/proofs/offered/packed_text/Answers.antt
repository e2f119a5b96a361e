-- `tie_rules::offered::packed_text` meets its contract.
use Rattle.tie_rules.proofs.packing.Steps.{text-other, text_offered_lem}
use Rattle.tie_rules.proofs.offered.packed_text.Goals as goal

pub returns-then-class-ne-SERIALS : goal.returns-then-class-ne-SERIALS
returns-then-class-ne-SERIALS c = text-other _ _ c.if-class-ne-SERIALS.true

pub returns : goal.returns
returns c = text_offered_lem _ _ _ c.if-class-ne-SERIALS.false c.packed_columns.ensures
