-- `card_field::needing::needed_on` meets its contract.
use mathlib.Core.Path.{◌∙◌}
use Rattle.card_field.proofs.needing.Steps.{need_now}
use Rattle.card_field.proofs.needing.needed_on.Goals as goal

pub returns : goal.returns
returns c = c.needed_after.ensures ∙ need_now _ _ _
