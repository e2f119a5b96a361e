-- `volume_form::building::coded` meets its contract.
use Rattle.volume_form.proofs.building.Built.{laid-first}
use mathlib.Core.Path.{◌∙◌}
use Rattle.volume_form.proofs.building.coded.Goals as goal

pub returns : goal.returns
returns c = c.lay.ensures ∙ laid-first _
