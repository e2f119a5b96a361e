-- `volume_form::reading::number_on` meets its contract.
use Rattle.volume_form.proofs.reading.Walks.{number-part}
use Rattle.volume_form.proofs.reading.number_on.Goals as goal

pub returns : goal.returns
returns c = number-part _ _ c.width_of.result _ _ c.width_of.ensures.width c.standing_in.ensures
