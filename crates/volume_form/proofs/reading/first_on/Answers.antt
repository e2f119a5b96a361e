-- `volume_form::reading::first_on` meets its contract.
use Rattle.volume_form.specs.Marked.{first_on}
use Rattle.volume_form.proofs.reading.first_on.Goals as goal

pub returns : goal.returns
unfolding first_on
returns c = c.number_on.ensures
