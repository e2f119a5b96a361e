-- `volume_form::reading::start_on` meets its contract.
use Rattle.volume_form.specs.Marked.{start_on}
use Rattle.volume_form.proofs.reading.start_on.Goals as goal

pub returns : goal.returns
unfolding start_on
returns c = c.number_on.ensures
