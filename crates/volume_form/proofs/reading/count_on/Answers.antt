-- `volume_form::reading::count_on` meets its contract.
use Rattle.volume_form.proofs.reading.Walks.{count-part}
use Rattle.volume_form.specs.Rows.{row_of}
use Rattle.volume_form.proofs.reading.count_on.Goals as goal

pub returns : goal.returns
returns c =
    count-part (row_of c.args.form) _ c.width_of.result _ c.width_of.ensures.width c.number_on.ensures
