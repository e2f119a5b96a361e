-- `volume_form::other_code` meets its contract.
use mathlib.Core.Path.{ap, sym}
use Rattle.volume_form.specs.Rows.{row_of}
use Rattle.volume_form.proofs.other_code.Goals as goal

pub returns-in-Old : goal.returns-in-Old
unfolding row_of
returns-in-Old c = sym (ap (λ x. (row_of x).other) c.in-Old.is)

pub returns-in-Wide : goal.returns-in-Wide
unfolding row_of
returns-in-Wide c = sym (ap (λ x. (row_of x).other) c.in-Wide.is)
