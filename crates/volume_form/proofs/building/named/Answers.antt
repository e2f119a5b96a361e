-- `volume_form::building::named` meets its contract.
use Rattle.volume_form.specs.Marked.{name_of, sequence_of}
use Rattle.volume_form.specs.Moved.{laid_at}
use mathlib.Core.Path.{ap, ◌∙◌}
use Rattle.volume_form.proofs.building.named.Goals as goal

pub returns : goal.returns
unfolding name_of sequence_of
returns c = c.lay-2.ensures ∙ ap (λ l. laid_at l 23 (sequence_of c.args.header.now)) c.lay.ensures
