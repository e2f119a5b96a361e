-- `volume_edit::make_room` meets its contract.
use Rattle.volume_form.specs.Moved.{laid_at}
use mathlib.Core.Path.{ap, ◌∙◌}
use Rattle.volume_edit.proofs.make_room.Goals as goal

pub returns : goal.returns
returns c =
    let a = c.args in c.lay.ensures ∙ ap (λ l. laid_at l a.from a.header.now) c.move_up.ensures
