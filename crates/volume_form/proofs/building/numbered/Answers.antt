-- `volume_form::building::numbered` meets its contract.
use Prim.Native.Nat.{◌+◌}
use Rattle.volume_form.specs.Spelled.{spelled}
use Rattle.volume_form.specs.Moved.{laid_at}
use mathlib.Core.Path.{ap, ◌∙◌}
use Rattle.volume_form.proofs.building.numbered.Goals as goal

pub returns : goal.returns
returns c =
    let a = c.args in c.lay_number-2.ensures ∙ ap (λ l. laid_at l (a.from + a.width + 1) (spelled a.width a.n)) c.lay_number.ensures
