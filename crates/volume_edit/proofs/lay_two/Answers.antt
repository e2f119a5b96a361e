-- `volume_edit::lay_two` meets its contract.
use lib.ListN.{length}
use Prim.Native.Nat.{◌+◌}
use Rattle.volume_form.specs.Moved.{laid_at}
use mathlib.Core.Path.{ap, ◌∙◌}
use Rattle.volume_edit.proofs.lay_two.Goals as goal

pub returns : goal.returns
returns c =
    let a = c.args in c.lay-2.ensures ∙ ap (λ l. laid_at l (a.at + length a.first.now) a.second.now) c.lay.ensures
