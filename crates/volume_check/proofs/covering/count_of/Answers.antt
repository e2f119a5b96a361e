-- `volume_check::covering::count_of` meets its contract.
use mathlib.Core.Path.{ap, ◌∙◌}
use Rattle.std.specs.Prelude.{unwrap_or}
use Rattle.volume_check.proofs.covering.Walks.{step-none, step_long, step_told}
use Rattle.volume_check.proofs.covering.count_of.Goals as goal

pub returns-then-n-eq0-clause-told : goal.returns-then-n-eq0-clause-told
returns-then-n-eq0-clause-told c = step-none _ _ _ _ _ c.count_on-n.ensures c.if-n-eq0.true

pub returns-then-room-n-clause-told : goal.returns-then-room-n-clause-told
returns-then-room-n-clause-told c = step_long _ _ _ _ _ c.count_on-n.ensures c.if-room-n.true

pub returns-clause-told : goal.returns-clause-told
returns-clause-told c =
    ap (λ o. unwrap_or o 0) c.then_some.ensures
    ∙ step_told _ _ _ _ _ c.count_on-n.ensures c.if-n-eq0.false c.if-room-n.false _ (c.as_slice.ensures ∙ c.entry_card-expected.ensures) _ c.eq.ensures
