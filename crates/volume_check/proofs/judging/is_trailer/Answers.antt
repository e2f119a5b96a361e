-- `volume_check::judging::is_trailer` meets its contract.
use mathlib.Core.Path.{◌∙◌}
use Rattle.volume_check.proofs.Comparing.{equals_as}
use Rattle.volume_check.proofs.judging.Headers.{points_none, points-over, points_as}
use Rattle.volume_check.proofs.judging.is_trailer.Goals as goal

pub returns-then-first-eq0 : goal.returns-then-first-eq0
returns-then-first-eq0 c = points_none _ _ _ _ c.first_on-first.ensures c.if-first-eq0.true

pub returns-then-cards-first : goal.returns-then-cards-first
returns-then-cards-first c = points-over _ _ _ _ c.first_on-first.ensures c.if-first-eq0.false c.if-cards-first.true

pub returns : goal.returns
returns c =
    points_as _ _ _ _ c.first_on-first.ensures c.if-first-eq0.false c.if-cards-first.false _ (c.as_slice.ensures ∙ c.trailer_card-expected.ensures) _ (c.eq.ensures ∙ equals_as _ _)
