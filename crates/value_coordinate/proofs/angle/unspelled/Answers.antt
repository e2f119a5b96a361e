-- `value_coordinate::angle::unspelled` meets its contract.
use mathlib.Core.Path.{sym, ◌∙◌}
use borrow.Author.Tests.{eq-eqb, ne_eqb}
use Rattle.value_coordinate.proofs.angle.unspelled.Goals as goal

pub returns-then-padding-s : goal.returns-then-padding-s
returns-then-padding-s c = rw (eq-eqb _ _ (sym c.padding.ensures.found ∙ c.if-padding-s.true))

pub returns : goal.returns
returns c = rw (ne_eqb _ _ (λ q. c.if-padding-s.false (c.padding.ensures.found ∙ q)))
