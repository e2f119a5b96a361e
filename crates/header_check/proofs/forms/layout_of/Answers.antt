-- `header_check::forms::layout_of` meets its contract.
use mathlib.Core.Path.{sym}
use lib.Seq.{length-take-le}
use Rattle.header_check.proofs.forms.Steps.{too_short, coded}
use Rattle.header_check.proofs.forms.layout_of.Goals as goal

pub returns-then-card-lt-CODE : goal.returns-then-card-lt-CODE
returns-then-card-lt-CODE c = too_short c.args.card.now c.if-card-lt-CODE.true

pub slice_bounds-code_of-end : goal.slice_bounds-code_of-end
slice_bounds-code_of-end c = sym (length-take-le 5 c.args.card.now c.if-card-lt-CODE.false)

pub returns : goal.returns
returns c = coded c.args.card.now _ _ c.code_of.ensures c.number_of.ensures
