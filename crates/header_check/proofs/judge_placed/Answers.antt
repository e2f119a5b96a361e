-- `header_check::judge_placed` meets its contract.
use mathlib.Core.Path.{◌∙◌}
use Rattle.header_check.proofs.Placed.{unprintable, placed_by, placed-sure, misplaced}
use Rattle.header_check.proofs.forms.Steps.{code_back}
use Rattle.header_check.proofs.judge_placed.Goals as goal

pub returns-then-bad-lt-CARD : goal.returns-then-bad-lt-CARD
returns-then-bad-lt-CARD c = unprintable c.args.card.now _ _ _ c.first_bad-bad.ensures c.if-bad-lt-CARD.true

pub returns-then-placed-sure : goal.returns-then-placed-sure
returns-then-placed-sure c =
    placed-sure c.args.card.now _ c.requires.0 _ c.first_bad-bad.ensures c.if-bad-lt-CARD.false _ _ _ c.requires.1 c.requires.2
    c.if-placed-sure.true

pub judge_by-requires : goal.judge_by-requires
judge_by-requires c = c.requires.0

pub returns-then-placed : goal.returns-then-placed
returns-then-placed c =
    c.judge_by.ensures
    ∙ placed_by c.args.card.now _ c.requires.0 _ c.first_bad-bad.ensures c.if-bad-lt-CARD.false _ _ c.if-placed.true
    (c.code_by-code.ensures ∙ code_back c.args.card.now _ c.requires.1)

pub returns : goal.returns
returns c =
    c.judge_misplaced.ensures
    ∙ misplaced c.args.card.now c.args.form c.requires.0 _ c.first_bad-bad.ensures c.if-bad-lt-CARD.false _ _ c.if-placed.false
    (c.code_by-code.ensures ∙ code_back c.args.card.now _ c.requires.1)
