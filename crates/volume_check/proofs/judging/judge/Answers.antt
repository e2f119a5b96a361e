-- `volume_check::judging::judge` meets its contract.
use mathlib.Core.Path.{sym, ap, ◌∙◌}
use Rattle.volume_form.specs.Rows.{row_of}
use Rattle.volume_check.proofs.judging.Parts.{stated-held, stated-cards, stated-few, stated-said, not-stated}
use native.Mathlib.Omega.{arith}
use Rattle.volume_check.proofs.judging.judge.Goals as goal
use Rattle.std.specs.Prelude.{Err}

pub overflow_mul-cards : goal.overflow_mul-cards
overflow_mul-cards c =
    omega (arith, stated-held (row_of c.args.form) c.args.cards c.args.buffer.now (sym c.is_stated.ensures ∙ c.if-is_stated.true))

pub slice_bounds-judge_cards-end : goal.slice_bounds-judge_cards-end
slice_bounds-judge_cards-end c =
    sym (stated-cards (row_of c.args.form) c.args.cards c.args.buffer.now (sym c.is_stated.ensures ∙ c.if-is_stated.true)).whole

pub judge_cards-requires : goal.judge_cards-requires
judge_cards-requires c =
    (stated-cards (row_of c.args.form) c.args.cards c.args.buffer.now (sym c.is_stated.ensures ∙ c.if-is_stated.true), stated-few (row_of c.args.form) c.args.cards c.args.buffer.now (sym c.is_stated.ensures ∙ c.if-is_stated.true))

pub returns-then-is_stated : goal.returns-then-is_stated
returns-then-is_stated c =
    stated-said (row_of c.args.form) c.args.cards c.args.buffer.now (sym c.is_stated.ensures ∙ c.if-is_stated.true) _ c.judge_cards.ensures

pub returns : goal.returns
returns c =
    ap Err c.refuse.ensures ∙ not-stated (row_of c.args.form) c.args.cards c.args.buffer.now (sym c.is_stated.ensures ∙ c.if-is_stated.false)
