-- `volume_check::sequence` meets its contract.
use borrow.Author.Tests.{eqb-true, eqb-false}
use mathlib.Core.Path.{sym, ap, ◌∙◌}
use Rattle.volume_check.proofs.Placing.{some-there, none_sequence}
use Rattle.volume_form.specs.Marked.{sequence_of}
use Rattle.volume_rules.specs.Judged.{form_in}
use Rattle.volume_form.proofs.Cards.{good_row}
use Rattle.volume_form.specs.Rows.{row_of}
use native.Mathlib.Omega.{arith}
use Rattle.volume_check.proofs.sequence.Goals as goal

pub returns-then-is_empty : goal.returns-then-is_empty
returns-then-is_empty c = none_sequence _ (eqb-true _ _ (sym c.is_empty.ensures ∙ c.if-is_empty.true)) ∙ ap sequence_of c.line-found.ensures

pub slice_bounds-result-count : goal.slice_bounds-result-count
slice_bounds-result-count c = omega arith

pub slice_bounds-result-start : goal.slice_bounds-result-start
slice_bounds-result-start c = omega arith

pub slice_bounds-result-end : goal.slice_bounds-result-end
slice_bounds-result-end c =
    omega (arith, some-there (row_of (form_in c.args.cards c.args.volume.now)) (good_row (form_in c.args.cards c.args.volume.now)) c.args.cards c.args.volume.now c.args.place _ c.line-found.ensures (eqb-false _ _ (sym c.is_empty.ensures ∙ c.if-is_empty.false)))

pub returns : goal.returns
unfolding sequence_of
returns c = ap sequence_of c.line-found.ensures
