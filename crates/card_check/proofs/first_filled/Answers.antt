-- `card_check::first_filled` meets its contract.
use mathlib.Core.Path.{◌∙◌}
use Rattle.base_lists.proofs.Finding.{stops, goes, over}
use Rattle.card_check.specs.Judging.{filled_at}
use Rattle.card_check.proofs.Ways.{filled_here, blank_here}
use native.Mathlib.Omega.{arith}
use Rattle.card_check.proofs.first_filled.Goals as goal

pub returns-then-card-column-ne-BLANK : goal.returns-then-card-column-ne-BLANK
returns-then-card-column-ne-BLANK c =
    let s = c.args.card.now in
    let b = c.loop-column in
    (b.invariant ∙ stops (filled_at s) c.args.to b.column c.loop-column-test.true (filled_here s b.column c.if-card-column-ne-BLANK.true), c.loop-column-test.true)

pub loop-column-preserved : goal.loop-column-preserved
loop-column-preserved c =
    let s = c.args.card.now in
    let b = c.loop-column in
    b.invariant ∙ goes (filled_at s) c.args.to b.column c.loop-column-test.true (blank_here s b.column c.if-card-column-ne-BLANK.false)

pub returns : goal.returns
returns c =
    let b = c.loop-column in
    b.invariant ∙ over (filled_at c.args.card.now) c.args.to b.column c.loop-column-test.false ∙ omega arith
