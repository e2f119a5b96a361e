-- `tie_check::begins::some_left` meets its contract.
use Prim.Native.Nat.{◌+◌}
use mathlib.Core.Path.{sym, ap, ◌∙◌}
use lib.ListN.{drop_of_length-le}
use native.Mathlib.Omega.{arith}
use Rattle.format_layout.specs.Layouts.{fields_of}
use Rattle.tie_check.specs.packed.Begins.{any_left}
use Rattle.format_layout.proofs.Numbering.{row_inside, fields-few}
use Rattle.tie_check.proofs.begins.Columns.{row_lies, any_stops, any_goes, any-ends}
use Rattle.tie_check.proofs.begins.some_left.Goals as goal

pub returns-then-row-eq0 : goal.returns-then-row-eq0
returns-then-row-eq0 c =
    let b = c.loop-number in
    sym (b.invariant.1 ∙ any-ends c.args.layout b.number _ c.row_of-row.ensures c.args.card.now c.if-row-eq0.true)

pub is_misplaced-requires : goal.is_misplaced-requires
is_misplaced-requires c =
    let b = c.loop-number in
    let l = row_lies c.args.layout (b.number + 1) _ (λ z. omega arith) c.row_of-row.ensures c.if-row-eq0.false in
    (c.requires, l.0, l.1, l.2)

pub returns-then-is_misplaced : goal.returns-then-is_misplaced
returns-then-is_misplaced c =
    let b = c.loop-number in
    sym (b.invariant.1 ∙ any_stops c.args.layout b.number _ c.row_of-row.ensures c.args.card.now c.if-row-eq0.false
    (sym c.is_misplaced.ensures ∙ c.if-is_misplaced.true))

pub loop-number-preserved : goal.loop-number-preserved
loop-number-preserved c =
    let b = c.loop-number in (
      omega (arith, row_inside c.args.layout b.number _ c.row_of-row.ensures c.if-row-eq0.false),
      b.invariant.1 ∙ any_goes c.args.layout b.number _ c.row_of-row.ensures c.args.card.now c.if-row-eq0.false
          (sym c.is_misplaced.ensures ∙ c.if-is_misplaced.false),
    )

pub returns : goal.returns
unfolding any_left
returns c =
    let b = c.loop-number in
    let none = drop_of_length-le (fields_of c.args.layout) {i = b.number} (omega (arith, c.loop-number-test.false, fields-few c.args.layout)) in
    sym (b.invariant.1 ∙ ap (any_left c.args.card.now) none)
