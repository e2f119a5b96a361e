-- `card_check::judge_columns` meets its contract.
use mathlib.Core.Path.{sym, ◌∙◌, refl, subst}
use Prim.Native.Nat.{◌+◌, ◌≤◌}
use lib.ListN.{length}
use lib.Dec.{T}
use Rattle.format_layout.proofs.Columns.{is_in_order}
use Rattle.format_layout.proofs.Numbers.{found_wide}
use Rattle.format_layout.proofs.Numbering.{row-there, row_inside, row_past, fields-few}
use Rattle.format_layout.specs.Layouts.{fields_of}
use Rattle.format_layout.specs.packed.Rows.{unpack}
use Rattle.card_check.proofs.Walked.{in_order, stands, onward, walks_on, halts, at_end}
use Rattle.format_layout.proofs.Labels.{label-fits}
use native.Mathlib.Omega.{arith}
use Rattle.card_check.proofs.judge_columns.Goals as goal
use Rattle.card_check.proofs.judge_columns.Goals.{else-loop-number-test, then-loop-number-test+then-row-eq0}

pub loop-number-init : goal.loop-number-init
loop-number-init c =
    let p = c.requires.1 in (omega arith, omega arith, omega (arith, p, label-fits c.args.layout), subst (λ j. T (is_in_order j (fields_of c.args.layout))) (sym p) (in_order c.args.layout), refl)

pub judge_next-next-requires : goal.judge_next-next-requires
judge_next-next-requires c =
    let b = c.loop-number in
    let k = c.args.layout in
    let r = c.row_of-row.ensures in
    let z = c.if-row-eq0.false in
    let i = row_inside k b.number _ r z in
    let e = row-there k b.number _ r z in
    let l = stands k b.number b.column (unpack c.row_of-row.result) i e b.invariant.3 in
    (c.requires.0, b.invariant.1, omega (arith, b.invariant.1, l.after), l.forward, l.on_card, found_wide k (b.number + 1) (unpack c.row_of-row.result) e)

pub returns-in_default : goal.returns-in_default
returns-in_default c =
    let b = c.loop-number in
    let k = c.args.layout in
    let r = c.row_of-row.ensures in
    let z = c.if-row-eq0.false in
    let i = row_inside k b.number _ r z in
    let e = row-there k b.number _ r z in
    let a = c.args in
    sym (b.invariant.4 ∙ halts k b.number b.column (unpack c.row_of-row.result) i e b.invariant.3 a.form a.card.now c.judge_next-next.result c.judge_next-next.ensures _ _ c.in_default.is)

pub overflow_add-column : goal.overflow_add-column
overflow_add-column c =
    let b = c.loop-number in
    let k = c.args.layout in
    let r = c.row_of-row.ensures in
    let z = c.if-row-eq0.false in
    let i = row_inside k b.number _ r z in
    let e = row-there k b.number _ r z in
    omega (arith, c.last_of-column.ensures, (stands k b.number b.column (unpack c.row_of-row.result) i e b.invariant.3).on_card)

pub loop-number-preserved : goal.loop-number-preserved
loop-number-preserved c =
    let b = c.loop-number in
    let k = c.args.layout in
    let r = c.row_of-row.ensures in
    let z = c.if-row-eq0.false in
    let i = row_inside k b.number _ r z in
    let e = row-there k b.number _ r z in
    let a = c.args in
    let f = unpack c.row_of-row.result in
    let q = c.last_of-column.ensures in
    let o = onward k b.number b.column f i e b.invariant.3 in
    let w = walks_on k b.number b.column f i e b.invariant.3 a.form a.card.now c.judge_next-next.result c.judge_next-next.ensures c.in-Ok.is in
    (omega (arith, i), omega arith, omega (arith, q, (stands k b.number b.column f i e b.invariant.3).on_card), rw q o, b.invariant.4 ∙ rw q w)

pub returns : goal.returns
returns c =
    let b = c.loop-number in
    let a = c.args in
    let over : length (fields_of a.layout) ≤ b.number =
    elim c.loop-number-test.branch [
      | else-loop-number-test w ↦ omega (arith, w.loop-number-test.false, fields-few a.layout)
      | then-loop-number-test+then-row-eq0 w ↦ row_past a.layout b.number _ w.row_of-row.ensures w.if-row-eq0.true
    ] in
    c.judge_rest.ensures ∙ sym (b.invariant.4 ∙ at_end a.layout a.form a.card.now b.number b.column over)
