-- `media_diskette::count_lines` meets its contract: the answer for what is left of the file stays the same.
use mathlib.Core.Path.{sym, ap, ◌∙◌}
use native.Mathlib.Omega.{arith}
use borrow.Author.Rules.{rules}
use Rattle.media_diskette.proofs.Judging.{counted-begins, end_within, step_end, step_stop, step_on, over_open, over_done}
use Rattle.media_diskette.proofs.count_lines.Goals as goal
use Rattle.std.specs.Prelude.{Err}

pub loop-i-init : goal.loop-i-init
loop-i-init c = (search rules, search rules, search rules, counted-begins _)

pub loop-i-preserved-then-number-eq0 : goal.loop-i-preserved-then-number-eq0
loop-i-preserved-then-number-eq0 c =
    let l = c.loop-i in
    let f = c.args.file.now in (
      omega arith,
      omega arith,
      omega arith,
      l.invariant.3
          ∙ step_on f l.lines l.k l.i c.loop-i-test.true c.offence_of-number.result c.offence_of-number.ensures c.if-number-eq0.true,
    )

pub overflow_add-i-then-b-byte_at : goal.overflow_add-i-then-b-byte_at
overflow_add-i-then-b-byte_at c =
    let l = c.loop-i in
    omega (arith, end_within c.args.file.now l.lines l.k l.i c.loop-i-test.true c.byte_at.result c.byte_at.ensures c.if-b-byte_at.true)

pub loop-i-smaller : goal.loop-i-smaller
loop-i-smaller c =
    let l = c.loop-i in
    omega (arith, end_within c.args.file.now l.lines l.k l.i c.loop-i-test.true c.byte_at.result c.byte_at.ensures c.if-b-byte_at.true)

pub loop-i-preserved : goal.loop-i-preserved
loop-i-preserved c =
    let l = c.loop-i in
    let f = c.args.file.now in
    let two = end_within f l.lines l.k l.i c.loop-i-test.true c.byte_at.result c.byte_at.ensures c.if-b-byte_at.true in (
      omega arith,
      omega arith,
      omega arith,
      l.invariant.3 ∙ step_end f l.lines l.k l.i c.loop-i-test.true c.byte_at.result c.byte_at.ensures c.if-b-byte_at.true,
    )

pub returns-in-loop-i : goal.returns-in-loop-i
returns-in-loop-i c =
    let l = c.loop-i in
    let f = c.args.file.now in
    ap Err c.refuse.ensures
    ∙ step_stop f l.lines l.k l.i c.loop-i-test.true c.byte_at.result c.offence_of-number.result
    c.byte_at.ensures c.if-b-byte_at.false c.offence_of-number.ensures c.if-number-eq0.false
    ∙ sym l.invariant.3

pub returns-then-k-ne0 : goal.returns-then-k-ne0
returns-then-k-ne0 c =
    let l = c.loop-i in
    let f = c.args.file.now in
    ap Err c.refuse-then-k-ne0.ensures ∙ over_open f l.lines l.k l.i c.loop-i-test.false c.if-k-ne0.true ∙ sym l.invariant.3

pub returns : goal.returns
returns c =
    let l = c.loop-i in
    let f = c.args.file.now in
    c.size_of.ensures ∙ over_done f l.lines l.k l.i c.loop-i-test.false c.if-k-ne0.false ∙ sym l.invariant.3
