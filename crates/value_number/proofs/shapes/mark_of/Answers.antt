-- `value_number::shapes::mark_of` meets its contract: what stands at the front is what the walk passed and what follows.
use Rattle.std.proofs.Common.{◌+◌, length, drop, sym, ap, ◌∙◌, arith}
use borrow.Author.Tests.{eqb-true, eqb-false}
use Rattle.base_digits.proofs.digits.Walk.{run_from, run_starts, run_stops, run_goes, run_ends}
use Rattle.value_number.proofs.shapes.Leading.{mark_odd, mark-none, mark-is}
use Rattle.value_number.proofs.shapes.mark_of.Goals as goal

pub loop-b-init : goal.loop-b-init
loop-b-init c = (omega arith, run_starts 0 c.args.t.now)

pub returns-then-not-is_ascii_digit-clause-mark : goal.returns-then-not-is_ascii_digit-clause-mark
returns-then-not-is_ascii_digit-clause-mark c =
    let b = c.loop-b in
    let t = c.args.t.now in
    let l = c.loop-b-test.true in
    let other = sym c.is_ascii_digit.ensures.value ∙ c.if-not-is_ascii_digit.true in
    mark_odd t b.n b.b-index (b.invariant.1 ∙ run_stops b.n b.b-index t l b.invariant.0 other) l

pub loop-b-preserved : goal.loop-b-preserved
loop-b-preserved c =
    let b = c.loop-b in
    let i = b.b-index in
    let t = c.args.t.now in
    let digit = sym c.is_ascii_digit.ensures.value ∙ c.if-not-is_ascii_digit.false in
    let next = sym (rw c.from.ensures at c.cap-n.ensures) in (
      omega (arith, next),
      b.invariant.1 ∙ run_goes b.n i t c.loop-b-test.true digit ∙ ap (λ k. run_from k (i + 1) (drop (i + 1) t)) next,
    )

pub returns-then-is_empty-clause-mark : goal.returns-then-is_empty-clause-mark
returns-then-is_empty-clause-mark c =
    let b = c.loop-b in
    let t = c.args.t.now in
    let none = eqb-true (length t) 0 (sym c.is_empty.ensures ∙ c.if-is_empty.true) in
    mark-none t b.n b.b-index (b.invariant.1 ∙ run_ends b.n b.b-index t b.invariant.0 c.loop-b-test.false) (omega arith) (omega arith)

pub returns-clause-mark : goal.returns-clause-mark
returns-clause-mark c =
    let b = c.loop-b in
    let t = c.args.t.now in
    let some = eqb-false (length t) 0 (sym c.is_empty.ensures ∙ c.if-is_empty.false) in
    mark-is t b.n b.b-index (b.invariant.1 ∙ run_ends b.n b.b-index t b.invariant.0 c.loop-b-test.false) (omega arith) (λ z. some (omega arith))
