-- `base_digits::digits::read_run` meets its contract.
use Rattle.std.proofs.Common.{◌≡◌, ◌+◌, length, drop, sym, ap, ◌∙◌, arith}
use Rattle.base_digits.proofs.digits.Walk.{run_from, run_starts, run_stops, run_goes, run_ends}
use Rattle.base_digits.proofs.digits.read_run.Goals as goal

pub loop-count-init : goal.loop-count-init
loop-count-init c =
    (omega arith, run_starts _ _ ∙ ap (λ k. run_from k 0 c.args.s.now) (sym c.cap-number.ensures))

pub returns-then-not-is_ascii_digit-clause-found : goal.returns-then-not-is_ascii_digit-clause-found
returns-then-not-is_ascii_digit-clause-found c =
    let b = c.loop-count in
    let other = sym c.is_ascii_digit.ensures.value ∙ c.if-not-is_ascii_digit.true in
    sym (b.invariant.1 ∙ run_stops b.number b.count c.args.s.now c.loop-count-test.true b.invariant.0 other)

pub loop-count-preserved : goal.loop-count-preserved
loop-count-preserved c =
    let b = c.loop-count in
    let s = c.args.s.now in
    let digit = sym c.is_ascii_digit.ensures.value ∙ c.if-not-is_ascii_digit.false in (
      omega (arith, c.grown-number.ensures),
      b.invariant.1
          ∙ run_goes b.number b.count s c.loop-count-test.true digit
          ∙ ap (λ k. run_from k (b.count + 1) (drop (b.count + 1) s)) (sym c.grown-number.ensures),
    )

pub returns-clause-found : goal.returns-clause-found
returns-clause-found c =
    let b = c.loop-count in
    let end : b.count ≡ length c.args.s.now = omega arith in
    rw (← end) (sym (b.invariant.1 ∙ run_ends b.number b.count c.args.s.now b.invariant.0 c.loop-count-test.false))
