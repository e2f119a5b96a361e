-- `volume_check::judging::check_headers` meets its contract.
use Rattle.std.proofs.lemmas.Result.{err_from_is_err_and}
use mathlib.Core.Path.{sym, ◌∙◌, refl}
use Prim.Native.Nat.{◌+◌}
use native.Mathlib.Omega.{arith}
use Rattle.volume_check.proofs.judging.Headers.{within, covered_next, answers_goes, answers_stops, answers_ends}
use Rattle.volume_check.proofs.judging.check_headers.Goals as goal

pub overflow_mul-n : goal.overflow_mul-n
overflow_mul-n c =
    let w = c.in-Some.ensures.steps.1 in let v = c.loop-card.invariant in
    omega (arith, within _ _ _ _ _ _ _ w.0 (w.1 ∙ v.size) v.covered.1 c.count_on-n.ensures)

pub split_at-requires : goal.split_at-requires
split_at-requires c =
    let w = c.in-Some.ensures.steps.1 in let v = c.loop-card.invariant in
    within _ _ _ _ _ _ _ w.0 (w.1 ∙ v.size) v.covered.1 c.count_on-n.ensures

pub returns-in_err-check_header : goal.returns-in_err-check_header
returns-in_err-check_header c =
    let w = c.in-Some.ensures.steps.1 in let v = c.loop-card.invariant in let s = c.split_at.ensures in
    let p = err_from_is_err_and c.from_residual.result c.from_residual.ensures.1 in
    rw (p.1, p.2)
    (answers_stops _ _ _ _ _ _ _ w.0 (w.1 ∙ v.size) v.covered.1 c.count_on-n.ensures _ _ s.front s.back _ c.in_err-check_header.ensures _ refl
    ∙ sym v.same)

pub loop-card-preserved : goal.loop-card-preserved
loop-card-preserved c =
    let w = c.in-Some.ensures.steps in let v = c.loop-card.invariant in let s = c.split_at.ensures in
    record {
      size = w.0 ∙ v.size;
      near = omega arith;
      covered = (v.covered.0 + c.count_on-n.result, covered_next _ _ _ _ _ _ _ w.1.0 (w.1.1 ∙ v.size) v.covered.1 c.count_on-n.ensures _ s.back);
      same = v.same ∙ answers_goes _ _ _ _ _ _ _ w.1.0 (w.1.1 ∙ v.size) v.covered.1 c.count_on-n.ensures _ _ s.front s.back _ c.in_ok-check_header.ensures refl;
    }

pub returns : goal.returns
returns c =
    let w = c.in-None.ensures.steps in let v = c.loop-card.invariant in
    answers_ends _ _ _ (omega (arith, w.1.0, v.size)) ∙ sym v.same
