-- `volume_check::judging::judge_parts` meets its contract.
use mathlib.Core.Path.{sym, ap, ◌∙◌}
use Rattle.volume_check.proofs.judging.Parts.{parts-mixed, parts_uncovered, parts-covered}
use Rattle.volume_check.proofs.judging.judge_parts.Goals as goal
use Rattle.std.specs.Prelude.{Err}

pub returns-then-is_mixed : goal.returns-then-is_mixed
returns-then-is_mixed c =
    ap Err c.refuse.ensures ∙ parts-mixed _ _ _ c.is_mixed.result c.is_mixed.ensures c.if-is_mixed.true

pub check_headers-requires : goal.check_headers-requires
check_headers-requires c = sym c.covered_by.ensures ∙ c.if-covered_by.true

pub returns-then-covered_by : goal.returns-then-covered_by
returns-then-covered_by c =
    c.check_headers.ensures
    ∙ parts-covered _ _ _ c.is_mixed.result c.is_mixed.ensures
    c.if-is_mixed.false c.covered_by.result c.covered_by.ensures c.if-covered_by.true

pub returns : goal.returns
returns c =
    ap Err c.refuse-2.ensures
    ∙ parts_uncovered _ _ _ c.is_mixed.result c.is_mixed.ensures
    c.if-is_mixed.false c.covered_by.result c.covered_by.ensures c.if-covered_by.false
