-- `tie_check::judging::faults_by` meets its contract: a column that only defines is passed over where that may be.
use mathlib.Core.Path.{◌≡◌, refl, ◌∙◌}
use mathlib.Core.Bool.{false, ◌&&◌}
use Rattle.tie_rules.specs.packed.Rows.{only_defines}
use Rattle.tie_check.proofs.judging.Judged.{passed_over, looked_at}
use Rattle.tie_check.proofs.judging.faults_by.Goals as goal

pub returns-then-only_defines : goal.returns-then-only_defines
returns-then-only_defines c =
    passed_over c.args.keys.now c.args.links.now c.args.totals c.args.once c.args.card.now c.args.vessel c.args.row
    _ c.only_defines.ensures (rw (c.if-once.true, c.if-only_defines.true) refl)

pub returns : goal.returns
returns c =
    let e : (c.args.once && only_defines c.args.row) ≡ false = elim c.else-once.branch [
      | goal.else-once-via-then-once+else-only_defines w ↦ rw (w.if-once.true, ← w.only_defines.ensures, w.if-only_defines.false) refl
      | goal.else-once-via-else-once w ↦ rw w.if-once.false refl
    ] in
    c.judge_column.ensures
    ∙ looked_at c.args.keys.now c.args.links.now c.args.totals c.args.once c.args.card.now c.args.vessel c.args.row
    (only_defines c.args.row) _ _ _ refl e c.referred_by-reference.ensures c.look_up-referred.ensures c.told_defined-defined.ensures
