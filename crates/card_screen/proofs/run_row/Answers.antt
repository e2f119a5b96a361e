-- `card_screen::run_row` meets its contract.
use native.Mathlib.Omega.{arith}
use Rattle.card_screen.proofs.Runs.{run_none, roles_more, run_more}
use Rattle.card_screen.proofs.run_row.Goals as goal

pub loop-b-init : goal.loop-b-init
loop-b-init c = (omega arith, run_none _ _ _ _, omega arith, omega arith)

pub loop-b-preserved : goal.loop-b-preserved
loop-b-preserved c =
    let v = c.loop-b.invariant in
    let e = c.next-s.ensures in
    (roles_more _ _ _ v.0, run_more _ _ _ _ _ _ _ v.0 v.1 e.0, e.1, e.2)
