-- `tie_rules::packing::packed_both` meets its contract.
use native.Mathlib.Omega.{arith}
use Rattle.tie_rules.proofs.packing.Steps.{first_large, second_large, pair_packed}
use Rattle.tie_rules.proofs.packing.packed_both.Goals as goal

pub returns-then-first-ge-DIGITS : goal.returns-then-first-ge-DIGITS
returns-then-first-ge-DIGITS c = first_large _ _ (omega arith)

pub returns-then-second-ge-EACH : goal.returns-then-second-ge-EACH
returns-then-second-ge-EACH c = second_large _ _ (omega arith) (omega arith)

pub returns : goal.returns
returns c =
    let a = c.args.first in
    let b = c.args.second in
    omega (arith, pair_packed a b (omega arith) (omega arith))
