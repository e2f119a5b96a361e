-- `tie_check::entries::put_if` meets its contract.
use mathlib.Core.Path.{refl}
use native.Mathlib.Omega.{arith}
use Rattle.tie_check.proofs.entries.put_if.Goals as goal

pub returns-then-fault : goal.returns-then-fault
returns-then-fault c =
    record {
      list = rw c.if-fault.true c.put.ensures;
      number = rw c.if-fault.true (omega arith);
      few = (omega arith);
    }

pub returns : goal.returns
returns c =
    record {
      list = rw c.if-fault.false refl;
      number = rw c.if-fault.false (omega arith);
      few = (omega arith);
    }
