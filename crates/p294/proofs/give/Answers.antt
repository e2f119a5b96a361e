-- `p294::give` meets its contract.
use mathlib.Core.Path.{refl}
use native.Mathlib.Omega.{arith}
use lib.ListN.{length-set}
use Rattle.p294.proofs.answers.Steps.{back}
use Rattle.p294.proofs.Giving.{not-given, all-given}
use Rattle.p294.proofs.give.Goals as goal

pub returns-then-numbers-lt-NUMBERS : goal.returns-then-numbers-lt-NUMBERS
returns-then-numbers-lt-NUMBERS c =
    record {
      said = back _ _ (record { sfits = c.struct_told-1.given.1.0.1 }) refl;
      numbers = not-given c.args.numbers.now c.args.reply (omega arith);
    }

pub bounds-numbers-1 : goal.bounds-numbers-1
bounds-numbers-1 c = rw length-set (omega arith)

pub returns : goal.returns
returns c =
    record {
      said = back _ _ (record { sfits = c.struct_told-1.given.1.0.1 }) refl;
      numbers = all-given c.args.numbers.now c.args.reply _ _ _ (omega arith) (back _ _ (record { sfits = c.struct_told-2-1.given.1.1.0.1 }) refl) (back _ _ (record { sfits = c.struct_told-3-1.given.0.1 }) refl) (back _ _ (record { sfits = c.struct_told-4-1.given.1.1.1.0.1 }) refl);
    }
