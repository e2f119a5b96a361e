-- `value_text::printable::all_good` meets its contract.
use Rattle.std.proofs.Common.{◌≡◌}
use Rattle.value_text.specs.packed.Rows.{good_to}
use Rattle.value_text.proofs.printable.all_good.Given as goal

abbrev pub invariant-loop-i : goal.invariant-loop-i
invariant-loop-i l = l.good ≡ good_to l.s l.i
