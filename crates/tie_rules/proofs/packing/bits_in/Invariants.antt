-- `tie_rules::packing::bits_in` meets its contract: what was walked over, from the back, is printable and makes the bits so far.
use mathlib.Core.Path.{◌≡◌}
use mathlib.Core.Bool.{true}
use lib.ListN.{length, take, drop}
use Rattle.std.specs.Iterator.Adapters.{rev_source}
use Rattle.std.specs.Slice.Iter.{iter_rest}
use Rattle.value_text.specs.text.Texts.{printable}
use Rattle.tie_rules.specs.packed.Numbers.{bits_of}
use Rattle.tie_rules.proofs.packing.bits_in.Given as goal

abbrev pub invariant-loop-b : goal.invariant-loop-b
invariant-loop-b l =
    let front = iter_rest (rev_source l.b-iterator) in
    record {
      is : take (length front) l.t ≡ front;
      bits : l.bits ≡ bits_of (drop (length front) l.t);
      printed : printable (drop (length front) l.t) ≡ true;
    }
