-- `value_number::shapes::whole_size` meets its contract.
use mathlib.Core.Path.{ap}
use native.Mathlib.Omega.{arith}
use Rattle.base_digits.proofs.digits.Parts.{rest_part}
use Rattle.value_number.proofs.number.Parsing.{number_absent}
use Rattle.value_number.specs.packed.Shapes.{size_of}
use Rattle.value_number.proofs.shapes.Telling.{size_short}
use Rattle.value_number.proofs.shapes.whole_size.Goals as goal

pub returns-then-at-s : goal.returns-then-at-s
returns-then-at-s c =
    record {
      size = ap size_of (number_absent _ _ _ c.padding-at.ensures.found c.if-at-s.true);
      within = omega arith;
    }

pub returns : goal.returns
returns c =
    let s = c.args.s.now in record {
      size = size_short s _ c.padding-at.ensures.found (omega (arith, c.padding-at.ensures.within)) _ c.sign_at.ensures.0 _ _
          (rw rest_part at c.mark_of.ensures.mark) c.size_by.ensures.0;
      within = c.size_by.ensures.1;
    }
