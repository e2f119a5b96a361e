-- `base_digits::filling::fill_digits` meets its contract.
use Rattle.std.proofs.Common.{refl, sym, ◌∙◌, arith}
use lib.Seq.{drop-length}
use mathlib.Core.List.{append-nil}
use Rattle.base_digits.proofs.digits.Spell.{digit_goes, rest_goes, columns-done, rest_done}
use Rattle.base_digits.proofs.filling.fill_digits.Goals as goal

pub loop-i-init : goal.loop-i-init
loop-i-init c = (rw (drop-length c.args.columns.now, append-nil), refl)

pub loop-i-preserved : goal.loop-i-preserved
loop-i-preserved c =
    let b = c.loop-i in (
      b.invariant.0 ∙ digit_goes b.i b.rest b.columns c.loop-i-test.true (omega arith),
      b.invariant.1 ∙ rest_goes b.i b.rest c.loop-i-test.true,
    )

pub returns : goal.returns
returns c =
    let b = c.loop-i in record {
      rest = sym (b.invariant.1 ∙ rest_done b.i b.rest c.loop-i-test.false);
      columns = sym (b.invariant.0 ∙ columns-done b.i b.rest b.columns c.loop-i-test.false);
    }
