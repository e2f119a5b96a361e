-- `value_number::number_entry::write_signed` meets its contract.
use Rattle.value_number.proofs.number_entry.Writing.{signed-written, unsigned_written}
use Rattle.value_number.specs.number_entry.Spelling.{sign_columns}
use Rattle.base_digits.proofs.digits.Parts.{put_length}
use lib.ListN.{set, length-set}
use mathlib.Core.Path.{ap, ◌∙◌}
use native.Mathlib.Omega.{arith}
use Rattle.value_number.proofs.number_entry.write_signed.Goals as goal

pub bounds-columns-0 : goal.bounds-columns-0
bounds-columns-0 c = omega (arith, ap sign_columns c.if-minus.true)

pub slice_bounds-write_plain-count : goal.slice_bounds-write_plain-count
slice_bounds-write_plain-count c = simp length-set (omega (arith, ap sign_columns c.if-minus.true))

pub slice_bounds-write_plain-start : goal.slice_bounds-write_plain-start
slice_bounds-write_plain-start c = simp length-set (omega (arith, ap sign_columns c.if-minus.true))

pub shape_of-columns-then-minus : goal.shape_of-columns-then-minus
shape_of-columns-then-minus c =
    put_length 1 (set c.args.columns.now 0 45) c.write_plain.new.columns c.write_plain.auto.columns ∙ length-set c.args.columns.now 0 45

pub returns-then-minus : goal.returns-then-minus
returns-then-minus c =
    signed-written c.args.columns.now c.write_plain.new.columns _ _ _ _ _ c.if-minus.true c.requires c.write_plain.ensures.columns

pub returns : goal.returns
returns c =
    unsigned_written c.args.columns.now c.write_plain-2.new.columns _ _ _ _ _ c.if-minus.false c.requires c.write_plain-2.ensures.columns
