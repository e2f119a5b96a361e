-- `value_number::number_entry::write_pointed` meets its contract.
use Rattle.value_number.proofs.number_entry.Writing.{pointed-length, front_length, pointed-written, pointed_same}
use mathlib.Core.Path.{sym}
use native.Mathlib.Omega.{arith}
use Rattle.value_number.proofs.number_entry.write_pointed.Goals as goal

pub slice_bounds-fill_digits-end-2 : goal.slice_bounds-fill_digits-end-2
slice_bounds-fill_digits-end-2 c =
    omega (arith, pointed-length c.args.k c.args.columns.now c.fill_digits-rest.new.columns c.requires c.fill_digits-rest.auto.columns)

pub slice_bounds-fill_digits-end-3 : goal.slice_bounds-fill_digits-end-3
slice_bounds-fill_digits-end-3 c =
    sym (front_length _ c.args.columns.now c.fill_digits-rest.new.columns c.requires c.fill_digits-rest.auto.columns)

pub shape_of-columns : goal.shape_of-columns
shape_of-columns c =
    pointed_same _ c.args.columns.now c.fill_digits-rest.new.columns c.requires c.fill_digits-rest.auto.columns c.fill_digits.new.columns c.fill_digits.auto.columns

pub returns : goal.returns
returns c =
    pointed-written _ c.args.columns.now c.fill_digits-rest.new.columns c.requires c.fill_digits-rest.auto.columns _ _ c.fill_digits.new.columns c.fill_digits-rest.ensures.columns c.fill_digits-rest.ensures.rest c.fill_digits.ensures.columns
