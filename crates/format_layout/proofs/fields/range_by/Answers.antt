-- `format_layout::fields::range_by` meets its contract: one form of range for each digit.
use borrow.Author.Tests.{ne_eqb}
use Rattle.format_layout.specs.packed.Rows.{range_of}
use Rattle.format_layout.proofs.fields.range_by.Goals as goal

pub returns-then-number-eq0 : goal.returns-then-number-eq0
unfolding range_of
returns-then-number-eq0 c = rw c.if-number-eq0.true

pub returns-in-0 : goal.returns-in-0
unfolding range_of
returns-in-0 c = rw c.in-0.is

pub returns-in-1 : goal.returns-in-1
unfolding range_of
returns-in-1 c = rw c.in-1.is

pub returns-in-2 : goal.returns-in-2
unfolding range_of
returns-in-2 c = rw c.in-2.is

pub returns-in_default : goal.returns-in_default
unfolding range_of
returns-in_default c =
    rw (ne_eqb _ 0 c.in_default.in_default-own.rest.0.0.1, ne_eqb _ 1 c.in_default.in_default-own.rest.0.1, ne_eqb _ 2 c.in_default.in_default-own.rest.1)
