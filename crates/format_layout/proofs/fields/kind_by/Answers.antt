-- `format_layout::fields::kind_by` meets its contract: one kind for each number.
use Rattle.format_layout.specs.packed.Rows.{kind_of}
use borrow.Author.Tests.{ne_eqb}
use Rattle.format_layout.proofs.fields.kind_by.Goals as goal

pub returns-in-10 : goal.returns-in-10
unfolding kind_of
returns-in-10 c = rw c.in-10.is

pub returns-in-12 : goal.returns-in-12
unfolding kind_of
returns-in-12 c = rw c.in-12.is

pub returns-in-1 : goal.returns-in-1
unfolding kind_of
returns-in-1 c = rw c.in-1.is

pub returns-in-2 : goal.returns-in-2
unfolding kind_of
returns-in-2 c = rw c.in-2.is

pub returns-in-13 : goal.returns-in-13
unfolding kind_of
returns-in-13 c = rw c.in-13.is

pub returns-in-14 : goal.returns-in-14
unfolding kind_of
returns-in-14 c = rw c.in-14.is

pub returns-in_default : goal.returns-in_default
unfolding kind_of
returns-in_default c =
    rw (
      ne_eqb _ 10 c.in_default.in_default-own.rest.0.0.0.0.0.1,
      ne_eqb _ 12 c.in_default.in_default-own.rest.0.0.0.0.1,
      ne_eqb _ 1 c.in_default.in_default-own.rest.0.0.0.1,
      ne_eqb _ 2 c.in_default.in_default-own.rest.0.0.1,
      ne_eqb _ 13 c.in_default.in_default-own.rest.0.1,
      ne_eqb _ 14 c.in_default.in_default-own.rest.1,
    )
