-- `value_number::shapes::is_decimal` meets its contract, by how many digits stand before the point and behind it.
use native.Mathlib.Omega.{arith}
use mathlib.Core.Path.{◌∙◌}
use borrow.Author.Tests.{ne_eqb}
use Rattle.base_digits.proofs.digits.Parts.{rest_part}
use Rattle.value_number.proofs.shapes.Leading.{decimal-whole, decimal-other, decimal_odd, decimal-places}
use Rattle.value_number.proofs.shapes.is_decimal.Goals as goal

pub returns-then-a-t : goal.returns-then-a-t
returns-then-a-t c =
    let r = c.run_of-a.ensures in
    decimal-whole c.args.t.now _ r.found c.if-a-t.true

pub returns-then-t-a-ne-POINT : goal.returns-then-t-a-ne-POINT
returns-then-t-a-ne-POINT c =
    let r = c.run_of-a.ensures in
    decimal-other c.args.t.now _ r.found (omega (arith, r.within)) c.if-t-a-ne-POINT.true

pub returns-then-b-rest : goal.returns-then-b-rest
returns-then-b-rest c =
    let r = c.run_of-a.ensures in
    decimal-places c.args.t.now _ r.found (omega (arith, r.within))
    c.if-t-a-ne-POINT.false _ (rw rest_part at c.run_of-b.ensures.found) (rw rest_part at c.if-b-rest.true)

pub returns-else-b-rest : goal.returns-else-b-rest
returns-else-b-rest c =
    let r = c.run_of-a.ensures in
    ne_eqb _ _ c.if-b-rest.false
    ∙ decimal_odd c.args.t.now _ r.found (omega (arith, r.within))
    c.if-t-a-ne-POINT.false _ (rw rest_part at c.run_of-b.ensures.found) (rw rest_part at c.if-b-rest.false)
