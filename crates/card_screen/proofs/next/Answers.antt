-- `card_screen::next` meets its contract.
use Prim.Native.Nat.{◌+◌, ◌*◌, ◌<◌}
use mathlib.Core.Path.{◌≡◌, refl, ap, ◌∙◌}
use native.Mathlib.Omega.{arith}
use lib.ListN.{get_or}
use Rattle.card_screen.specs.Machine.{class_of, row_at}
use Rattle.card_screen.proofs.Rows.{class_below, next-is}
use Rattle.card_screen.proofs.next.Goals as goal

pub bounds-table-b : goal.bounds-table-b
bounds-table-b c = omega (arith, c.requires.built.size, c.ranges.b)

pub overflow_add-result : goal.overflow_add-result
overflow_add-result c =
    let rows_are : get_or c.args.table.now c.args.b 0 ≡ 256 + 16 * class_of c.args.b = c.requires.built.bytes_are c.args.b (omega (arith, c.ranges.b)) in
    omega (arith, rows_are, class_below c.args.b, c.requires.state_bound.2)

pub offset_bounds-table-rows : goal.offset_bounds-table-rows
offset_bounds-table-rows c =
    let rows_are : get_or c.args.table.now c.args.b 0 ≡ 256 + 16 * class_of c.args.b = c.requires.built.bytes_are c.args.b (omega (arith, c.ranges.b)) in
    omega (arith, rows_are, class_below c.args.b, c.requires.state_bound.2)

pub bounds-table-rows : goal.bounds-table-rows
bounds-table-rows c =
    let rows_are : get_or c.args.table.now c.args.b 0 ≡ 256 + 16 * class_of c.args.b = c.requires.built.bytes_are c.args.b (omega (arith, c.ranges.b)) in
    omega (arith, rows_are, class_below c.args.b, c.requires.state_bound.2, c.requires.built.size)

pub returns : goal.returns
returns c =
    let rows_are : get_or c.args.table.now c.args.b 0 ≡ 256 + 16 * class_of c.args.b = c.requires.built.bytes_are c.args.b (omega (arith, c.ranges.b)) in
    let a = c.args in
    let k = 16 * class_of a.b in
    let low : k + a.role < 256 = omega (arith, class_below a.b, c.requires.state_bound.2) in
    let at : get_or a.table.now a.b 0 + a.role ≡ 256 + (k + a.role) = omega (arith, rows_are) in
    let row : get_or a.table.now (get_or a.table.now a.b 0 + a.role) 0 ≡ row_at (k + a.role) =
    ap (λ i. get_or a.table.now i 0) at ∙ c.requires.built.rows_are (k + a.role) low in
    next-is a.role a.b a.state k _ _ c.requires.state_bound.2 c.requires.state_bound.0 c.requires.state_bound.1 refl row refl
