-- `format_layout::ranges::in_range` meets its contract: below zero only an open range holds, from zero up the range's own test.
use Rattle.std.proofs.Common.{◌∙◌}
use mir.Syntax.{w64}
use mir.ValLaws.{to_z-of_z}
use Rattle.format_layout.proofs.ranges.Signs.{no_size, a_size}
use Rattle.format_layout.proofs.ranges.in_range.Goals as goal

pub returns-in-Ok : goal.returns-in-Ok
returns-in-Ok c =
    let held = to_z-of_z w64 c.args.value c.ranges.value in
    let h = rw held at c.in-Ok.ensures in
    c.allows_size.ensures ∙ a_size _ c.args.value _ h.0 h.1

pub returns-in-Err : goal.returns-in-Err
returns-in-Err c =
    let held = to_z-of_z w64 c.args.value c.ranges.value in
    c.is_any.ensures ∙ no_size _ c.args.value c.ranges.value (rw held at c.in-Err.ensures)
