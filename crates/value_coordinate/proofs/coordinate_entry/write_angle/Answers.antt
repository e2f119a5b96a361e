-- `value_coordinate::coordinate_entry::write_angle` meets its contract.
use mathlib.Core.Path.{sym, ◌∙◌, ap}
use mir.Syntax.{w64}
use mir.ValLaws.{to_z-of_z}
use lib.IntN.{nat_abs}
use lib.Seq.{length-take-le}
use Rattle.base_digits.specs.signs.Signs.{is_minus}
use Rattle.value_coordinate.specs.axes.Axes.{letter_of}
use Rattle.base_digits.proofs.digits.Answers.{made, turned_away}
use Rattle.value_coordinate.proofs.coordinate_entry.ArcWriting.{angle_outside, angle_no_room, angle_room, angle_written}
use native.Mathlib.Omega.{arith}
use Rattle.value_coordinate.proofs.coordinate_entry.write_angle.Goals as goal

pub returns-then-bound-n : goal.returns-then-bound-n
returns-then-bound-n c =
    record { answer = (turned_away c.args.columns.now (angle_outside _ _ _ _ (c.magnitude-n.ensures ∙ ap nat_abs (to_z-of_z w64 c.args.angle c.ranges.angle)) _ c.bound.ensures.found c.if-bound-n.true)).0; columns = (turned_away c.args.columns.now (angle_outside _ _ _ _ (c.magnitude-n.ensures ∙ ap nat_abs (to_z-of_z w64 c.args.angle c.ranges.angle)) _ c.bound.ensures.found c.if-bound-n.true)).1 }

pub returns-then-columns-ne-WIDTH : goal.returns-then-columns-ne-WIDTH
returns-then-columns-ne-WIDTH c =
    record { answer = (turned_away c.args.columns.now (angle_no_room _ _ _ _ (c.magnitude-n.ensures ∙ ap nat_abs (to_z-of_z w64 c.args.angle c.ranges.angle)) _ c.bound.ensures.found c.if-bound-n.false c.if-columns-ne-WIDTH.true)).0; columns = (turned_away c.args.columns.now (angle_no_room _ _ _ _ (c.magnitude-n.ensures ∙ ap nat_abs (to_z-of_z w64 c.args.angle c.ranges.angle)) _ c.bound.ensures.found c.if-bound-n.false c.if-columns-ne-WIDTH.true)).1 }

pub slice_bounds-write_plain-end-2 : goal.slice_bounds-write_plain-end-2
slice_bounds-write_plain-end-2 c = sym (length-take-le 11 c.args.columns.now (omega arith))

pub returns : goal.returns
returns c =
    let e = to_z-of_z w64 c.args.angle c.ranges.angle in
    record {
      answer = (made c.args.columns.now _
          (angle_room _ _ c.args.angle _ (c.magnitude-n.ensures ∙ ap nat_abs e) _ c.bound.ensures.found c.if-bound-n.false c.if-columns-ne-WIDTH.false _ (c.letter.ensures ∙ ap (letter_of c.args.axis) (c.below_zero.ensures ∙ ap is_minus e)))
          (angle_written c.args.columns.now c.write_plain.new.columns _ _ _ c.if-columns-ne-WIDTH.false c.write_plain.auto.columns c.figures.ensures c.write_plain.ensures.columns)).0;
      columns = (made c.args.columns.now _
          (angle_room _ _ c.args.angle _ (c.magnitude-n.ensures ∙ ap nat_abs e) _ c.bound.ensures.found c.if-bound-n.false c.if-columns-ne-WIDTH.false _ (c.letter.ensures ∙ ap (letter_of c.args.axis) (c.below_zero.ensures ∙ ap is_minus e)))
          (angle_written c.args.columns.now c.write_plain.new.columns _ _ _ c.if-columns-ne-WIDTH.false c.write_plain.auto.columns c.figures.ensures c.write_plain.ensures.columns)).1;
    }
