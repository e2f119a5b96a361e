-- `value_coordinate::angle::parts_in` meets its contract: each part is what its columns' bytes hold.
use native.Mathlib.Omega.{arith}
use mathlib.Core.Path.{sym, ap, ◌∙◌}
use mathlib.Core.Bool.{false}
use Rattle.value_number.specs.number.Reading.{figures_of}
use Rattle.value_coordinate.specs.angle.Angles.{padded_of, parts_of}
use Rattle.value_coordinate.proofs.angle.Columns.{two_of, three_of}
use Rattle.value_coordinate.proofs.angle.Reading.{same_parts}
use Rattle.value_coordinate.proofs.angle.parts_in.Goals as goal

pub returns : goal.returns
unfolding parts_of
returns c =
    let s = c.args.s.now in
    same_parts
    (c.three_columns-degrees.ensures ∙ ap padded_of (sym (three_of s 0 (omega (arith, c.requires)))))
    (c.two_columns-minutes.ensures ∙ ap padded_of (sym (two_of s 3 (omega (arith, c.requires)))))
    (c.two_columns-seconds.ensures ∙ ap padded_of (sym (two_of s 5 (omega (arith, c.requires)))))
    (c.three_digits-thousandths.ensures ∙ ap (figures_of false) (sym (three_of s 8 (omega (arith, c.requires)))))
