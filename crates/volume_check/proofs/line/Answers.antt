-- `volume_check::line` meets its contract.
use mathlib.Core.Path.{ap, ◌∙◌}
use lib.ListN.{length}
use Rattle.volume_check.specs.Answers.{part_of, line_of}
use Rattle.volume_check.specs.Steps.{inside}
use Rattle.volume_check.proofs.Placing.{found_inside}
use Rattle.volume_rules.specs.Judged.{form_in}
use Rattle.volume_form.proofs.Cards.{good_row}
use Rattle.volume_form.specs.Rows.{row_of}
use Rattle.volume_check.proofs.line.Goals as goal

pub part_of-requires : goal.part_of-requires
part_of-requires c =
    ap (λ x. inside x (length c.args.volume.now)) c.find_line-found.ensures ∙ found_inside (row_of (form_in c.args.cards c.args.volume.now)) (good_row (form_in c.args.cards c.args.volume.now)) c.args.cards c.args.volume.now c.args.place

pub returns : goal.returns
unfolding line_of
returns c = c.part_of.ensures ∙ ap (λ x. part_of x c.args.volume.now) c.find_line-found.ensures
