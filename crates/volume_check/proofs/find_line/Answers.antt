-- `volume_check::find_line` meets its contract.
use Rattle.std.proofs.lemmas.Result.{err_from_is_err_and}
use mathlib.Core.Path.{sym, ap, ◌∙◌, refl}
use Rattle.volume_check.proofs.Placing.{found-placed, found-refused}
use Rattle.volume_check.specs.Answers.{found_of}
use Rattle.volume_form.specs.Rows.{row_of}
use Rattle.volume_check.proofs.find_line.Goals as goal

pub line_in-requires : goal.line_in-requires
line_in-requires c = sym c.in_ok-judge.ensures

pub returns : goal.returns
returns c =
    found-placed (row_of c.form_of-form.result) c.args.cards c.args.volume.now c.args.place (sym c.in_ok-judge.ensures) _ c.line_in.ensures ∙ ap (λ x. found_of (row_of x) c.args.cards c.args.volume.now c.args.place) c.form_of-form.ensures

pub returns-in_err-judge : goal.returns-in_err-judge
returns-in_err-judge c =
    let p = err_from_is_err_and c.from_residual.result c.from_residual.ensures.1 in
    rw (p.1, p.2) (found-refused (row_of c.form_of-form.result) c.args.cards c.args.volume.now c.args.place _ (sym c.in_err-judge.ensures) ∙ ap (λ x. found_of (row_of x) c.args.cards c.args.volume.now c.args.place) c.form_of-form.ensures)
