-- `volume_check::lines` meets its contract.
use Rattle.std.proofs.lemmas.Result.{err_from_is_err_and}
use mathlib.Core.Path.{sym, ap, ◌∙◌, refl}
use Rattle.volume_check.proofs.Placing.{lines-counted, lines-refused}
use Rattle.volume_check.specs.Answers.{lines_of}
use Rattle.volume_form.specs.Rows.{row_of}
use Rattle.volume_check.proofs.lines.Goals as goal

pub count_in-requires : goal.count_in-requires
count_in-requires c = sym c.in_ok-judge.ensures

pub returns : goal.returns
returns c =
    lines-counted (row_of c.form_of-form.result) c.args.cards c.args.volume.now (sym c.in_ok-judge.ensures) _ c.count_in.ensures ∙ ap (λ x. lines_of (row_of x) c.args.cards c.args.volume.now) c.form_of-form.ensures

pub returns-in_err-judge : goal.returns-in_err-judge
returns-in_err-judge c =
    let p = err_from_is_err_and c.from_residual.result c.from_residual.ensures.1 in
    rw (p.1, p.2) (lines-refused (row_of c.form_of-form.result) c.args.cards c.args.volume.now _ (sym c.in_err-judge.ensures) ∙ ap (λ x. lines_of (row_of x) c.args.cards c.args.volume.now) c.form_of-form.ensures)
