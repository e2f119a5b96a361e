-- `volume_edit::judge_append` meets its contract.
use Rattle.std.proofs.lemmas.Result.{err_from_is_err_and}
use mathlib.Core.Path.{sym, refl}
use Rattle.volume_form.specs.Rows.{row_of}
use Rattle.volume_edit.proofs.Appends.{few-cards, volume_good, volume_refused}
use Rattle.volume_edit.proofs.judge_append.Goals as goal

pub judge_header-requires : goal.judge_header-requires
judge_header-requires c =
    few-cards c.args.form c.args.cards c.args.buffer.now (sym c.in_ok-judge.ensures)

pub returns : goal.returns
returns c =
    volume_good (row_of c.args.form) c.args.cards c.args.buffer.now c.args.header.now _ c.in_ok-judge.ensures refl _ c.judge_header.ensures

pub returns-in_err-judge : goal.returns-in_err-judge
returns-in_err-judge c =
    let p = err_from_is_err_and c.from_residual.result c.from_residual.ensures.1 in
    rw (p.1, p.2) (volume_refused (row_of c.args.form) c.args.cards c.args.buffer.now c.args.header.now _ c.in_err-judge.ensures _ refl)
