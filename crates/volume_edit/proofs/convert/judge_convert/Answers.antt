-- `volume_edit::convert::judge_convert` meets its contract.
use Rattle.std.proofs.lemmas.Result.{err_from_is_err_and}
use mathlib.Core.Path.{sym}
use Rattle.volume_form.specs.Rows.{row_of}
use Rattle.volume_edit.proofs.Accepted.{convert_good, convert_bad}
use Rattle.volume_edit.proofs.convert.judge_convert.Goals as goal

pub judge_form-requires : goal.judge_form-requires
judge_form-requires c = sym c.in_ok-judge.ensures

pub returns : goal.returns
returns c =
    convert_good (row_of c.args.from) (row_of c.args.to) c.args.cards c.args.volume.now (sym c.in_ok-judge.ensures) _ c.judge_form.ensures

pub returns-in_err-judge : goal.returns-in_err-judge
returns-in_err-judge c =
    let p = err_from_is_err_and c.from_residual.result c.from_residual.ensures.1 in
    rw (p.1, p.2) (convert_bad (row_of c.args.from) (row_of c.args.to) c.args.cards c.args.volume.now _ (sym c.in_err-judge.ensures))
