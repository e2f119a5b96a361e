-- `volume_edit::compact::compact_in` meets its contract.
use Rattle.std.specs.Prelude.{Err}
use Rattle.std.proofs.lemmas.Result.{err_from_is_err_and}
use mathlib.Core.Path.{sym, ◌∙◌, ap}
use Rattle.volume_form.specs.Rows.{row_of}
use Rattle.volume_edit.proofs.Answered.{compact_done, compact_refused}
use Rattle.volume_edit.proofs.compact.compact_in.Goals as goal

pub write-requires : goal.write-requires
write-requires c = sym c.in_ok-judge.ensures

pub returns : goal.returns
returns c =
    let w = compact_done (row_of c.args.form) c.args.cards c.args.buffer.now (sym c.in_ok-judge.ensures) _ _ c.write.ensures.number c.write.ensures.buffer in
    record { answer = w.0; buffer = w.1 }

pub returns-in_err-judge : goal.returns-in_err-judge
returns-in_err-judge c =
    let p = err_from_is_err_and c.from_residual.result c.from_residual.ensures.1 in
    let w = compact_refused (row_of c.args.form) c.args.cards c.args.buffer.now _ (sym c.in_err-judge.ensures) in
    record { answer = p.1 ∙ ap Err p.2 ∙ w.0; buffer = w.1 }
