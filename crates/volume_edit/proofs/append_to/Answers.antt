-- `volume_edit::append_to` meets its contract.
use Rattle.std.specs.Prelude.{Err}
use Rattle.std.proofs.lemmas.Result.{err_from_is_err_and}
use mathlib.Core.Path.{refl, sym, ◌∙◌, ap}
use Rattle.volume_form.specs.Rows.{row_of}
use Rattle.volume_edit.proofs.Appends.{append-done, append-refused}
use Rattle.volume_edit.proofs.append_to.Goals as goal

pub write-requires : goal.write-requires
write-requires c = sym c.in_ok-judge_append.ensures

pub returns : goal.returns
returns c =
    let w = append-done (row_of c.args.form) c.args.cards c.args.buffer.now c.args.header.now _ c.in_ok-judge_append.ensures refl _ _ c.write.ensures.number c.write.ensures.buffer in
    record { answer = w.0; buffer = w.1 }

pub returns-in_err-judge_append : goal.returns-in_err-judge_append
returns-in_err-judge_append c =
    let p = err_from_is_err_and c.from_residual.result c.from_residual.ensures.1 in
    let w = append-refused (row_of c.args.form) c.args.cards c.args.buffer.now c.args.header.now _ c.in_err-judge_append.ensures _ refl _ refl in
    record { answer = p.1 ∙ ap Err p.2 ∙ w.0; buffer = w.1 }
