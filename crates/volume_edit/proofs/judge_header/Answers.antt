-- `volume_edit::judge_header` meets its contract.
use Rattle.std.proofs.lemmas.Result.{err_from_is_err_and}
use mathlib.Core.Path.{ap, ◌∙◌, refl}
use Rattle.volume_form.specs.Rows.{row_of}
use Rattle.volume_edit.proofs.Appends.{header_refused, room_left, no_room}
use Rattle.volume_edit.proofs.judge_header.Goals as goal
use Rattle.std.specs.Prelude.{Err}

pub returns-in_err-check_header : goal.returns-in_err-check_header
returns-in_err-check_header c =
    let p = err_from_is_err_and c.from_residual.result c.from_residual.ensures.1 in
    rw (p.1, p.2)
    (header_refused (row_of c.args.form) c.args.cards c.args.room c.args.header.now _ c.in_err-check_header.ensures _ refl)

pub returns-then-is_stated : goal.returns-then-is_stated
returns-then-is_stated c =
    room_left (row_of c.args.form) c.args.cards c.args.room c.args.header.now _ c.in_ok-check_header.ensures refl _ c.is_stated.ensures c.if-is_stated.true

pub returns : goal.returns
returns c =
    ap Err c.refuse.ensures ∙ no_room (row_of c.args.form) c.args.cards c.args.room c.args.header.now _ c.in_ok-check_header.ensures refl _ c.is_stated.ensures c.if-is_stated.false
