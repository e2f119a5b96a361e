-- `volume_check::line_at` meets its contract.
use mathlib.Core.Path.{ap, ◌∙◌}
use Rattle.volume_form.specs.Rows.{row_of}
use Rattle.volume_check.proofs.Placing.{told-zero, told_past, told-there}
use Rattle.volume_check.proofs.line_at.Goals as goal
use Rattle.std.specs.Prelude.{Err}

pub returns-then-place-eq0 : goal.returns-then-place-eq0
returns-then-place-eq0 c =
    ap Err c.refuse.ensures ∙ told-zero (row_of c.args.form) c.args.directory.now c.args.first c.args.place c.if-place-eq0.true

pub returns-then-directory-place : goal.returns-then-directory-place
returns-then-directory-place c =
    ap Err c.refuse-then-directory-place.ensures ∙ told_past (row_of c.args.form) c.args.directory.now c.args.first c.args.place c.if-place-eq0.false c.if-directory-place.true

pub returns : goal.returns
returns c =
    told-there (row_of c.args.form) c.args.directory.now c.args.first c.args.place c.if-place-eq0.false c.if-directory-place.false _ _ c.start_on-start.ensures c.count_on-number.ensures
