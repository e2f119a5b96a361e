-- `tie_lookup::find_key` meets its contract.
use mathlib.Core.Path.{sym}
use Rattle.std.proofs.lemmas.Result.{err_from_is_err_and}
use Rattle.tie_lookup.proofs.questions.Answering.{told-refused}
use Rattle.tie_lookup.proofs.find_key.Goals as goal

pub returns-in_err-check : goal.returns-in_err-check
returns-in_err-check c =
    let a = c.args in
    let p = err_from_is_err_and c.from_residual.result c.from_residual.ensures.1 in
    rw (p.1, p.2) (told-refused a.header.now a.class a.key a.text.now _ (sym c.in_err-check.ensures))
