-- `tie_check::check` meets its contract.
use mathlib.Core.Path.{refl, sym, ap, ◌∙◌}
use Rattle.std.specs.Prelude.{Ok, Err}
use Rattle.std.proofs.lemmas.Result.{err_from_is_err_and}
use Rattle.header_check.proofs.Lengths.{accepted-noted}
use Rattle.tie_check.specs.Answer.{answer_for, list_for}
use Rattle.tie_check.proofs.check.Goals as goal

pub check_noting-requires : goal.check_noting-requires
check_noting-requires c = refl

pub returns-in_err-check_noting : goal.returns-in_err-check_noting
unfolding answer_for list_for
returns-in_err-check_noting c =
    let p = err_from_is_err_and c.from_residual.result c.from_residual.ensures.1 in
    let q = sym c.in_err-check_noting.ensures.answer in
    record { answer = rw q (p.1 ∙ ap Err p.2); list = rw q refl }

pub list_faults-requires : goal.list_faults-requires
list_faults-requires c =
    let q = sym c.in_ok-check_noting.ensures.answer in
    record { header_value = q; noted = accepted-noted _ q _ _ refl c.in_ok-check_noting.ensures.cards }

pub returns : goal.returns
unfolding answer_for list_for
returns c =
    let q = sym c.in_ok-check_noting.ensures.answer in
    record { answer = rw q (ap Ok c.list_faults.ensures.number); list = rw q c.list_faults.ensures.list }
