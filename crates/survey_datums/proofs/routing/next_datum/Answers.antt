-- `survey_datums::routing::next_datum` meets its contract.
use mathlib.Core.Path.{◌≡◌}
use mathlib.Core.Bool.{true, false}
use Rattle.std.proofs.Common.{rules, tests}
use Rattle.std.proofs.lemmas.Iterator.{first_from_Range}
use Rattle.survey_datums.proofs.routing.Steps.{fits, next_found}
use Rattle.survey_datums.proofs.routing.next_datum.Goals as goal

pub returns-clause-value : goal.returns-clause-value
returns-clause-value c =
    let a = c.args in
    let p = fits a.row a.shifts a.number in
    next_found a.row a.shifts a.number _ (first_from_Range _ _ _ _ (λ i. p i ≡ true) (λ i. p i ≡ false)
    c.find.ensures.ran
    (λ x q k. search (rules, tests)) (λ x q k. search (rules, tests)))
