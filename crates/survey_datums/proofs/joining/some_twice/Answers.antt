-- `survey_datums::joining::some_twice` meets its contract.
use Prim.Native.Nat.{◌<◌, ◌≤◌}
use Rattle.std.proofs.Common.{rules, tests}
use Rattle.std.proofs.lemmas.Iterator.{cases_from_any, YieldsList-from_slice}
use Rattle.survey_datums.proofs.Answering.{some_often}
use Rattle.survey_datums.proofs.joining.some_twice.Goals as goal

pub returns : goal.returns
returns c =
    let times = c.args.times in
    some_often times c.well_formed.0.1.0.1 _ (cases_from_any _ _ _ (λ n. 1 < n) (λ n. n ≤ 1) c.any.ensures.ran
    (YieldsList-from_slice times cc)
    (λ x q k. search (rules, tests)) (λ x q k. search (rules, tests)))
