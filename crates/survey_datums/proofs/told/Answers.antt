-- `survey_datums::told` meets its contract.
use mathlib.Core.Bool.{cond}
use lib.Dec.{ltb}
use lib.ListN.{get_or}
use Rattle.std.proofs.Common.{rules, tests}
use Rattle.survey_datums.proofs.routing.Filling.{made_of}
use Rattle.survey_datums.specs.packed.Ends.{told_by}
use Rattle.survey_datums.proofs.told.Goals as goal

pub returns : goal.returns
unfolding told_by
returns c =
    let a = c.args in
    made_of _ _ (λ i. cond (ltb 0 (get_or a.times i 0)) (get_or a.shifts i 0) 10) 9
    (λ i y q l k. search (rules, tests)) _ c.from_fn.ensures.items
