-- `survey_datums::routing::go_further` meets its contract.
use mathlib.Core.List.{[]}
use lib.ListN.{get_or}
use Rattle.std.proofs.Common.{rules}
use Rattle.survey_datums.proofs.routing.Filling.{made_of}
use Rattle.survey_datums.specs.routing.Tables.{further_by, further}
use Rattle.survey_datums.proofs.routing.go_further.Goals as goal

pub returns : goal.returns
unfolding further
returns c =
    let a = c.args in
    made_of _ _ (λ i. further_by (get_or a.table i []) a.shifts a.number (get_or a.shifts i 0)) 9
    (λ i y q l k. search rules) _ c.from_fn.ensures.items
