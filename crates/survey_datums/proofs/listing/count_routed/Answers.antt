-- `survey_datums::listing::count_routed` meets its contract.
use mathlib.Core.Path.{◌∙◌}
use lib.Dec.{ltb}
use Rattle.std.proofs.Common.{rules, tests}
use Rattle.std.proofs.lemmas.Iterator.{YieldsList-from_slice}
use Rattle.std.proofs.lemmas.Iterator.Consumers.{YieldsList-at, YieldsList-from_filter, count_from_yields_List}
use Rattle.survey_datums.proofs.Laying.{routed_passing}
use Rattle.survey_datums.proofs.listing.count_routed.Goals as goal

pub returns : goal.returns
returns c =
    let w = c.args.shifts in
    count_from_yields_List c.filter.result _ c.count.ensures.ran
    (YieldsList-from_filter _ (λ x. ltb x 9) (YieldsList-at c.filter.ensures.source (YieldsList-from_slice w cc))
    c.filter.ensures.closure
    (λ x r q k. search (rules, tests)))
    ∙ routed_passing w c.well_formed.0.1.0.1
