-- `survey_datums::listing::list_routes` meets its contract.
use mathlib.Core.Path.{ap, ◌∙◌}
use Rattle.std.specs.Prelude.{Err}
use Rattle.std.proofs.lemmas.Result.{err_from_is_err_and}
use Rattle.survey_datums.proofs.Laying.{told-listed, refused-listed}
use Rattle.survey_datums.proofs.listing.list_routes.Goals as goal

pub returns-in_err-routes : goal.returns-in_err-routes
returns-in_err-routes c =
    let a = c.args in
    let r = c.find_routes-routes in
    let p = err_from_is_err_and c.from_residual.result c.from_residual.ensures.1 in
    let w = refused-listed a.header.now a.list.now r.result r.ensures _ c.in_err-routes.was in
    record { answer = p.1 ∙ ap Err p.2 ∙ w.0; list = w.1 }

pub returns : goal.returns
returns c =
    let a = c.args in
    let r = c.find_routes-routes in
    let w = told-listed a.header.now a.list.now r.result r.ensures c.in_ok-routes.was c.count_routed.result c.count_routed.ensures _ c.lay.ensures in
    record { answer = w.0; list = w.1 }
