-- `survey_datums::find_routes` meets its contract.
use mathlib.Core.Path.{sym, ◌∙◌}
use Rattle.survey_datums.proofs.Answering.{told-refused}
use Rattle.survey_datums.proofs.find_routes.Goals as goal

pub routes_in-requires : goal.routes_in-requires
routes_in-requires c = sym c.check-checked.ensures ∙ c.in-Ok.is

pub returns-in-Err : goal.returns-in-Err
returns-in-Err c =
    told-refused c.args.header.now _ (sym c.check-checked.ensures ∙ c.in-Err.is) c.refused.result c.refused.ensures
