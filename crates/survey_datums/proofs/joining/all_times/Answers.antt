-- `survey_datums::joining::all_times` meets its contract.
use Rattle.std.proofs.Common.{rules}
use Rattle.survey_datums.proofs.routing.Filling.{made_of}
use Rattle.survey_datums.specs.Datums.{times_defined}
use Rattle.survey_datums.proofs.joining.all_times.Goals as goal

pub returns : goal.returns
returns c =
    made_of _ _ (times_defined c.args.header.now) 9 (λ i y q l k. search rules) _ c.from_fn.ensures.items
