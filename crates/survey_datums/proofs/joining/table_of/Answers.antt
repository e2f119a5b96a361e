-- `survey_datums::joining::table_of` meets its contract.
use mathlib.Core.List.{map}
use Rattle.std.proofs.Common.{rules}
use Rattle.base_lists.specs.Parts.{up_to}
use Rattle.survey_datums.proofs.routing.Filling.{made_of}
use Rattle.survey_datums.specs.Datums.{joining, joining_table}
use Rattle.survey_datums.proofs.joining.table_of.Goals as goal

pub returns : goal.returns
unfolding joining_table
returns c =
    made_of _ _ (λ a. map (joining c.args.header.now a) (up_to 9)) 9 (λ i y q l k. search rules) _
    c.from_fn.ensures.items
