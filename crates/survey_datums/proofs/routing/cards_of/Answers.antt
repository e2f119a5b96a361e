-- `survey_datums::routing::cards_of` meets its contract.
use Prim.Native.Nat.{◌/◌, ◌%◌}
use Rattle.std.proofs.Common.{rules}
use Rattle.survey_datums.proofs.routing.Filling.{made_of}
use Rattle.survey_datums.specs.routing.Tables.{card_of, cards_of}
use Rattle.survey_datums.proofs.routing.cards_of.Goals as goal

pub returns : goal.returns
unfolding cards_of
returns c =
    made_of _ _ (λ i. card_of c.args.table (i / 8) (i % 8)) 72 (λ i y q l k. search rules) _ c.from_fn.ensures.items
