-- `survey_datums::listing::lay` meets its contract.
use mathlib.Core.Path.{ap, ◌∙◌}
use Rattle.std.proofs.Common.{rules}
use Rattle.base_lists.specs.Laid.{laid}
use Rattle.survey_datums.proofs.routing.Filling.{made_of}
use Rattle.survey_datums.specs.Listing.{number_at}
use Rattle.survey_datums.proofs.Laying.{all_laid}
use Rattle.survey_datums.proofs.listing.lay.Goals as goal

pub returns : goal.returns
returns c =
    let a = c.args in
    let l = a.list.now in
    rw c.copy_from_slice.ensures.after
    (all_laid c.from_fn-numbers.result l c.room_in-room.result c.from_fn-numbers.ensures.items.long
    c.room_in-room.ensures.value
    ∙ ap (laid 9 l) (made_of _ _ (number_at a.shifts a.cards) 81 (λ i y q k r. search rules) _
    c.from_fn-numbers.ensures.items))
