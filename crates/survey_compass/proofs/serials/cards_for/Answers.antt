-- `survey_compass::serials::cards_for` meets its contract.
use mathlib.Core.Path.{◌∙◌}
use Rattle.std.proofs.Common.{rules, tests}
use Rattle.std.proofs.lemmas.Iterator.Consumers.{YieldsList-from_filter, count_from_yields_List}
use Rattle.header_check.specs.forms.Cards.{card_at, cards_in}
use Rattle.tie_lookup.proofs.Cards.{YieldsList-from_cards}
use Rattle.tie_lookup.proofs.Ranges.{length-filter_made}
use Rattle.survey_compass.specs.Serials.{is_for, is_for_at, cards_for}
use Rattle.survey_compass.proofs.serials.cards_for.Goals as goal

pub returns : goal.returns
unfolding cards_for is_for_at
returns c =
    let h = c.args.header.now in
    let p = is_for c.args.serial.now in
    count_from_yields_List c.filter.result _ c.count.ensures.ran
    (YieldsList-from_filter _ p (YieldsList-from_cards h (cc) (cc)) c.filter.ensures.closure (λ x b q k. search (rules, tests)))
    ∙ length-filter_made p (card_at h) (cards_in h)
