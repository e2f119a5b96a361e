-- `survey_compass::serials::place_for` meets its contract.
use mathlib.Core.Path.{◌≡◌, ◌∙◌, ap}
use native.Mathlib.Omega.{arith}
use Rattle.std.specs.Prelude.{unwrap_or}
use Rattle.std.proofs.Common.{rules, tests}
use Rattle.std.proofs.lemmas.Iterator.Search.{position_from_yields_List}
use Rattle.base_lists.proofs.Finding.{first_le}
use Rattle.header_check.specs.forms.Cards.{card_at, cards_in}
use Rattle.tie_lookup.proofs.Cards.{YieldsList-from_cards}
use Rattle.tie_lookup.proofs.Ranges.{first_position_made}
use Rattle.survey_compass.specs.Serials.{is_for, is_for_at, place_for}
use Rattle.survey_compass.proofs.serials.place_for.Goals as goal

pub returns : goal.returns
unfolding place_for is_for_at cards_in
returns c =
    let h = c.args.header.now in
    let p = is_for c.args.serial.now in
    let place : c.unwrap_or.result ≡ place_for h c.args.serial.now =
    c.unwrap_or.ensures
    ∙ ap (λ r. unwrap_or r (cards_in h)) (position_from_yields_List p _ _ _ c.position.ensures.ran (YieldsList-from_cards h (cc) (cc)) (λ x b q k. search (rules, tests)))
    ∙ first_position_made p (card_at h) (cards_in h) in
    record { place = place; within = omega (arith, place, first_le (is_for_at h c.args.serial.now) (cards_in h)) }
