-- `survey_compass::for_serial` meets its contract.
-- the card lies within the header
use mir.ValLaws.{to_z-of_z}
use mir.Syntax.{w64}
use native.Mathlib.Omega.{arith}
use Rattle.header_check.proofs.forms.Steps.{card_part}
use Rattle.survey_compass.proofs.Listed.{length_part}
use Rattle.survey_compass.proofs.Told.{cards-refused, card_inside, card_told_lem}
use Rattle.survey_compass.proofs.for_serial.Goals as goal

pub returns-then-cards_for-ne1 : goal.returns-then-cards_for-ne1
returns-then-cards_for-ne1 c =
    cards-refused c.args.header.now c.args.serial.now c.args.raw c.args.direction _ c.cards_for.ensures c.if-cards_for-ne1.true _ c.refused.ensures

pub overflow_mul-from : goal.overflow_mul-from
overflow_mul-from c =
    let inside = card_inside c.args.header.now c.args.serial.now _ c.cards_for.ensures c.if-cards_for-ne1.false _ c.place_for-from.ensures.place in
    omega (arith, inside)

pub overflow_add-from : goal.overflow_add-from
overflow_add-from c =
    let inside = card_inside c.args.header.now c.args.serial.now _ c.cards_for.ensures c.if-cards_for-ne1.false _ c.place_for-from.ensures.place in
    omega (arith, inside)

pub slice_bounds-on_card-count : goal.slice_bounds-on_card-count
slice_bounds-on_card-count c =
    let inside = card_inside c.args.header.now c.args.serial.now _ c.cards_for.ensures c.if-cards_for-ne1.false _ c.place_for-from.ensures.place in
    omega (arith, inside)

pub slice_bounds-on_card-start : goal.slice_bounds-on_card-start
slice_bounds-on_card-start c =
    let inside = card_inside c.args.header.now c.args.serial.now _ c.cards_for.ensures c.if-cards_for-ne1.false _ c.place_for-from.ensures.place in
    omega (arith, inside)

pub slice_bounds-on_card-end : goal.slice_bounds-on_card-end
slice_bounds-on_card-end c =
    let inside = card_inside c.args.header.now c.args.serial.now _ c.cards_for.ensures c.if-cards_for-ne1.false _ c.place_for-from.ensures.place in
    omega (arith, inside)

pub on_card-requires : goal.on_card-requires
on_card-requires c =
    let inside = card_inside c.args.header.now c.args.serial.now _ c.cards_for.ensures c.if-cards_for-ne1.false _ c.place_for-from.ensures.place in
    length_part c.args.header.now c.place_for-from.result inside

pub returns : goal.returns
returns c =
    card_told_lem c.args.header.now c.args.serial.now c.args.raw c.args.direction _ (to_z-of_z w64 c.args.direction c.ranges.direction)
    _ c.cards_for.ensures c.if-cards_for-ne1.false c.place_for-from.result c.place_for-from.ensures.place _ (card_part c.args.header.now c.place_for-from.result) _ c.on_card.ensures
