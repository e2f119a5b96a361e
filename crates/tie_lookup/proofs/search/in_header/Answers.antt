-- `tie_lookup::search::in_header` meets its contract.
use Prim.Native.Nat.{◌*◌}
use mathlib.Core.Path.{ap, ◌∙◌}
use lib.ListN.{length}
use native.Mathlib.Omega.{arith}
use Rattle.std.proofs.lemmas.List.{length_push}
use Rattle.header_check.specs.forms.Cards.{cards_in}
use Rattle.header_check.proofs.forms.Reading.{card_comes, cards_end}
use Rattle.tie_lookup.proofs.search.InHeader.{no_cards, times_few, times_more, only_next, all_found}
use Rattle.tie_lookup.proofs.search.in_header.Goals as goal

pub loop-place-init : goal.loop-place-init
loop-place-init c = no_cards _ _

pub with-found-requires : goal.with-found-requires
unfolding cards_in
with-found-requires c =
    let b = c.loop-place in
    let h = c.args.header.now in
    let k = length b.yielded in
    let t = card_comes c.into_iter-place-iterator.result h (cc) (cc) (cc) b.yielded _ b.yielded_by _ _ c.next.ensures.steps (c.in-Some.place, c.in-Some.card) c.in-Some.is in
    omega (arith, t.inside, b.invariant.0, times_few h c.args.number k, c.on_card-here.ensures.1)

pub loop-place-preserved : goal.loop-place-preserved
loop-place-preserved c =
    let b = c.loop-place in
    let h = c.args.header.now in
    let n = c.args.number in
    let k = length b.yielded in
    let t = card_comes c.into_iter-place-iterator.result h (cc) (cc) (cc) b.yielded _ b.yielded_by _ _ c.next.ensures.steps (c.in-Some.place, c.in-Some.card) c.in-Some.is in
    let on = c.on_card-here.ensures.0 in
    let w = c.with-found.ensures in
    rw (length_push b.yielded (c.in-Some.place, c.in-Some.card)) (
      w.number ∙ times_more h n k _ t.card_is c.on_card-here.result on _ b.invariant.0,
      only_next h n k _ t.card_is c.on_card-here.result on _ _ _ _ b.invariant.0 b.invariant.1 (ap (λ m. m * 80) t.place_is) w.only,
    )

pub returns : goal.returns
returns c =
    let b = c.loop-place in
    let h = c.args.header.now in
    let e = cards_end c.into_iter-place-iterator.result h (cc) (cc) (cc) b.yielded _ b.yielded_by _ _ c.next.ensures.steps c.in-None.is in
    all_found h c.args.number (length b.yielded) _ _ e b.invariant.0 b.invariant.1
