-- `tie_check::gather::gather` meets its contract: one card after the other.
use mathlib.Core.Path.{◌≡◌, sym, ap, ◌∙◌}
use lib.ListN.{length, get_or}
use native.Mathlib.Omega.{arith}
use Rattle.std.proofs.lemmas.List.{length_push}
use Rattle.header_check.specs.forms.Cards.{layout_of}
use Rattle.header_check.specs.packed.Noted.{layout_in}
use Rattle.header_check.proofs.forms.Reading.{card_comes, cards_end}
use Rattle.tie_check.specs.packed.Gathered.{gathered_to, gathered}
use Rattle.tie_check.specs.packed.Numbers.{tag_for}
use Rattle.tie_check.proofs.gather.Growing.{cards_well, card_more}
use Rattle.tie_check.proofs.gather.gather.Goals as goal

pub loop-place-init : goal.loop-place-init
unfolding gathered_to
loop-place-init c = (c.requires.keys_value, c.requires.links_value)

pub bounds-cards-place : goal.bounds-cards-place
bounds-cards-place c =
    let t = card_comes c.into_iter-place-iterator.result c.args.header.now (cc) (cc) (cc) c.loop-place.yielded _ c.loop-place.yielded_by _ _ c.next.ensures.steps (c.in-Some.place, c.in-Some.card) c.in-Some.is in
    omega (arith, t.inside, t.place_is, c.requires.header_bound, c.requires.noted.room)

pub tag_for-tag-requires : goal.tag_for-tag-requires
tag_for-tag-requires c =
    let n = length c.loop-place.yielded in
    let t = card_comes c.into_iter-place-iterator.result c.args.header.now (cc) (cc) (cc) c.loop-place.yielded _ c.loop-place.yielded_by _ _ c.next.ensures.steps (c.in-Some.place, c.in-Some.card) c.in-Some.is in
    let layout_is : c.layout_in-layout.result ≡ layout_of c.in-Some.card.now =
    c.layout_in-layout.ensures ∙ ap (λ i. layout_in (get_or c.args.cards.now i 0)) t.place_is ∙ c.requires.noted.layouts_are n t.inside
    ∙ ap layout_of (sym t.card_is) in
    (layout_is, omega (arith, t.inside, t.place_is, c.requires.header_bound))

pub gather_card-requires : goal.gather_card-requires
gather_card-requires c =
    let b = c.loop-place in
    let n = length b.yielded in
    let t = card_comes c.into_iter-place-iterator.result c.args.header.now (cc) (cc) (cc) c.loop-place.yielded _ c.loop-place.yielded_by _ _ c.next.ensures.steps (c.in-Some.place, c.in-Some.card) c.in-Some.is in
    let layout_is : c.layout_in-layout.result ≡ layout_of c.in-Some.card.now =
    c.layout_in-layout.ensures ∙ ap (λ i. layout_in (get_or c.args.cards.now i 0)) t.place_is ∙ c.requires.noted.layouts_are n t.inside
    ∙ ap layout_of (sym t.card_is) in
    let w = cards_well c.args.header.now n (omega (arith, t.inside, c.requires.header_bound)) in
    record {
      layout_value = layout_is;
      linked = rw (b.invariant.0, b.invariant.1) w.linked;
      on_card_bound = rw b.invariant.1 (omega (arith, w.few, t.inside, c.requires.header_bound));
    }

pub loop-place-preserved : goal.loop-place-preserved
loop-place-preserved c =
    let b = c.loop-place in
    let n = length b.yielded in
    let t = card_comes c.into_iter-place-iterator.result c.args.header.now (cc) (cc) (cc) c.loop-place.yielded _ c.loop-place.yielded_by _ _ c.next.ensures.steps (c.in-Some.place, c.in-Some.card) c.in-Some.is in
    rw (length_push b.yielded (c.in-Some.place, c.in-Some.card))
    (card_more c.args.header.now n _ _ _ _ _ _ t.card_is (c.tag_for-tag.ensures ∙ ap (tag_for c.in-Some.card.now) t.place_is)
    b.invariant.0 b.invariant.1 c.gather_card.ensures.keys c.gather_card.ensures.links)

pub returns : goal.returns
unfolding gathered
returns c =
    let b = c.loop-place in
    let h = c.args.header.now in
    let q = cards_end c.into_iter-place-iterator.result c.args.header.now (cc) (cc) (cc) c.loop-place.yielded _ c.loop-place.yielded_by _ _ c.next.ensures.steps c.in-None.is in
    record {
      keys = b.invariant.0 ∙ ap (λ i. (gathered_to h i).keys) q;
      links = b.invariant.1 ∙ ap (λ i. (gathered_to h i).links) q;
    }
