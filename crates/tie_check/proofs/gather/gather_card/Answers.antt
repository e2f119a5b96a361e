-- `tie_check::gather::gather_card` meets its contract: one column after the other that can carry a tie.
use mathlib.Core.Path.{◌≡◌, refl, ap, ◌∙◌}
use native.Mathlib.Omega.{arith}
use Rattle.tie_store.specs.Store.{count_in}
use Rattle.tie_check.specs.packed.Gathered.{Store, store, with_slots}
use Rattle.tie_check.proofs.gather.Growing.{Well, slots_well, slot_room, number_is, slot_more, slot_rest}
use Rattle.tie_check.proofs.gather.gather_card.Goals as goal

pub loop-slot-init : goal.loop-slot-init
unfolding with_slots
loop-slot-init c = (refl, refl)

pub returns-then-row-eq0 : goal.returns-then-row-eq0
returns-then-row-eq0 c =
    let b = c.loop-slot in
    let t = store c.args.keys.now c.args.links.now in
    let e = slot_rest t c.args.card.now c.args.tag b.slot _ c.args.layout c.requires.layout_value c.tie_of-row.ensures c.if-row-eq0.true (omega (arith, c.loop-slot-test.true)) in
    record {
      keys = b.invariant.0 ∙ ap (λ (x : Store). x.keys) e;
      links = b.invariant.1 ∙ ap (λ (x : Store). x.links) e;
    }

pub gather_number-requires : goal.gather_number-requires
gather_number-requires c =
    let b = c.loop-slot in
    let t = store c.args.keys.now c.args.links.now in
    let n = count_in c.args.links.now in
    let k = c.args.card.now in
    let w : Well t n = record { linked = c.requires.linked; few = omega arith } in
    let u = slots_well t n w c.requires.on_card_bound k c.args.tag b.slot (omega (arith, c.loop-slot-test.true)) in
    let e = number_is t k c.args.tag b.slot _ c.args.layout c.requires.layout_value c.tie_of-row.ensures _ c.defined_by.ensures in
    record {
      linked = rw (b.invariant.0, b.invariant.1) u.linked;
      links_bound = rw b.invariant.1 (slot_room t n w c.requires.on_card_bound k c.args.tag b.slot c.loop-slot-test.true _ e);
    }

pub loop-slot-preserved : goal.loop-slot-preserved
loop-slot-preserved c =
    let b = c.loop-slot in
    let t = store c.args.keys.now c.args.links.now in
    let e = slot_more t c.args.card.now c.args.tag b.slot _ c.args.layout c.requires.layout_value c.tie_of-row.ensures _ _ _ _ _
    c.defined_by.ensures b.invariant.0 b.invariant.1 c.gather_number.ensures.keys
    c.gather_number.ensures.links in
    e

pub returns : goal.returns
returns c =
    let b = c.loop-slot in
    let t = store c.args.keys.now c.args.links.now in
    let q : b.slot ≡ 5 = omega (arith, c.loop-slot-test.false) in record {
      keys = b.invariant.0 ∙ ap (λ i. (with_slots t c.args.card.now c.args.tag i).keys) q;
      links = b.invariant.1 ∙ ap (λ i. (with_slots t c.args.card.now c.args.tag i).links) q;
    }
