-- `tie_check::listing::list_cards` meets its contract.
use Prim.Native.Nat.{◌/◌}
use mathlib.Core.Path.{◌≡◌, refl, ap, ◌∙◌}
use mathlib.Core.List.{flat_map}
use lib.ListN.{length}
use native.Mathlib.Omega.{arith}
use Rattle.base_lists.specs.Parts.{up_to}
use Rattle.header_check.specs.forms.Cards.{cards_in}
use Rattle.tie_rules.specs.Faults.{faults}
use Rattle.tie_check.specs.packed.Stored.{stored_all}
use Rattle.tie_check.specs.packed.Listed.{card_entries, entries_to}
use Rattle.tie_check.proofs.entries.Stored.{length-stored-all}
use Rattle.tie_check.proofs.listing.Order.{all_laid, all_found}
use Rattle.tie_check.proofs.listing.Walked.{run_more}
use Rattle.tie_check.proofs.listing.list_cards.Goals as goal

pub loop-place-init : goal.loop-place-init
unfolding up_to flat_map stored_all
loop-place-init c = (omega arith, refl, refl)

pub list_card-found-requires : goal.list_card-found-requires
unfolding cards_in
list_card-found-requires c =
    let b = c.loop-place in
    record {
      header_value = c.requires.header_value;
      flagged = c.requires.flagged;
      store_value = c.requires.store_value;
      totals_value = c.requires.totals_value;
      place_bound = (omega (arith, c.loop-place-test.true), b.invariant.0);
    }

pub loop-place-preserved : goal.loop-place-preserved
loop-place-preserved c =
    let b = c.loop-place in
    let r = run_more (card_entries c.args.header.now) _ _ _ _ _ _ b.place b.invariant.1 b.invariant.2 c.list_card-found.ensures.list c.list_card-found.ensures.number in
    (omega (arith, b.invariant.0, c.list_card-found.ensures.few), r.0, r.1)

pub shape_of-list : goal.shape_of-list
shape_of-list c =
    let b = c.loop-place in
    ap length b.invariant.1 ∙ length-stored-all _ _ _

pub returns : goal.returns
unfolding cards_in entries_to
returns c =
    let b = c.loop-place in
    let h = c.args.header.now in
    let q : b.place ≡ length h / 80 = omega (arith, c.loop-place-test.false) in
    let g = card_entries h in
    let all : length (flat_map g (up_to b.place)) ≡ length (faults h) = ap (λ i. length (flat_map g (up_to i))) q ∙ all_found h in record {
      list = b.invariant.1 ∙ ap (λ i. stored_all c.args.list.now 0 (flat_map g (up_to i))) q ∙ all_laid h c.args.list.now;
      number = omega (arith, b.invariant.2, all);
    }
