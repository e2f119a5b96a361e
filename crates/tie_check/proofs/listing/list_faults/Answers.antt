-- `tie_check::listing::list_faults` meets its contract.
use mathlib.Core.Path.{◌≡◌, refl}
use Rattle.header_laws.proofs.Accepted.{few-cards}
use Rattle.tie_check.specs.packed.Gathered.{gathered}
use Rattle.tie_check.specs.packed.Shared.{flagged_all}
use Rattle.tie_check.specs.packed.Asked.{Flagged}
use Rattle.tie_check.proofs.gather.Growing.{all_linked}
use Rattle.tie_check.proofs.flagging.Kept.{all_by}
use Rattle.tie_check.proofs.judging.Once.{all-flagged}
use Rattle.tie_check.proofs.listing.list_faults.Goals as goal

pub gather-requires : goal.gather-requires
gather-requires c =
    record {
      header_bound = few-cards c.args.header.now c.requires.header_value;
      noted = c.requires.noted;
      keys_value = refl;
      links_value = refl;
    }

pub flag_shared-requires : goal.flag_shared-requires
flag_shared-requires c =
    let h = c.args.header.now in
    record {
      cards_len = c.requires.noted.room;
      linked = rw (c.gather.ensures.keys, c.gather.ensures.links) (all_linked h (few-cards h c.requires.header_value));
    }

pub totals_of-totals-requires : goal.totals_of-totals-requires
totals_of-totals-requires c =
    let flags-are : c.flag_shared.new.cards ≡ flagged_all c.args.cards.now (gathered c.args.header.now) = (all_by (gathered c.args.header.now) _ _ _ _ c.gather.ensures.keys c.gather.ensures.links c.flag_shared.ensures) in
    let flags : Flagged c.args.header.now c.flag_shared.new.cards = (let h = c.args.header.now in
    rw (flags-are) (all-flagged h c.args.cards.now (few-cards h c.requires.header_value) c.requires.noted)) in
    record {
      header_bound = few-cards c.args.header.now c.requires.header_value;
      noted = (flags).noted;
      keys_value = c.gather.ensures.keys;
      links_value = c.gather.ensures.links;
    }

pub list_cards-requires : goal.list_cards-requires
list_cards-requires c =
    let flags-are : c.flag_shared.new.cards ≡ flagged_all c.args.cards.now (gathered c.args.header.now) = (all_by (gathered c.args.header.now) _ _ _ _ c.gather.ensures.keys c.gather.ensures.links c.flag_shared.ensures) in
    let flags : Flagged c.args.header.now c.flag_shared.new.cards = (let h = c.args.header.now in
    rw (flags-are) (all-flagged h c.args.cards.now (few-cards h c.requires.header_value) c.requires.noted)) in
    record {
      header_value = c.requires.header_value;
      flagged = flags;
      store_value = (c.gather.ensures.keys, c.gather.ensures.links);
      totals_value = c.totals_of-totals.ensures;
    }

pub returns : goal.returns
returns c =
    let flags-are : c.flag_shared.new.cards ≡ flagged_all c.args.cards.now (gathered c.args.header.now) = (all_by (gathered c.args.header.now) _ _ _ _ c.gather.ensures.keys c.gather.ensures.links c.flag_shared.ensures) in
    record {
      list = c.list_cards.ensures.list;
      number = c.list_cards.ensures.number;
      cards = flags-are;
    }
