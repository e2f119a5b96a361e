-- `header_check::check_noting` meets its contract.
use native.Mathlib.Omega.{arith}
use Rattle.header_check.specs.forms.Cards.{cards_in}
use Rattle.header_check.proofs.forms.Layouts.{all_noted}
use Rattle.header_check.proofs.check_noting.Goals as goal

pub check_cards-requires : goal.check_cards-requires
unfolding cards_in
check_cards-requires c =
    record {
      noted = all_noted c.args.header.now _ c.requires _ _ c.notes_of-notes.ensures.cards (omega arith);
      header_bound = omega arith;
      notes_value = c.notes_of-notes.ensures.forms;
    }
