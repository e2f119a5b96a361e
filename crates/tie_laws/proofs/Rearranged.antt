-- The cards behind the opening block of an accepted header in any other order: accepted too, the same faults on the same
-- cards, the same number of them.
use Prim.Native.Nat.{ℕ, ◌+◌, ◌<◌}
use mathlib.Core.Path.{◌≡◌, refl, sym, ◌∙◌}
use mathlib.Core.Logic.{◌↔◌}
use mathlib.Core.Bool.{true, true≢false}
use mathlib.Core.List.{List}
use lib.ListN.{length}
use Rattle.base_lists.specs.Count.{Rearranged}
use Rattle.header_check.specs.forms.Cards.{card_at, cards_in}
use Rattle.header_check.specs.Refusing.{refusal_of}
use Rattle.header_laws.proofs.Moved.{Moved, accepted-moved, accepted-opens, accepted_rearranged}
use Rattle.tie_laws.proofs.Complete.{list_of, Fault}
use Rattle.tie_laws.proofs.Moved.{Reordered, reordered, fault_moved, as_many_faults}
use Rattle.base_refusal.specs.Refusals.{no_refusal}

-- h' has the faults of h, each on its card at the card's new place, and no more of them
pub record Same-faults (h h' : List ℕ) (to : ℕ → ℕ) : Type 0 where
  pub on_cards : (c column kind vessel : ℕ) → c < cards_in h
      → Fault h (c + 1) column kind vessel ↔ Fault h' (to c + 1) column kind vessel
  pub as_many : length (list_of h') ≡ length (list_of h)

same_faults : (h h' : List ℕ) (r : Reordered h h') → ((c : ℕ) → c < cards_in h → r.stays c ≡ true) → Same-faults h h' r.order.to
same_faults h h' r all = record {
  on_cards = λ c column kind vessel l. fault_moved h h' r c column kind vessel l (all c l);
  as_many = as_many_faults h h' r;
}

-- cards behind the opening block that change places: accepted alike, with the same faults
pub moved-alike : (h h' : List ℕ) (m : Moved h h') → ((c : ℕ) → c < cards_in h → m.stays c ≡ true)
    → ((refusal_of h ≡ no_refusal) ↔ (refusal_of h' ≡ no_refusal)) × Same-faults h h' m.order.to
moved-alike h h' m all = (accepted-moved h h' m all, same_faults h h' r all)
  where
    r : Reordered h h'
    r = record {
      stays = m.stays;
      order = m.order;
      same_card = m.same_card;
      gone = λ c l t. absurd (true≢false (sym (all c l) ∙ t));
    }

-- any other order of the cards behind the block of an accepted header
pub rearranged_alike : (h h' : List ℕ) (a : refusal_of h ≡ no_refusal) (π : Rearranged (cards_in h)) → length h' ≡ length h
    → ((c : ℕ) → c < cards_in h → card_at h' (π.to c) ≡ card_at h c)
    → ((c : ℕ) → c < (accepted-opens h a).end → π.to c ≡ c)
    → (refusal_of h' ≡ no_refusal) × Same-faults h h' π.to
rearranged_alike h h' a π same card kept =
    (accepted_rearranged h h' a π same card kept, same_faults h h' (reordered h h' π same card) (λ c l. refl))
