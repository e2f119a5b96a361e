-- Cards without ties are gone and the others close up: the list is that of the whole, each entry with its card's new number.
use Prim.Native.Nat.{ℕ, ◌+◌, ◌/◌, ◌%◌, ◌<◌}
use mathlib.Core.Path.{◌≡◌, refl, sym, ap, ◌∙◌}
use mathlib.Core.Bool.{true, false}
use mathlib.Core.List.{List, [], ◌∷◌, map, map-map, flat_map}
use Rattle.base_lists.specs.Count.{count}
use Rattle.base_lists.specs.Parts.{kept, up_to}
use Rattle.base_lists.proofs.Keeping.{kept_same}
use Rattle.base_lists.proofs.Moving.{count-placed}
use Rattle.base_lists.proofs.Counting.{count-all}
use Rattle.base_lists.proofs.Taking.{flat_closed}
use Rattle.header_check.specs.forms.Cards.{card_at, cards_in, layout_of}
use Rattle.tie_rules.specs.Faults.{kinds}
use Rattle.tie_rules.proofs.columns.Tied.{none_kept}
use Rattle.tie_laws.proofs.Complete.{list_of}
use Rattle.tie_laws.proofs.CardByCard.{sites_of, broken_site, site_entry, entries_on, map-flat_map, map_same, card_by_card}
use Rattle.tie_laws.proofs.Moved.{Reordered, broken-moved, gone_unbroken}

-- `new` gives an entry its card's new number, the number of cards before it that stay
module _ (h h' : List ℕ) (m : Reordered h h') (closed : (c : ℕ) → m.order.to c ≡ count m.stays c)
    (new : List ℕ → List ℕ) (renumbers : (c : ℕ) (rest : List ℕ) → new ((c + 1) ∷ rest) ≡ (m.order.to c + 1) ∷ rest) where
  cards_left : cards_in h' ≡ count m.stays (cards_in h)
  cards_left =
      sym (count-all (λ c. true) (cards_in h') (λ c l. refl))
      ∙ count-placed m.order m.stays (λ c. true) (λ c l t. sym t) (λ c l t. t)

  -- a card that stays has its entries
  on_card_lem : (c : ℕ) → c < cards_in h → m.stays c ≡ true → entries_on h' (count m.stays c) ≡ map new (entries_on h c)
  unfolding entries_on
  on_card_lem c l t =
      rw (← closed c, m.same_card c l t)
      (ap (map (site_entry h' (m.order.to c)))
      (kept_same (broken_site h' (m.order.to c)) (broken_site h c) (sites_of (layout_of (card_at h c)))
      (λ i x. broken-moved h h' m c (i / kinds + 1) (i % kinds + 1) l t))
      ∙ map_same (site_entry h' (m.order.to c)) (λ i. new (site_entry h c i)) sites
      (λ i x. rw (m.same_card c l t) (sym (renumbers c _)))
      ∙ sym (map-map new (site_entry h c) sites))
    where
      sites : List ℕ
      sites = kept (broken_site h c) (sites_of (layout_of (card_at h c)))

  -- one that is gone had none
  off_card : (c : ℕ) → c < cards_in h → m.stays c ≡ false → map new (entries_on h c) ≡ []
  unfolding entries_on
  off_card c l t = rw (none_kept (broken_site h c) (λ i. gone_unbroken h h' m c (i / kinds + 1) (i % kinds + 1) l t) (sites_of (layout_of (card_at h c))))

  pub list_taken : list_of h' ≡ map new (list_of h)
  list_taken =
      card_by_card h'
      ∙ ap (λ n. flat_map (entries_on h') (up_to n)) cards_left
      ∙ flat_closed m.stays (entries_on h') (λ c. map new (entries_on h c)) (cards_in h) on_card_lem off_card
      ∙ sym (map-flat_map new (entries_on h) (up_to (cards_in h)))
      ∙ ap (map new) (sym (card_by_card h))
