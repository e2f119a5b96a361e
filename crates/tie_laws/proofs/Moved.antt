-- Cards that change places, or of which some without ties are gone: every key has as many definitions as before, and every card
-- that stays the same faults at its new place.
use Prim.Native.Nat.{ℕ, ◌+◌, ◌*◌, ◌-◌, ◌/◌, ◌%◌, ◌<◌}
use native.Mathlib.Omega.{arith}
use mathlib.Core.Path.{◌≡◌, refl, sym, ap, ap₂, ◌∙◌}
use mathlib.Core.Logic.{◌↔◌}
use mathlib.Core.Bool.{Bool, true, false, ◌&&◌, true≢false}
use mathlib.Core.List.{List, [], ◌∷◌, Memᴰ}
use lib.Dec.{eqb}
use lib.ListN.{length, take}
use borrow.Author.Tests.{ne_eqb}
use Rattle.base_lists.specs.Count.{count, carried, Rearranged}
use Rattle.base_lists.specs.Parts.{alike}
use Rattle.base_lists.proofs.Moving.{Placed, all_stay, count-placed, spread}
use Rattle.header_check.specs.forms.Cards.{card_at, cards_in, layout_of}
use Rattle.tie_rules.specs.Ties.{defines, refers}
use Rattle.format_layout.specs.Names.{H0101}
use Rattle.tie_rules.specs.Keys.{class_at, key_at, holds_key, defines_key, vessel_of, contradict, whole_in}
use Rattle.tie_rules.specs.Definitions.{places, card_of, column_of, defined_at, definitions_of, place_of}
use Rattle.tie_rules.specs.Definitions.{contradictions_of, waypoint_at, waypoints_of, points_of}
use Rattle.tie_rules.specs.Faults.{definitions_at, undefined, redefined, ambiguous, contradicted, miscounted, kinds, broken_on, broken, on_card, triples, broken_at}
use Rattle.tie_laws.proofs.Complete.{list_of, Fault, listed_exactly, how_many}
use Rattle.tie_laws.proofs.Untied.{Untied, no_key, no_point, never_broken}
use Rattle.tie_laws.proofs.Places.{one_exactly, place_named, place-only, no_place_exactly}

-- h' is h with its cards at other places, some without ties gone
pub record Reordered (h h' : List ℕ) : Type 0 where
  pub stays : ℕ → Bool
  pub order : Placed stays (cards_in h) (cards_in h')
  pub same_card : (c : ℕ) → c < cards_in h → stays c ≡ true → card_at h' (order.to c) ≡ card_at h c
  pub gone : (c : ℕ) → c < cards_in h → stays c ≡ false → Untied (layout_of (card_at h c))

pub as_many_cards : (h h' : List ℕ) → length h' ≡ length h → cards_in h' ≡ cards_in h
unfolding cards_in
as_many_cards h h' same = ap (λ n. n / 80) same

-- where all stay
abbrev pub reordered : (h h' : List ℕ) (π : Rearranged (cards_in h)) → length h' ≡ length h
    → ((c : ℕ) → c < cards_in h → card_at h' (π.to c) ≡ card_at h c) → Reordered h h'
reordered h h' π same card = record {
  stays = λ c. true;
  order = all_stay (as_many_cards h h' same) π;
  same_card = λ c l t. card c l;
  gone = λ c l t. absurd (true≢false t);
}

back : (n : ℕ) → n + 1 - 1 ≡ n
back n = omega arith

module _ (h h' : List ℕ) (m : Reordered h h') where
  -- what is counted by card and column, where only columns that define a key are counted
  by_place : (g : List ℕ → ℕ → Bool) → ((s : List ℕ) (column : ℕ) → holds_key defines s column ≡ false → g s column ≡ false)
      → count (λ p. g (card_of h' p) (column_of p)) (places h') ≡ count (λ p. g (card_of h p) (column_of p)) (places h)
  unfolding places card_of column_of carried
  by_place g none = count-placed (spread 80 (omega arith) m.order)
      (λ p. g (card_of h p) (column_of p)) (λ p. g (card_of h' p) (column_of p))
      (λ p l t.
      let to : ℕ = m.order.to (p / 80) in
      let a : (80 * to + p % 80) / 80 ≡ to = omega arith in
      let b : (80 * to + p % 80) % 80 ≡ p % 80 = omega arith in
      rw (a, b, m.same_card (p / 80) (omega arith) t))
      (λ p l t. none (card_at h (p / 80)) (p % 80 + 1)
      (no_key (card_at h (p / 80)) (m.gone (p / 80) (omega arith) t) defines (p % 80 + 1) (omega arith)))

  -- a key has as many definitions, by those of another vessel too
  pub definitions_moved : (class : ℕ) (key : List ℕ) → definitions_of h' class key ≡ definitions_of h class key
  unfolding definitions_of defined_at defines_key
  definitions_moved class key = by_place (λ s column. defines_key s class key column) (λ s column e. rw e)

  pub contradictions_moved : (class : ℕ) (key : List ℕ) (vessel : ℕ)
      → contradictions_of h' class key vessel ≡ contradictions_of h class key vessel
  unfolding contradictions_of defined_at defines_key
  contradictions_moved class key vessel = by_place
      (λ s column. defines_key s class key column && contradict vessel (vessel_of s)) (λ s column e. rw e)

  -- a vessel as many waypoints, and the grid as many points
  pub waypoints_moved : (vessel : List ℕ) → waypoints_of h' vessel ≡ waypoints_of h vessel
  unfolding waypoints_of waypoint_at
  waypoints_moved vessel = by_place (λ s column.
      holds_key defines s column && (eqb (class_at defines s column) 7 && alike (take 1 (key_at defines s column)) vessel))
      (λ s column e. rw e)

  pub points-moved : points_of h' ≡ points_of h
  unfolding points_of
  points-moved = count-placed m.order
      (λ c. eqb (layout_of (card_at h c)) H0101) (λ c. eqb (layout_of (card_at h' c)) H0101)
      (λ c l t. ap (λ s. eqb (layout_of s) H0101) (m.same_card c l t))
      (λ c l t. ne_eqb (layout_of (card_at h c)) H0101 (no_point (layout_of (card_at h c)) (m.gone c l t)))

  -- so the same ties of a card are broken
  pub broken_on_moved : (s : List ℕ) (column kind : ℕ) → broken_on h' s column kind ≡ broken_on h s column kind
  unfolding broken_on undefined redefined ambiguous contradicted miscounted definitions_at
  broken_on_moved s column kind = rw (
    definitions_moved (class_at refers s column) (key_at refers s column),
    definitions_moved (class_at defines s column) (key_at defines s column),
    contradictions_moved (class_at refers s column) (key_at refers s column) (vessel_of s),
    waypoints_moved (whole_in 30 30 s),
    points-moved,
  )

  -- a card has the same faults at its new place
  pub broken-moved : (c column kind : ℕ) → c < cards_in h → m.stays c ≡ true → broken h' (m.order.to c) column kind ≡ broken h c column kind
  unfolding broken
  broken-moved c column kind l t = rw (m.same_card c l t) (broken_on_moved (card_at h c) column kind)

  -- one that is gone had none
  pub gone_unbroken : (c column kind : ℕ) → c < cards_in h → m.stays c ≡ false → broken h c column kind ≡ false
  unfolding broken
  gone_unbroken c column kind l t = never_broken (card_at h c) (m.gone c l t) h column kind

  pub fault_moved : (c column kind vessel : ℕ) → c < cards_in h → m.stays c ≡ true
      → Fault h (c + 1) column kind vessel ↔ Fault h' (m.order.to c + 1) column kind vessel
  fault_moved c column kind vessel l t = (
    λ f. record {
      first_card = omega arith;
      last_card = omega (arith, m.order.to_below c l t);
      first-column = f.first-column;
      last-column = f.last-column;
      first_kind = f.first_kind;
      last_kind = f.last_kind;
      is-broken = rw (back (m.order.to c)) (broken-moved c column kind l t ∙ rw (back c) at f.is-broken);
      is_vessel = rw (back (m.order.to c), m.same_card c l t) (rw (back c) at f.is_vessel);
    },
    λ f. record {
      first_card = omega arith;
      last_card = omega arith;
      first-column = f.first-column;
      last-column = f.last-column;
      first_kind = f.first_kind;
      last_kind = f.last_kind;
      is-broken = rw (back c) (sym (broken-moved c column kind l t) ∙ rw (back (m.order.to c)) at f.is-broken);
      is_vessel = rw (back c) (rw (back (m.order.to c), m.same_card c l t) at f.is_vessel);
    },
  )

  -- so an entry of the list keeps its column, kind and vessel
  pub entry-moved : (c column kind vessel : ℕ) → c < cards_in h → m.stays c ≡ true
      → Memᴰ ((c + 1) ∷ column ∷ kind ∷ vessel ∷ []) (list_of h)
      ↔ Memᴰ ((m.order.to c + 1) ∷ column ∷ kind ∷ vessel ∷ []) (list_of h')
  entry-moved c column kind vessel l t =
      let f = fault_moved c column kind vessel l t in
      let a = listed_exactly h (c + 1) column kind vessel in
      let b = listed_exactly h' (m.order.to c + 1) column kind vessel in
      (λ x. b.1 (f.0 (a.0 x)), λ x. a.1 (f.1 (b.0 x)))

  -- and the list as many entries
  pub as_many_faults : length (list_of h') ≡ length (list_of h)
  unfolding triples broken_at carried
  as_many_faults = how_many h' ∙ counted ∙ sym (how_many h)
    where
      counted : count (broken_at h') (triples h') ≡ count (broken_at h) (triples h)
      counted = count-placed (spread on_card (omega arith) m.order) (broken_at h) (broken_at h')
          (λ n l t.
          let to : ℕ = m.order.to (n / on_card) in
          let a : (on_card * to + n % on_card) / on_card ≡ to = omega arith in
          let b : (on_card * to + n % on_card) / kinds % 80 ≡ n / kinds % 80 = omega arith in
          let d : (on_card * to + n % on_card) % kinds ≡ n % kinds = omega arith in
          rw (a, b, d) (broken-moved (n / on_card) (n / kinds % 80 + 1) (n % kinds + 1) (omega arith) t))
          (λ n l t. gone_unbroken (n / on_card) (n / kinds % 80 + 1) (n % kinds + 1) (omega arith) t)

  -- a card that defines a key stays
  defining_stays : (class : ℕ) (key : List ℕ) (c column : ℕ) → c < cards_in h → column < 81
      → defines_key (card_at h c) class key column ≡ true → m.stays c ≡ true
  unfolding defines_key
  defining_stays class key c column l k e = go (m.stays c) refl
    where
      go : (b : Bool) → m.stays c ≡ b → b ≡ true
      go true q = refl
      go false q = absurd (true≢false (sym e ∙ rw (no_key (card_at h c) (m.gone c l q) defines column k)))

  -- the only definition of a key is found at its card's new place, and none where none was
  pub place-moved : (class : ℕ) (key : List ℕ) (c column : ℕ) → c < cards_in h
      → place_of h class key ≡ (c + 1) ∷ column ∷ [] → place_of h' class key ≡ (m.order.to c + 1) ∷ column ∷ []
  place-moved class key c column l e =
      let o = place-only h class key (c + 1) column (omega arith) e in
      let x = o.here in
      let t : m.stays c ≡ true = defining_stays class key c column l (omega (arith, x.last-column)) (rw (back c) at x.defines_it) in
      let one : definitions_of h' class key ≡ 1 = definitions_moved class key ∙ (one_exactly h class key).1 (c + 1, column, o) in
      let r = (one_exactly h' class key).0 one in
      let a : m.order.to c + 1 - 1 ≡ m.order.to c = omega arith in
      let b : c + 1 - 1 ≡ c = back c in
      let q = r.2.nowhere_else (m.order.to c + 1) column (record {
        first_card = omega arith;
        last_card = omega (arith, m.order.to_below c l t);
        first-column = x.first-column;
        last-column = x.last-column;
        defines_it = rw (a, m.same_card c l t) (rw b at x.defines_it);
      }) in
      place_named h' class key r.0 r.1 r.2 ∙ sym (ap₂ (λ i j. i ∷ j ∷ []) q.0 q.1)

  pub no_place-moved : (class : ℕ) (key : List ℕ) → place_of h class key ≡ 0 ∷ 0 ∷ [] → place_of h' class key ≡ 0 ∷ 0 ∷ []
  no_place-moved class key e =
      (no_place_exactly h' class key).1 (λ o. (no_place_exactly h class key).0 e (sym (definitions_moved class key) ∙ o))
