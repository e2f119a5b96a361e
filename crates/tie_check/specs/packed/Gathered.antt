-- The store when the definitions of some cards of a header are gathered.
use Rattle.std.specs.Prelude.{ℕ, zero, suc, List, cond, eqb, get_or, replicate}
use Rattle.base_lists.specs.Count.{count}
use Rattle.header_check.specs.forms.Cards.{card_at, cards_in, layout_of}
use Rattle.tie_rules.specs.Ties.{tie_columns}
use Rattle.tie_store.specs.Store.{room, link_room, count_in, tag_at, keys_with, links_with}
use Rattle.tie_check.specs.packed.Numbers.{tag_for, Test, number_on}

-- the two arrays of the store
pub record Store : Type 0 where
  pub keys : List ℕ
  pub links : List ℕ

abbrev pub store : List ℕ → List ℕ → Store
store keys links = record { keys = keys; links = links }

-- the store with one definition more, if there is one
unfoldable pub with_number : Store → ℕ → ℕ → Store
with_number t number tag =
    cond (eqb number 0) t (store (keys_with t.keys t.links number) (links_with t.keys t.links number tag))

-- with those in the first columns of a card that can carry a tie
unfoldable pub with_slots : Store → List ℕ → ℕ → ℕ → Store
with_slots t s tag zero = t
with_slots t s tag (suc i) = with_number (with_slots t s tag i) (number_on s (get_or (tie_columns (layout_of s)) i 0)) tag

-- with those of the first cards of a header
unfoldable pub gathered_to : List ℕ → ℕ → Store
gathered_to h zero = store (replicate room 0) (replicate link_room 0)
gathered_to h (suc c) = with_slots (gathered_to h c) (card_at h c) (tag_for (card_at h c) c) 5

-- with all of them
unfoldable pub gathered : List ℕ → Store
gathered h = gathered_to h (cards_in h)

-- how many entries pass a test
unfoldable pub entries_passing : Test → Store → ℕ
entries_passing test t = count (λ i. test (get_or t.keys i 0) (tag_at t.links i)) (count_in t.links)
