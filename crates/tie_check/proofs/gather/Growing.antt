-- One definition more, one card more: the store stays linked, and its entries are the definitions.
use Prim.Native.Nat.{ℕ, zero, suc, ◌+◌, ◌*◌, ◌/◌, ◌%◌, ◌≤◌, ◌<◌}
use native.Mathlib.Nat.{add-zero, add_assoc}
use native.Mathlib.Numerals.{add-one}
use native.Mathlib.Decide.{ℕ_discrete, dec_lt}
use native.Mathlib.Omega.{arith}
use mathlib.Core.Path.{◌≡◌, sym, ap, ◌∙◌}
use mathlib.Core.Bool.{Bool, true, false, not}
use mathlib.Core.List.{List}
use lib.Dec.{eqb}
use lib.ListN.{get_or, replicate}
use lib.Seq.{get_or-set_same, get_or-set_other}
use borrow.Author.Tests.{eq-eqb, ne_eqb}
use Rattle.base_lists.specs.Count.{bit, count}
use Rattle.base_lists.proofs.Counting.{count_le, count_more, count_hit, count_miss, count_split, count_mono, count_same, count_run}
use Rattle.format_layout.specs.Names.{H22X0}
use Rattle.header_check.specs.forms.Cards.{card_at, cards_in, layout_of}
use Rattle.header_check.specs.Refusing.{largest}
use Rattle.tie_rules.proofs.packing.Steps.{none-packed}
use Rattle.tie_rules.specs.Ties.{Tie, defines, can_tie, tie_columns}
use Rattle.tie_rules.specs.Keys.{class_at, key_in, key_at}
use Rattle.tie_rules.specs.packed.Numbers.{packed}
use Rattle.tie_rules.specs.packed.Rows.{tie_row, definition_in, found_in, packed_by}
use Rattle.tie_rules.proofs.keys.Table.{definition_found, row_is, column_low, no_row}
use Rattle.tie_rules.proofs.columns.Tied.{none_at_zero, idle, Idle, none-behind, no_fifth, first_of_five}
use Rattle.tie_store.specs.Store.{on_card, room, link_room, count_in, tag_at, keys_with, links_with, Linked}
use Rattle.tie_store.proofs.Adding.{no_entries, zeros_linked, linked_more, tag_new, tag_kept, entries_more}
use Rattle.tie_check.specs.packed.Numbers.{tag_for, Test, Sparing, number_on, number_at, column_passes, passing}
use Rattle.tie_check.specs.packed.Gathered.{Store, store, with_number, with_slots, gathered_to, gathered, entries_passing}
use Rattle.tie_check.proofs.gather.Slots.{by_slots}

-- a store whose entries are linked, and are no more than some
pub record Well (t : Store) (most : ℕ) : Type 0 where
  pub linked : Linked t.keys t.links
  pub few : count_in t.links ≤ most

-- no definition
pub no_number : (t : Store) (number tag : ℕ) → number ≡ 0 → with_number t number tag ≡ t
unfolding with_number
no_number t number tag e = rw (eq-eqb number 0 e)

pub a_number : (t : Store) (number tag : ℕ) → (number ≡ 0 → ⊥)
    → with_number t number tag ≡ store (keys_with t.keys t.links number) (links_with t.keys t.links number tag)
unfolding with_number
a_number t number tag z = rw (ne_eqb number 0 z)

-- a bound may be a larger one
wider : (t : Store) (few most : ℕ) → few ≤ most → Well t few → Well t most
wider t few most l w = record { linked = w.linked; few = omega (arith, w.few) }

-- one number more, for which there is room if it is a key's
module _ (t : Store) (most : ℕ) (w : Well t most) (number tag : ℕ) (h : (number ≡ 0 → ⊥) → most < room) where
  below : (number ≡ 0 → ⊥) → count_in t.links < room
  below e = omega (arith, w.few, h e)

  pub number_well : Well (with_number t number tag) (most + bit (not (eqb number 0)))
  number_well = elim (ℕ_discrete number 0) [
    | yes e ↦ rw (no_number t number tag e, eq-eqb number 0 e) (wider t most (most + 0) (omega arith) w)
    | no e ↦ rw (a_number t number tag e, ne_eqb number 0 e) (record {
      linked = linked_more t.keys t.links w.linked (below e) number tag;
      few = omega (arith, w.few, entries_more t.keys t.links w.linked (below e) number tag);
    })
  ]

  -- one entry more
  passes_more : (test : Test) → (count_in t.links < room) → entries_passing test (store (keys_with t.keys t.links number) (links_with t.keys t.links number tag))
      ≡ entries_passing test t + bit (test number tag)
  unfolding entries_passing keys_with
  passes_more test below =
      let n = count_in t.links in
      let links = links_with t.keys t.links number tag in
      rw (
        entries_more t.keys t.links w.linked below number tag,
        count_more (λ i. test (get_or (keys_with t.keys t.links number) i 0) (tag_at links i)) n,
        get_or-set_same t.keys n number 0 (omega (arith, below, w.linked.keys-room)),
        tag_new t.keys t.links w.linked below number tag,
        count_same _ (λ i. test (get_or t.keys i 0) (tag_at t.links i)) n kept,
      )
    where
      kept : (i : ℕ) → i < count_in t.links
          → test (get_or (keys_with t.keys t.links number) i 0) (tag_at (links_with t.keys t.links number tag) i)
          ≡ test (get_or t.keys i 0) (tag_at t.links i)
      kept i l = rw (
        get_or-set_other t.keys (count_in t.links) i number 0 (λ e. omega arith),
        tag_kept t.keys t.links w.linked below number tag i l,
      )

  pub number_passes : (test : Test) → Sparing test
      → entries_passing test (with_number t number tag) ≡ entries_passing test t + bit (test number tag)
  number_passes test sparing = elim (ℕ_discrete number 0) [
    | yes e ↦ rw (no_number t number tag e, e, sparing tag) (sym (add-zero (entries_passing test t)))
    | no e ↦ rw (a_number t number tag e) (passes_more test (below e))
  ]

-- a column that cannot carry a tie defines nothing
pub idle_number : (s : List ℕ) (column : ℕ) → can_tie (layout_of s) column ≡ false → number_on s column ≡ 0
unfolding number_on packed_by class_at key_at
idle_number s column h =
    let i : Idle s column = idle s column h in
    rw (i.class defines, i.key defines) (none-packed 0)

-- the column of a slot of a card defines a key
abbrev keyed : List ℕ → ℕ → Bool
keyed s i = not (eqb (number_on s (get_or (tie_columns (layout_of s)) i 0)) 0)

-- at most four slots of a card do: where there are five columns, the first defines nothing
first-none : (s : List ℕ) → layout_of s ≡ H22X0 → number_on s (get_or (tie_columns (layout_of s)) 0 0) ≡ 0
unfolding number_on packed_by key_in
first-none s e =
    ap (λ k. packed_by defines k s (get_or (tie_columns k) 0 0)) e
    ∙ ap (λ (t : Tie). packed t.class (key_in t.source s)) first_of_five
    ∙ none-packed 0

pub four_keyed : (s : List ℕ) → count (keyed s) 5 ≤ on_card
four_keyed s = elim (ℕ_discrete (layout_of s) H22X0) [
  | yes e ↦
      let z : keyed s 0 ≡ false = ap not (eq-eqb _ 0 (first-none s e)) in
      omega (arith, count_split (keyed s) 1 4, count_miss (keyed s) 0 z, count_le (keyed s) 0, count_le (λ i. keyed s (1 + i)) 4)
  | no e ↦
      let n = ap (number_on s) (no_fifth (layout_of s) e) ∙ idle_number s 0 (none_at_zero (layout_of s)) in
      let z : keyed s 4 ≡ false = ap not (eq-eqb _ 0 n) in
      omega (arith, count_miss (keyed s) 4 z, count_le (keyed s) 4)
]

-- the columns of a card that can carry a tie, one after the other
module _ (t : Store) (most : ℕ) (w : Well t most) (h : most + on_card ≤ room) (s : List ℕ) (tag : ℕ) where
  room_left : (i : ℕ) → i < 5 → (number_on s (get_or (tie_columns (layout_of s)) i 0) ≡ 0 → ⊥) → most + count (keyed s) i < room
  room_left i l e =
      let k : keyed s i ≡ true = ap not (ne_eqb _ 0 e) in
      omega (arith, h, count_hit (keyed s) i k, count_mono (keyed s) (i + 1) 5 (omega arith), four_keyed s)

  pub slots_well : (i : ℕ) → i ≤ 5 → Well (with_slots t s tag i) (most + count (keyed s) i)
  unfolding with_slots count
  slots_well zero l = rw (add-zero most) w
  slots_well (suc i) l =
      let e : most + (count (keyed s) i + bit (keyed s i)) ≡ most + count (keyed s) i + bit (keyed s i) = omega arith in
      rw e (number_well (with_slots t s tag i) (most + count (keyed s) i) (slots_well i (omega arith)) _ tag (room_left i l))

  -- there is room for what a slot defines
  pub slot_room : (i : ℕ) → i < 5 → (number : ℕ) → number ≡ number_on s (get_or (tie_columns (layout_of s)) i 0) → (number ≡ 0 → ⊥)
      → count_in (with_slots t s tag i).links < room
  slot_room i l number e z = omega (arith, (slots_well i (omega arith)).few, room_left i l (λ q. z (e ∙ q)))

  pub card_well : Well (with_slots t s tag 5) (most + on_card)
  card_well = wider _ _ _ (omega (arith, four_keyed s)) (slots_well 5 (omega arith))

  pub slots_pass : (test : Test) → Sparing test → (i : ℕ) → i ≤ 5 → entries_passing test (with_slots t s tag i)
      ≡ entries_passing test t + count (λ j. column_passes s tag (get_or (tie_columns (layout_of s)) j 0) test) i
  unfolding with_slots count column_passes
  slots_pass test sparing zero l = sym (add-zero (entries_passing test t))
  slots_pass test sparing (suc i) l =
      number_passes (with_slots t s tag i) (most + count (keyed s) i) (slots_well i (omega arith)) _ tag (room_left i l) test sparing
      ∙ rw (slots_pass test sparing i (omega arith)) (add_assoc _ _ _)

-- behind a slot without a column there is nothing
pub rest_slots : (t : Store) (s : List ℕ) (tag slot : ℕ) → get_or (tie_columns (layout_of s)) slot 0 ≡ 0 → (n : ℕ) → slot ≤ n
    → with_slots t s tag n ≡ with_slots t s tag slot
unfolding with_slots
rest_slots t s tag slot e zero l = let q : slot ≡ 0 = omega arith in ap (with_slots t s tag) (sym q)
rest_slots t s tag slot e (suc n) l = elim (dec_lt n slot) [
  | yes k ↦ let q : slot ≡ suc n = omega arith in ap (with_slots t s tag) (sym q)
  | no k ↦
      let z = none-behind (layout_of s) slot e n (omega arith) in
      let none = ap (number_on s) z ∙ idle_number s 0 (none_at_zero (layout_of s)) in
      no_number (with_slots t s tag n) _ tag none ∙ rest_slots t s tag slot e n (omega arith)
]

-- a column that cannot carry a tie passes no test
idles : (s : List ℕ) (tag : ℕ) (test : Test) → Sparing test → (column : ℕ) → can_tie (layout_of s) column ≡ false
    → column_passes s tag column test ≡ false
unfolding column_passes
idles s tag test sparing column e = rw (idle_number s column e) (sparing tag)

-- one card more
passing_more : (test : Test) → Sparing test → (h : List ℕ) (c : ℕ) → passing test h (80 * (c + 1)) ≡ passing test h (80 * c)
    + count (λ j. column_passes (card_at h c) (tag_for (card_at h c) c) (get_or (tie_columns (layout_of (card_at h c))) j 0) test) 5
unfolding passing number_at column_passes
passing_more test sparing h c =
    count_run (λ p. test (number_at h p) (tag_for (card_at h (p / 80)) (p / 80))) 80 c
    ∙ ap (λ n. passing test h (80 * c) + n)
    (count_same _ (λ j. column_passes s tag (j + 1) test) 80 same
    ∙ by_slots (layout_of s) (λ column. column_passes s tag column test) (idles s tag test sparing))
  where
    s : List ℕ
    s = card_at h c

    tag : ℕ
    tag = tag_for s c

    same : (j : ℕ) → j < 80 → test (number_at h (80 * c + j)) (tag_for (card_at h ((80 * c + j) / 80)) ((80 * c + j) / 80))
        ≡ column_passes s tag (j + 1) test
    same j l =
        let a : (80 * c + j) / 80 ≡ c = omega arith in
        let b : (80 * c + j) % 80 ≡ j = omega arith in
        rw (a, b)

-- no card
none_pass : (test : Test) (h : List ℕ) → entries_passing test (store (replicate room 0) (replicate link_room 0)) ≡ passing test h 0
unfolding entries_passing passing count
none_pass test h = rw no_entries

module _ (h : List ℕ) where
  pub cards_well : (c : ℕ) → c ≤ largest → Well (gathered_to h c) (on_card * c)
  unfolding gathered_to
  cards_well zero l = record { linked = zeros_linked; few = omega (arith, no_entries) }
  cards_well (suc c) l =
      let e : on_card * suc c ≡ on_card * c + on_card = omega arith in
      rw e (card_well (gathered_to h c) (on_card * c) (cards_well c (omega arith)) (omega arith) (card_at h c) (tag_for (card_at h c) c))

  cards_pass : (test : Test) → Sparing test → (c : ℕ) → c ≤ largest → entries_passing test (gathered_to h c) ≡ passing test h (80 * c)
  unfolding gathered_to
  cards_pass test sparing zero l = none_pass test h
  cards_pass test sparing (suc c) l =
      slots_pass (gathered_to h c) (on_card * c) (cards_well c (omega arith)) (omega arith) (card_at h c) (tag_for (card_at h c) c) test sparing 5 (omega arith)
      ∙ rw (cards_pass test sparing c (omega arith))
      (sym (passing_more test sparing h c) ∙ ap (λ n. passing test h (80 * n)) (add-one c))

  -- what the walk over the cards does at one
  pub card_more : (c tag : ℕ) (s keys links keys' links' : List ℕ) → s ≡ card_at h c → tag ≡ tag_for s c
      → keys ≡ (gathered_to h c).keys → links ≡ (gathered_to h c).links → keys' ≡ (with_slots (store keys links) s tag 5).keys
      → links' ≡ (with_slots (store keys links) s tag 5).links
      → (keys' ≡ (gathered_to h (c + 1)).keys) × (links' ≡ (gathered_to h (c + 1)).links)
  unfolding gathered_to
  card_more c tag s keys links keys' links' e d p q u w = rw (add-one c) (u ∙ rw (d, p, q, e), w ∙ rw (d, p, q, e))

  -- all of them
  module _ (few : cards_in h ≤ largest) where
    pub all_linked : Linked (gathered h).keys (gathered h).links
    unfolding gathered
    all_linked = (cards_well (cards_in h) few).linked

    pub all_pass : (test : Test) → Sparing test → entries_passing test (gathered h) ≡ passing test h (80 * cards_in h)
    unfolding gathered
    all_pass test sparing = cards_pass test sparing (cards_in h) few

-- what the walk over a card's columns does at a slot
module _ (t : Store) (s : List ℕ) (tag slot row layout : ℕ) (is : layout ≡ layout_of s) (found : row ≡ tie_row layout (slot + 1)) where
  abbrev column : ℕ
  column = get_or (tie_columns layout) slot 0

  pub number_is : (number : ℕ) → number ≡ found_in (definition_in row) s → number ≡ number_on s (get_or (tie_columns (layout_of s)) slot 0)
  unfolding number_on
  number_is number e =
      e
      ∙ ap (λ r. found_in (definition_in r) s) (row_is layout slot row found)
      ∙ definition_found layout column (column_low layout slot row found) s
      ∙ ap (λ k. packed_by defines k s (get_or (tie_columns k) slot 0)) is

  pub slot_more : (keys links keys' links' : List ℕ) (number : ℕ) → number ≡ found_in (definition_in row) s
      → keys ≡ (with_slots t s tag slot).keys → links ≡ (with_slots t s tag slot).links
      → keys' ≡ (with_number (store keys links) number tag).keys → links' ≡ (with_number (store keys links) number tag).links
      → (keys' ≡ (with_slots t s tag (slot + 1)).keys) × (links' ≡ (with_slots t s tag (slot + 1)).links)
  unfolding with_slots
  slot_more keys links keys' links' number e p q u w =
      let n = number_is number e in
      rw (add-one slot) (u ∙ rw (p, q, n), w ∙ rw (p, q, n))

  -- a slot without a row is behind the last
  pub slot_rest : row ≡ 0 → slot ≤ 5 → with_slots t s tag slot ≡ with_slots t s tag 5
  slot_rest z l =
      let e : get_or (tie_columns (layout_of s)) slot 0 ≡ 0 =
      ap (λ k. get_or (tie_columns k) slot 0) (sym is) ∙ no_row layout slot row found z in
      sym (rest_slots t s tag slot e 5 l)
