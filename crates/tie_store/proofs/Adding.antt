-- One entry more: what the arrays then hold, and that the chains stay linked.
-- Assumes nothing.
use mathlib.Core.Path.{◌≡◌, refl, sym, ap, ◌∙◌}
use mathlib.Core.List.{List}
use Prim.Native.Nat.{ℕ, zero, suc, ◌+◌, ◌≤◌, ◌<◌}
use native.Mathlib.Numerals.{add-one}
use native.Mathlib.Decide.{ℕ_discrete}
use native.Mathlib.Omega.{arith}
use borrow.Author.Tests.{eq-eqb, ne_eqb}
use lib.Dec.{eqb}
use lib.ListN.{length, get_or, set, replicate, length-set, length-replicate, get_or-replicate}
use lib.Seq.{get_or-set_same, get_or-set_other}
use Rattle.base_lists.specs.Count.{count}
use Rattle.base_lists.proofs.Counting.{count_hit, count_same}
use Rattle.tie_store.specs.Store.{
  room,
  buckets,
  next_from,
  times_from,
  tags_from,
  heads_from,
  link_room,
  bucket,
  count_in,
  next_at,
  times_at,
  tag_at,
  head_at,
  in_bucket,
  last,
  holds,
  Linked,
  keys_with,
  entry_with,
  head_with,
  links_with,
}
use Rattle.tie_store.proofs.Walking.{bucket_below, last_hit, last_miss}

-- as the arrays are made
pub no_entries : count_in (replicate link_room 0) ≡ 0
unfolding count_in
no_entries = get_or-replicate link_room 0 0 0 (omega arith)

pub zeros_linked : Linked (replicate room 0) (replicate link_room 0)
unfolding last head_at
zeros_linked = record {
  within = omega (arith, no_entries);
  keys-room = length-replicate {A = ℕ} room 0;
  links-room = length-replicate {A = ℕ} link_room 0;
  head-last = λ b h. get_or-replicate link_room (heads_from + b) 0 0 (omega arith) ∙ ap (last (in_bucket (replicate room 0) b)) (sym no_entries);
  next_last = λ i h. absurd (omega (arith, no_entries));
  times_are = λ i h. absurd (omega (arith, no_entries));
}

-- below the entry set nothing changes
module _ (keys : List ℕ) (n key : ℕ) where
  kept : (i : ℕ) → i < n → get_or (set keys n key) i 0 ≡ get_or keys i 0
  kept i h = get_or-set_other keys n i key 0 (λ e. omega arith)

  last-kept : (b m : ℕ) → m ≤ n → last (in_bucket (set keys n key) b) m ≡ last (in_bucket keys b) m
  unfolding last in_bucket
  last-kept b zero h = refl
  last-kept b (suc m) h = rw (kept m h, last-kept b m (omega arith))

  count_kept : (asked m : ℕ) → m ≤ n → count (holds (set keys n key) asked) m ≡ count (holds keys asked) m
  unfolding holds
  count_kept asked m h = count_same _ (holds keys asked) m (λ i k. ap (λ j. eqb j asked) (kept i (omega arith)))

-- what the links hold when an entry is set
module _ (links : List ℕ) (n tag times next : ℕ) (r : length links ≡ link_room) (h : n < room) where
  abbrev tagged : List ℕ
  tagged = set links (tags_from + n) tag

  abbrev timed : List ℕ
  timed = set tagged (times_from + n) times

  abbrev new : List ℕ
  new = entry_with links n tag times next

  tagged_room : length tagged ≡ link_room
  tagged_room = length-set links (tags_from + n) tag ∙ r

  timed_room : length timed ≡ link_room
  timed_room = length-set tagged (times_from + n) times ∙ tagged_room

  pub entry-room : length new ≡ link_room
  unfolding entry_with
  entry-room = length-set timed (next_from + n) next ∙ timed_room

  pub entry_tag : get_or new (tags_from + n) 0 ≡ tag
  unfolding entry_with
  entry_tag =
      get_or-set_other timed (next_from + n) (tags_from + n) next 0 (λ e. omega arith)
      ∙ get_or-set_other tagged (times_from + n) (tags_from + n) times 0 (λ e. omega arith)
      ∙ get_or-set_same links (tags_from + n) tag 0 (omega arith)

  pub entry_times : get_or new (times_from + n) 0 ≡ times
  unfolding entry_with
  entry_times =
      get_or-set_other timed (next_from + n) (times_from + n) next 0 (λ e. omega arith)
      ∙ get_or-set_same tagged (times_from + n) times 0 (omega (arith, tagged_room))

  pub entry_next : get_or new (next_from + n) 0 ≡ next
  unfolding entry_with
  entry_next = get_or-set_same timed (next_from + n) next 0 (omega (arith, timed_room))

  pub entry_other : (j : ℕ) → (j ≡ tags_from + n → ⊥) → (j ≡ times_from + n → ⊥) → (j ≡ next_from + n → ⊥) → get_or new j 0 ≡ get_or links j 0
  unfolding entry_with
  entry_other j a b c =
      get_or-set_other timed (next_from + n) j next 0 c
      ∙ get_or-set_other tagged (times_from + n) j times 0 b
      ∙ get_or-set_other links (tags_from + n) j tag 0 a

-- and when the heads are set
module _ (links : List ℕ) (n b : ℕ) (r : length links ≡ link_room) (h : b < buckets) where
  abbrev linked : List ℕ
  linked = set links (heads_from + b) (n + 1)

  abbrev headed : List ℕ
  headed = head_with links n b

  linked_room : length linked ≡ link_room
  linked_room = length-set links (heads_from + b) (n + 1) ∙ r

  pub head-room : length headed ≡ link_room
  unfolding head_with
  head-room = length-set linked 0 (n + 1) ∙ linked_room

  pub head-count : get_or headed 0 0 ≡ n + 1
  unfolding head_with
  head-count = get_or-set_same linked 0 (n + 1) 0 (omega (arith, linked_room))

  pub head_same : get_or headed (heads_from + b) 0 ≡ n + 1
  unfolding head_with
  head_same =
      get_or-set_other linked 0 (heads_from + b) (n + 1) 0 (λ e. omega arith)
      ∙ get_or-set_same links (heads_from + b) (n + 1) 0 (omega arith)

  pub head-other : (j : ℕ) → (j ≡ 0 → ⊥) → (j ≡ heads_from + b → ⊥) → get_or headed j 0 ≡ get_or links j 0
  unfolding head_with
  head-other j a c = get_or-set_other linked 0 j (n + 1) 0 a ∙ get_or-set_other links (heads_from + b) j (n + 1) 0 c

module _ (keys links : List ℕ) (l : Linked keys links) (h : count_in links < room) (key tag : ℕ) where
  abbrev n : ℕ
  n = count_in links

  abbrev times : ℕ
  times = count (holds keys key) n + 1

  abbrev middle : List ℕ
  middle = entry_with links n tag times (head_at links (bucket key))

  abbrev links' : List ℕ
  links' = links_with keys links key tag

  abbrev keys' : List ℕ
  keys' = set keys n key

  middle_room : length middle ≡ link_room
  middle_room = entry-room links n tag times (head_at links (bucket key)) l.links-room h

  -- all but the entry, its bucket's head and the number of entries stays as it was
  stays : (j : ℕ) → (j ≡ 0 → ⊥) → (j ≡ heads_from + bucket key → ⊥) → (j ≡ tags_from + n → ⊥) → (j ≡ times_from + n → ⊥)
      → (j ≡ next_from + n → ⊥) → get_or links' j 0 ≡ get_or links j 0
  unfolding links_with
  stays j a b c d e =
      head-other middle n (bucket key) middle_room (bucket_below key) j a b
      ∙ entry_other links n tag times (head_at links (bucket key)) l.links-room h j c d e

  pub entries_more : count_in links' ≡ n + 1
  unfolding links_with count_in
  entries_more = head-count middle n (bucket key) middle_room (bucket_below key)

  links_room' : length links' ≡ link_room
  unfolding links_with
  links_room' = head-room middle n (bucket key) middle_room (bucket_below key)

  -- the entry's own links, and its bucket's head
  head_new : get_or links' (heads_from + bucket key) 0 ≡ n + 1
  unfolding links_with
  head_new = head_same middle n (bucket key) middle_room (bucket_below key)

  next_new : get_or links' (next_from + n) 0 ≡ head_at links (bucket key)
  unfolding links_with
  next_new =
      head-other middle n (bucket key) middle_room (bucket_below key) (next_from + n) (λ e. omega arith) (λ e. omega (arith, e))
      ∙ entry_next links n tag times (head_at links (bucket key)) l.links-room h

  times_new : get_or links' (times_from + n) 0 ≡ times
  unfolding links_with
  times_new =
      head-other middle n (bucket key) middle_room (bucket_below key) (times_from + n) (λ e. omega arith) (λ e. omega (arith, e))
      ∙ entry_times links n tag times (head_at links (bucket key)) l.links-room h

  -- its tag, and those of the others
  pub tag_new : tag_at links' n ≡ tag
  unfolding links_with tag_at
  tag_new =
      head-other middle n (bucket key) middle_room (bucket_below key) (tags_from + n) (λ e. omega arith)
      (λ e. omega (arith, e))
      ∙ entry_tag links n tag times (head_at links (bucket key)) l.links-room h

  pub tag_kept : (i : ℕ) → i < n → tag_at links' i ≡ tag_at links i
  unfolding tag_at
  tag_kept i k = stays (tags_from + i) (λ e. omega arith) (λ e. omega (arith, e)) (λ e. omega (arith, e))
      (λ e. omega (arith, e)) (λ e. omega (arith, e))

  new_key : get_or keys' n 0 ≡ key
  new_key = get_or-set_same keys n key 0 (omega (arith, l.keys-room))

  in_new : (b : ℕ) → in_bucket keys' b n ≡ eqb (bucket key) b
  unfolding in_bucket
  in_new b = rw new_key

  head_more : (b : ℕ) → b < buckets → head_at links' b ≡ last (in_bucket keys' b) (count_in links')
  unfolding head_at
  head_more b k = elim (ℕ_discrete (bucket key) b) [
    | yes e ↦
        ap (λ j. get_or links' (heads_from + j) 0) (sym e)
        ∙ head_new
        ∙ add-one n
        ∙ sym (last_hit (in_bucket keys' b) n (in_new b ∙ eq-eqb (bucket key) b e))
        ∙ ap (last (in_bucket keys' b)) (sym (entries_more ∙ add-one n))
    | no e ↦
        stays (heads_from + b) (λ q. omega arith) (λ q. e (omega (arith, q))) (λ q. omega (arith, q)) (λ q. omega (arith, q))
        (λ q. omega (arith, q))
        ∙ l.head-last b k
        ∙ sym (last-kept keys n key b n (omega arith))
        ∙ sym (last_miss (in_bucket keys' b) n (in_new b ∙ ne_eqb _ _ e))
        ∙ ap (last (in_bucket keys' b)) (sym (entries_more ∙ add-one n))
  ]

  next_more : (i : ℕ) → i < count_in links' → next_at links' i ≡ last (in_bucket keys' (bucket (get_or keys' i 0))) i
  unfolding next_at
  next_more i k = elim (ℕ_discrete n i) [
    | yes e ↦ rw (← e, new_key)
        (next_new ∙ l.head-last (bucket key) (bucket_below key) ∙ sym (last-kept keys n key (bucket key) n (omega arith)))
    | no e ↦
        let j : i < n = omega (arith, k, entries_more) in
        stays (next_from + i) (λ q. omega arith) (λ q. omega (arith, q)) (λ q. omega (arith, q)) (λ q. omega (arith, q))
        (λ q. omega (arith, q))
        ∙ l.next_last i j
        ∙ rw (kept keys n key i j) (sym (last-kept keys n key _ i (omega arith)))
  ]

  -- the entry is counted with those that have its key
  with_it : count (holds keys' key) (n + 1) ≡ times
  unfolding holds
  with_it =
      count_hit (holds keys' key) n (eq-eqb _ _ new_key) ∙ ap (λ m. m + 1) (count_kept keys n key key n (omega arith))

  times_more : (i : ℕ) → i < count_in links' → times_at links' i ≡ count (holds keys' (get_or keys' i 0)) (i + 1)
  unfolding times_at
  times_more i k = elim (ℕ_discrete n i) [
    | yes e ↦ rw (← e, new_key) (times_new ∙ sym with_it)
    | no e ↦
        let j : i < n = omega (arith, k, entries_more) in
        stays (times_from + i) (λ q. omega arith) (λ q. omega (arith, q)) (λ q. omega (arith, q)) (λ q. omega (arith, q))
        (λ q. omega (arith, q))
        ∙ l.times_are i j
        ∙ rw (kept keys n key i j) (sym (count_kept keys n key _ (i + 1) (omega arith)))
  ]

  -- an entry more is linked
  pub linked_more : Linked (keys_with keys links key) (links_with keys links key tag)
  unfolding keys_with
  linked_more = record {
    within = omega (arith, entries_more);
    keys-room = length-set keys n key ∙ l.keys-room;
    links-room = links_room';
    head-last = head_more;
    next_last = next_more;
    times_are = times_more;
  }

-- what the code does, one store after the other
pub added : (keys links : List ℕ) (key tag n b before times : ℕ) (entered headed : List ℕ) → n ≡ count_in links → b ≡ bucket key
    → before ≡ count (holds keys key) (count_in links) → times ≡ before + 1
    → entered ≡ entry_with links n tag times (get_or links (heads_from + b) 0) → headed ≡ head_with entered n b
    → (set keys n key ≡ keys_with keys links key) × (headed ≡ links_with keys links key tag)
unfolding keys_with links_with head_at
added keys links key tag n b before times entered headed p q r t u v = (rw p, rw (v, u, t, r, q, p))
