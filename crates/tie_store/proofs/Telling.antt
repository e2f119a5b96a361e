-- What is told of a key, by the last entry that has it.
-- Assumes nothing.
use mathlib.Core.Path.{◌≡◌, sym, ◌∙◌}
use mathlib.Core.List.{List}
use Prim.Native.Nat.{ℕ, ◌+◌, ◌-◌, ◌<◌}
use native.Mathlib.Omega.{arith}
use borrow.Author.Tests.{eq-eqb, ne_eqb}
use lib.ListN.{get_or}
use Rattle.base_lists.specs.Count.{count}
use Rattle.tie_store.specs.declared.Told.{Told}
use Rattle.tie_store.specs.Store.{
  room,
  times_from,
  tags_from,
  count_in,
  times_at,
  tag_at,
  holds,
  last,
  no_tag,
  nothing_told,
  told_of,
  Linked,
}
use Rattle.tie_store.proofs.Walking.{last_le}
use Rattle.tie_store.proofs.Only.{none-counted, times_found, not_one, one}

module _ (keys links : List ℕ) (key : ℕ) where
  pub told_none : key ≡ 0 → nothing_told ≡ told_of keys links key
  unfolding told_of
  told_none e = rw (eq-eqb key 0 e)

  module _ (l : Linked keys links) (some : (key ≡ 0 → ⊥)) (link : ℕ) (e : link ≡ last (holds keys key) (count_in links)) where
    pub told_absent : link ≡ 0 → nothing_told ≡ told_of keys links key
    unfolding told_of nothing_told
    told_absent z =
        let none = none-counted (holds keys key) (count_in links) link e z in
        rw (ne_eqb key 0 some, ← none, ← not_one keys links key (λ q. omega (arith, none, q)))

    -- the entry found is one
    pub link_below : (link ≡ 0 → ⊥) → link - 1 < room
    link_below z = omega (arith, last_le (holds keys key) (count_in links), l.within)

    module _ (z : (link ≡ 0 → ⊥)) (times : ℕ) (t : times ≡ get_or links (times_from + (link - 1)) 0) where
      times_are : times ≡ count (holds keys key) (count_in links)
      unfolding times_at
      times_are = t ∙ times_found keys links l key link e z

      pub told_many : (times ≡ 1 → ⊥) → ◌≡◌ {A = Told} (record { times = times; tag = no_tag }) (told_of keys links key)
      unfolding told_of
      told_many m = rw (
        ne_eqb key 0 some,
        ← times_are,
        ← not_one keys links key (λ q. m (times_are ∙ q)),
      )

      pub told_one : (tag : ℕ) → tag ≡ get_or links (tags_from + (link - 1)) 0 → times ≡ 1
          → ◌≡◌ {A = Told} (record { times = times; tag = tag }) (told_of keys links key)
      unfolding told_of tag_at
      told_one tag q m = rw (
        ne_eqb key 0 some,
        ← times_are,
        ← one keys links key link e (sym times_are ∙ m),
        q,
      )
