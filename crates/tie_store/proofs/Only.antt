-- What the tag of the only entry with a key says, by counts.
-- Assumes nothing.
use mathlib.Core.Path.{◌≡◌, refl, sym, ap, ap₂, ◌∙◌}
use mathlib.Core.Bool.{Bool, true, false, ◌&&◌}
use mathlib.Core.List.{List}
use Prim.Native.Nat.{ℕ, suc, ◌+◌, ◌-◌, ◌<◌}
use native.Mathlib.Nat.{zero-add}
use native.Mathlib.Decide.{ℕ_discrete}
use native.Mathlib.Omega.{arith}
use borrow.Author.Tests.{eq-eqb, ne_eqb, eqb-true}
use lib.Dec.{eqb}
use lib.ListN.{get_or}
use Rattle.base_lists.specs.Count.{bit, count}
use Rattle.base_lists.proofs.Counting.{count_more, count_hit, count_none, none_pass}
use Rattle.tie_store.specs.Store.{count_in, times_at, tag_at, last, holds, no_tag, only_tag, Linked}
use Rattle.tie_store.proofs.Walking.{last_in, last_le, last-inside, count-inside, Inside, itself}

bit_one : (b : Bool) → eqb (bit b) 1 ≡ b
bit_one true = refl
bit_one false = refl

-- no entry has the key
pub none-counted : (p : ℕ → Bool) (n link : ℕ) → link ≡ last p n → link ≡ 0 → 0 ≡ count p n
unfolding count
none-counted p n link e z = sym (ap (count p) (sym e ∙ z)) ∙ count-inside (itself p) n

-- the last entry with a key: it has it, and as many have it up to and with itself as of all
module _ (p : ℕ → Bool) (n link : ℕ) (e : link ≡ last p n) (h : (link ≡ 0 → ⊥)) where
  after : suc (link - 1) ≡ link
  after = omega arith

  pub passes : p (link - 1) ≡ true
  passes = last_in p (link - 1) (rw (after, e) (last-inside (itself p) n))

  pub is_below : link - 1 < n
  is_below = omega (arith, last_le p n)

  pub all-counted : (q : ℕ → Bool) → Inside p q → count q (link - 1 + 1) ≡ count q n
  all-counted q i =
      let f : link - 1 + 1 ≡ link = omega arith in
      ap (count q) (f ∙ e) ∙ count-inside i n

module _ (keys links : List ℕ) (l : Linked keys links) (key link : ℕ)
    (e : link ≡ last (holds keys key) (count_in links)) (h : (link ≡ 0 → ⊥)) where
  -- the times of the entry found
  pub times_found : times_at links (link - 1) ≡ count (holds keys key) (count_in links)
  unfolding holds
  times_found =
      let p = holds keys key in
      let n = count_in links in
      let same : get_or keys (link - 1) 0 ≡ key = eqb-true _ _ (passes p n link e h) in
      l.times_are (link - 1) (is_below p n link e h)
      ∙ ap (λ k. count (holds keys k) (link - 1 + 1)) same
      ∙ all-counted p n link e h p (itself p)

module _ (keys links : List ℕ) (key : ℕ) where
  abbrev n : ℕ
  n = count_in links

  pub not_one : (count (holds keys key) n ≡ 1 → ⊥) → no_tag ≡ only_tag keys links key
  unfolding only_tag
  not_one z = rw (ne_eqb (count (holds keys key) n) 1 z)

  pub one : (link : ℕ) → link ≡ last (holds keys key) n → count (holds keys key) n ≡ 1
      → tag_at links (link - 1) ≡ only_tag keys links key
  unfolding only_tag
  one link e z = rw (eq-eqb (count (holds keys key) n) 1 z, e)

  -- a test of it, where it is not passed by a tag that says nothing: one entry has the key, and one that also passes
  pub only_passes : (test : ℕ → Bool) → test no_tag ≡ false → test (only_tag keys links key)
      ≡ (eqb (count (holds keys key) n) 1 && eqb (count (λ i. holds keys key i && test (tag_at links i)) n) 1)
  only_passes test f = elim (ℕ_discrete (count p n) 1) [
    | yes e ↦ ap test (sym (one (last p n) refl e)) ∙ sym (rw (eq-eqb (count p n) 1 e) (single e))
    | no e ↦ ap test (sym (not_one e)) ∙ f ∙ sym (rw (ne_eqb (count p n) 1 e))
  ]
    where
      p : ℕ → Bool
      p = holds keys key

      q : ℕ → Bool
      q i = p i && test (tag_at links i)

      inside : Inside p q
      inside = record { outside = λ i e. rw e }

      single : count p n ≡ 1 → eqb (count q n) 1 ≡ test (tag_at links (last p n - 1))
      single e =
          let i = last p n - 1 in
          let some : (last p n ≡ 0 → ⊥) = λ z. omega (arith, none-counted p n (last p n) refl z) in
          let hit : p i ≡ true = passes p n (last p n) refl some in
          let none : count p i ≡ 0 = omega (arith, count_hit p i hit, all-counted p n (last p n) refl some p (itself p)) in
          let rest : count q i ≡ 0 = count_none q i (λ j l. inside.outside j (none_pass p i none j l)) in
          let here : q i ≡ test (tag_at links i) = rw hit in
          let all : count q n ≡ bit (test (tag_at links i)) =
          sym (all-counted p n (last p n) refl some q inside) ∙ count_more q i ∙ ap₂ (λ a b. a + bit b) rest here ∙ zero-add _ in
          ap (λ k. eqb k 1) all ∙ bit_one (test (tag_at links i))
