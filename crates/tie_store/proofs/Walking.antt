-- A walk along a chain meets every entry that it looks for: what lies between two links is in other buckets.
-- Assumes nothing.
use mathlib.Core.Path.{◌≡◌, refl, sym, ap, ◌∙◌}
use mathlib.Core.Bool.{Bool, true, false, true≢false}
use mathlib.Core.List.{List}
use Prim.Native.Nat.{ℕ, zero, suc, ◌-◌, ◌≤◌, ◌<◌}
use native.Mathlib.Nat.{add-zero}
use native.Mathlib.Omega.{arith}
use borrow.Author.Tests.{eqb-true, eq-eqb, ne_eqb}
use lib.ListN.{get_or}
use Rattle.base_lists.specs.Count.{count}
use Rattle.tie_store.specs.Store.{buckets, bucket, count_in, next_at, head_at, in_bucket, last, holds, On, Linked}

-- any key has a bucket
pub bucket_below : (key : ℕ) → bucket key < buckets
unfolding bucket
bucket_below key = omega arith

module _ (p : ℕ → Bool) where
  pub last_hit : (n : ℕ) → p n ≡ true → last p (suc n) ≡ suc n
  unfolding last
  last_hit n e = rw e

  pub last_miss : (n : ℕ) → p n ≡ false → last p (suc n) ≡ last p n
  unfolding last
  last_miss n e = rw e

  -- it is no later than the end
  pub last_le : (n : ℕ) → last p n ≤ n
  unfolding last
  last_le zero = omega arith
  last_le (suc n) = go (p n) refl (last_le n)
    where
      go : (x : Bool) → p n ≡ x → last p n ≤ n → last p (suc n) ≤ suc n
      go true e h = omega (arith, last_hit n e)
      go false e h = omega (arith, last_miss n e)

  -- where a number is the last of those up to itself, it passes
  pub last_in : (i : ℕ) → last p (suc i) ≡ suc i → p i ≡ true
  last_in i e = go (p i) refl
    where
      go : (x : Bool) → p i ≡ x → p i ≡ true
      go true q = q
      go false q = absurd (omega (arith, last_miss i q, last_le i))

-- where a test passes only where another does, nothing lies behind the last one of that
pub record Inside (p q : ℕ → Bool) : Type 0 where
  pub outside : (i : ℕ) → p i ≡ false → q i ≡ false

module _ {p q : ℕ → Bool} (inside : Inside p q) where
  pub last-inside : (n : ℕ) → last q (last p n) ≡ last q n
  unfolding last
  last-inside zero = refl
  last-inside (suc n) = go (p n) refl (last-inside n)
    where
      go : (x : Bool) → p n ≡ x → last q (last p n) ≡ last q n → last q (last p (suc n)) ≡ last q (suc n)
      go true e h = rw (last_hit p n e)
      go false e h = rw (last_miss p n e, last_miss q n (inside.outside n e)) h

  pub count-inside : (n : ℕ) → count q (last p n) ≡ count q n
  unfolding last count
  count-inside zero = refl
  count-inside (suc n) = go (p n) refl (count-inside n)
    where
      go : (x : Bool) → p n ≡ x → count q (last p n) ≡ count q n → count q (last p (suc n)) ≡ count q (suc n)
      go true e h = rw (last_hit p n e)
      go false e h = rw (last_miss p n e, h, inside.outside n e) (sym (add-zero (count q n)))

pub itself : (p : ℕ → Bool) → Inside p p
itself p = record { outside = λ i e. e }

-- the last entry of a bucket is on its chain
on_last : (keys : List ℕ) (b n m : ℕ) → m ≤ n → On keys b n (last (in_bucket keys b) m)
on_last keys b n m h = record {
  upto = omega (arith, last_le (in_bucket keys b) m);
  is_last = last-inside (itself (in_bucket keys b)) m;
}

-- a key is only in its own bucket
pub holds-inside : (keys : List ℕ) (key : ℕ) → Inside (in_bucket keys (bucket key)) (holds keys key)
unfolding holds in_bucket
holds-inside keys key = record { outside = λ i e. ne_eqb _ _ (λ q. true≢false (sym (eq-eqb _ _ (ap bucket q)) ∙ e)) }

module _ {keys links : List ℕ} (l : Linked keys links) (key : ℕ) where
  abbrev n : ℕ
  n = count_in links

  -- the walk begins at the bucket's last entry, and looks for the last of all
  pub begins : On keys (bucket key) n (head_at links (bucket key))
      × (last (holds keys key) (head_at links (bucket key)) ≡ last (holds keys key) n)
  begins = rw (l.head-last (bucket key) (bucket_below key))
      (on_last keys (bucket key) n n (omega arith), last-inside (holds-inside keys key) n)

  -- or at the one before an entry, and looks for the last before that
  pub begins-before : (i : ℕ) → i < n → get_or keys i 0 ≡ key → On keys (bucket key) n (next_at links i)
      × (last (holds keys key) (next_at links i) ≡ last (holds keys key) i)
  begins-before i h e = rw (l.next_last i h, e)
      (on_last keys (bucket key) n i (omega arith), last-inside (holds-inside keys key) i)

  -- from an entry it goes to the last one before it
  next-is : (i : ℕ) → On keys (bucket key) n (suc i) → next_at links i ≡ last (in_bucket keys (bucket key)) i
  unfolding in_bucket
  next-is i o =
      let e = last_in (in_bucket keys (bucket key)) i o.is_last in
      l.next_last i o.upto ∙ ap (λ c. last (in_bucket keys c) i) (eqb-true _ _ e)

  module _ (link : ℕ) (h : 0 < link) (o : On keys (bucket key) n link) where
    before : next_at links (link - 1) ≡ last (in_bucket keys (bucket key)) (link - 1)
    before = let e : suc (link - 1) ≡ link = omega arith in next-is (link - 1) (rw e o)

    pub falls : next_at links (link - 1) < link
    falls = omega (arith, before, last_le (in_bucket keys (bucket key)) (link - 1))

    -- where the entry has another key, the last with the key is further down
    pub goes : (get_or keys (link - 1) 0 ≡ key → ⊥) → (total : ℕ) → last (holds keys key) link ≡ total
        → On keys (bucket key) n (next_at links (link - 1)) × (last (holds keys key) (next_at links (link - 1)) ≡ total)
    unfolding holds
    goes z total e =
        let q : link ≡ suc (link - 1) = omega arith in
        let miss = last_miss (holds keys key) (link - 1) (ne_eqb _ _ z) in
        rw before (
          on_last keys (bucket key) n (link - 1) (omega (arith, o.upto)),
          last-inside (holds-inside keys key) (link - 1) ∙ sym miss ∙ sym (ap (last (holds keys key)) q) ∙ e,
        )

-- where the entry has the key, it is found
pub found : (keys : List ℕ) (key link total : ℕ) → 0 < link → get_or keys (link - 1) 0 ≡ key → last (holds keys key) link ≡ total
    → link ≡ total
unfolding holds
found keys key link total h z e =
    let q : link ≡ suc (link - 1) = omega arith in
    q ∙ sym (last_hit (holds keys key) (link - 1) (eq-eqb _ _ z)) ∙ sym (ap (last (holds keys key)) q) ∙ e

-- at the end of the chain it is not
pub not_found : (p : ℕ → Bool) (link total : ℕ) → link ≡ 0 → last p link ≡ total → 0 ≡ total
unfolding last
not_found p zero total z e = e
not_found p (suc i) total z e = absurd (omega arith)
