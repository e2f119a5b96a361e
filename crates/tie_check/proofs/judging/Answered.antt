-- What the store tells of a key is what the header says.
use Prim.Native.Nat.{ℕ, ◌*◌, ◌≤◌}
use native.Mathlib.Decide.{ℕ_discrete}
use mathlib.Core.Path.{◌≡◌, refl, sym, ap}
use mathlib.Core.Bool.{Bool, true, false, ◌&&◌}
use mathlib.Core.List.{List}
use lib.Dec.{ltb}
use borrow.Author.Tests.{eq-eqb, ne_eqb}
use Rattle.header_check.specs.forms.Cards.{cards_in}
use Rattle.header_check.specs.Refusing.{largest}
use Rattle.tie_rules.specs.Keys.{contradict}
use Rattle.base_lists.specs.Count.{count}
use Rattle.tie_store.specs.Store.{count_in, tag_at, holds, nothing_told, told_of}
use Rattle.tie_store.proofs.Only.{only_passes}
use Rattle.tie_check.specs.packed.Numbers.{vessel_told, passing}
use Rattle.tie_check.specs.packed.Gathered.{gathered, entries_passing}
use Rattle.tie_check.specs.packed.Asked.{is_number, is_apart, times_of, only_apart}
use Rattle.tie_check.proofs.gather.Growing.{all_pass}

-- a card without a vessel digit contradicts nothing
says_nothing : (vessel : ℕ) → contradict vessel 10 ≡ false
unfolding contradict
says_nothing vessel = go (ltb vessel 10)
  where
    go : (b : Bool) → (b && false) ≡ false
    go true = refl
    go false = refl

module _ (h : List ℕ) (few : cards_in h ≤ largest) where
  abbrev keys : List ℕ
  keys = (gathered h).keys

  abbrev links : List ℕ
  links = (gathered h).links

  -- the entries with a key
  entries_with : (k : ℕ) → (k ≡ 0 → ⊥) → count (holds keys k) (count_in links) ≡ passing (is_number k) h (80 * cards_in h)
  unfolding entries_passing holds
  entries_with k e = all_pass h few (is_number k) (λ tag. ne_eqb 0 k (λ q. e (sym q)))

  -- those of another vessel
  entries-apart : (k vessel : ℕ) → (k ≡ 0 → ⊥)
      → count (λ i. holds keys k i && contradict vessel (vessel_told (tag_at links i))) (count_in links) ≡ passing (is_apart k vessel) h (80 * cards_in h)
  unfolding entries_passing holds
  entries-apart k vessel e =
      all_pass h few (is_apart k vessel) (λ t. ap (λ b. b && contradict vessel (vessel_told t)) (ne_eqb 0 k (λ q. e (sym q))))

  pub no_times : (k : ℕ) → k ≡ 0 → times_of h k ≡ 0
  unfolding times_of
  no_times k e = rw (eq-eqb k 0 e)

  pub some_times : (k : ℕ) → (k ≡ 0 → ⊥) → times_of h k ≡ count (holds keys k) (count_in links)
  unfolding times_of
  some_times k e = rw (ne_eqb k 0 e) (sym (entries_with k e))

  pub told_times : (k : ℕ) → (told_of keys links k).times ≡ times_of h k
  unfolding told_of nothing_told
  told_times k = elim (ℕ_discrete k 0) [
    | yes e ↦ rw (eq-eqb k 0 e) (sym (no_times k e))
    | no e ↦ rw (ne_eqb k 0 e) (sym (some_times k e))
  ]

  pub told-apart : (k vessel : ℕ) → contradict vessel (vessel_told (told_of keys links k).tag) ≡ only_apart h k vessel
  unfolding told_of nothing_told only_apart
  told-apart k vessel = elim (ℕ_discrete k 0) [
    | yes e ↦ rw (eq-eqb k 0 e) (says_nothing vessel)
    | no e ↦ rw (ne_eqb k 0 e, ← entries_with k e, ← entries-apart k vessel e)
        (only_passes keys links k (λ t. contradict vessel (vessel_told t)) (says_nothing vessel))
  ]
