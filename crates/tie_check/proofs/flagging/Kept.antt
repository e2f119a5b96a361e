-- The cards of entries that share a key are flagged, and nothing else that is noted changes.
use Prim.Native.Nat.{ℕ, zero, suc, ◌+◌, ◌-◌, ◌≤◌, ◌<◌}
use native.Mathlib.Decide.{ℕ_discrete}
use native.Mathlib.Numerals.{add-one}
use native.Mathlib.Omega.{arith}
use mathlib.Core.Path.{◌≡◌, refl, sym, ap, ◌∙◌, subst}
use mathlib.Core.Bool.{Bool, true}
use mathlib.Core.List.{List}
use lib.ListN.{length, get_or}
use borrow.Author.Tests.{eq-eqb, ne_eqb}
use Rattle.base_lists.specs.Count.{count}
use Rattle.base_lists.proofs.Counting.{count_hit, count_miss, count-some, count_one}
use Rattle.header_check.specs.packed.Noted.{is_flagged, flagged, Noted}
use Rattle.header_check.proofs.forms.Flags.{length-flagged, flag_here, flag-stays, flagged-noted}
use Rattle.tie_store.specs.Store.{count_in, tag_at, holds}
use Rattle.tie_store.proofs.Only.{none-counted, is_below, passes}
use Rattle.tie_check.specs.packed.Numbers.{card_told}
use Rattle.tie_check.specs.packed.Gathered.{Store}
use Rattle.tie_check.specs.packed.Shared.{before, flagged_by, flagged_to, flagged_all}

module _ (keys links : List ℕ) where
  abbrev card_of : ℕ → ℕ
  card_of i = card_told (tag_at links i)

  -- an entry has another before it with its key, or not
  module _ (cards : List ℕ) (i : ℕ) where
    pub by_none : before keys i ≡ 0 → cards ≡ flagged_by cards keys links i
    unfolding flagged_by
    by_none e = rw (eq-eqb (before keys i) 0 e)

    pub by_both : (before keys i ≡ 0 → ⊥) → flagged (flagged cards (card_of i)) (card_of (before keys i - 1)) ≡ flagged_by cards keys links i
    unfolding flagged_by
    by_both e = rw (ne_eqb (before keys i) 0 e)

    -- what the code does, one flag after the other
    pub both_by : (b tag other : ℕ) (own all : List ℕ) → b ≡ before keys i → (b ≡ 0 → ⊥) → tag ≡ tag_at links i
        → own ≡ flagged cards (card_told tag) → other ≡ tag_at links (b - 1) → all ≡ flagged own (card_told other)
        → all ≡ flagged_by cards keys links i
    both_by b tag other own all e some t p o q = q ∙ rw (p, t, o, e) (by_both (λ z. some (e ∙ z)))

    -- what holds in both cases holds
    ways : (P : List ℕ → Type 0) → P cards → ((before keys i ≡ 0 → ⊥) → P (flagged (flagged cards (card_of i)) (card_of (before keys i - 1))))
        → P (flagged_by cards keys links i)
    ways P none both = elim (ℕ_discrete (before keys i) 0) [
      | yes e ↦ subst P (by_none e) none
      | no e ↦ subst P (by_both e) (both e)
    ]

    length_by : length (flagged_by cards keys links i) ≡ length cards
    length_by = ways (λ x. length x ≡ length cards) refl (λ e. length-flagged _ _ ∙ length-flagged _ _)

    by_noted : (h : List ℕ) (n : ℕ) → Noted h n cards → Noted h n (flagged_by cards keys links i)
    by_noted h n w = ways (λ x. Noted h n x) w (λ e. flagged-noted h _ n _ (flagged-noted h _ n _ w))

    by_stays : (c : ℕ) → is_flagged (get_or cards c 0) ≡ true → is_flagged (get_or (flagged_by cards keys links i) c 0) ≡ true
    by_stays c f = ways (λ x. is_flagged (get_or x c 0) ≡ true) f (λ e. flag-stays _ _ c (flag-stays _ _ c f))

    -- the entry's own card, and that of the one before
    by_own : (before keys i ≡ 0 → ⊥) → card_of i < length cards → is_flagged (get_or (flagged_by cards keys links i) (card_of i) 0) ≡ true
    by_own e l =
        subst (λ (x : List ℕ). is_flagged (get_or x (card_of i) 0) ≡ true) (by_both e) (flag-stays _ _ (card_of i) (flag_here cards (card_of i) l))

    by_other : (before keys i ≡ 0 → ⊥) → card_of (before keys i - 1) < length cards
        → is_flagged (get_or (flagged_by cards keys links i) (card_of (before keys i - 1)) 0) ≡ true
    by_other e l =
        subst (λ (x : List ℕ). is_flagged (get_or x (card_of (before keys i - 1)) 0) ≡ true) (by_both e)
        (flag_here _ (card_of (before keys i - 1)) (omega (arith, l, length-flagged cards (card_of i))))

  -- the first entries
  module _ (notes : List ℕ) where
    pub length_to : (n : ℕ) → length (flagged_to notes keys links n) ≡ length notes
    unfolding flagged_to
    length_to zero = refl
    length_to (suc n) = length_by (flagged_to notes keys links n) n ∙ length_to n

    pub none-to : notes ≡ flagged_to notes keys links 0
    unfolding flagged_to
    none-to = refl

    pub more_to : (cards cards' : List ℕ) (n : ℕ) → cards ≡ flagged_to notes keys links n → cards' ≡ flagged_by cards keys links n
        → cards' ≡ flagged_to notes keys links (n + 1)
    unfolding flagged_to
    more_to cards cards' n e q = rw (add-one n) (q ∙ rw e)

    pub noted-to : (h : List ℕ) (m : ℕ) → Noted h m notes → (n : ℕ) → Noted h m (flagged_to notes keys links n)
    unfolding flagged_to
    noted-to h m w zero = w
    noted-to h m w (suc n) = by_noted (flagged_to notes keys links n) n h m (noted-to h m w n)

    -- the card of one of them that shares its key has a flag
    abbrev Shares : ℕ → ℕ → Type 0
    Shares n j = (1 < count (holds keys (get_or keys j 0)) n) × (card_of j < length notes)

    module _ (n : ℕ) (ih : (j : ℕ) → j < n → Shares n j → is_flagged (get_or (flagged_to notes keys links n) (card_of j) 0) ≡ true) where
      abbrev cards : List ℕ
      cards = flagged_to notes keys links n

      abbrev p : ℕ → Bool
      p = holds keys (get_or keys n 0)

      room_for : (c : ℕ) → c < length notes → c < length cards
      room_for c l = omega (arith, l, length_to n)

      some-before : 1 ≤ count p n → before keys n ≡ 0 → ⊥
      some-before l z = omega (arith, l, none-counted p n (before keys n) refl z)

      -- the new one
      here : Shares (suc n) n → is_flagged (get_or (flagged_by cards keys links n) (card_of n) 0) ≡ true
      unfolding holds
      here s =
          let c = ap (count p) (sym (add-one n)) ∙ count_hit p n (eq-eqb (get_or keys n 0) (get_or keys n 0) refl) in
          by_own cards n (some-before (omega (arith, s.0, c))) (room_for (card_of n) s.1)

      -- one with its key: the only one before it, or one of several
      alike : (j : ℕ) → j < n → get_or keys j 0 ≡ get_or keys n 0 → card_of j < length notes
          → is_flagged (get_or (flagged_by cards keys links n) (card_of j) 0) ≡ true
      unfolding holds
      alike j l e r =
          let hit : p j ≡ true = eq-eqb (get_or keys j 0) (get_or keys n 0) e in
          let some = some-before (count-some p n j l hit) in
          elim (ℕ_discrete (count p n) 1) [
            | yes o ↦
                let q : before keys n - 1 ≡ j = count_one p n o _ j (is_below p n (before keys n) refl some) l (passes p n (before keys n) refl some) hit in
                subst (λ (x : ℕ). is_flagged (get_or (flagged_by cards keys links n) (card_of x) 0) ≡ true) q
                (by_other cards n some (room_for _ (subst (λ (x : ℕ). card_of x < length notes) (sym q) r)))
            | no o ↦
                let several : 1 < count (holds keys (get_or keys j 0)) n =
                subst (λ (x : ℕ). 1 < count (holds keys x) n) (sym e) (omega (arith, count-some p n j l hit, o)) in
                by_stays cards n (card_of j) (ih j l (several, r))
          ]

      -- one with another key
      apart : (j : ℕ) → j < n → (get_or keys n 0 ≡ get_or keys j 0 → ⊥) → Shares (suc n) j
          → is_flagged (get_or (flagged_by cards keys links n) (card_of j) 0) ≡ true
      unfolding holds
      apart j l e s =
          let q = holds keys (get_or keys j 0) in
          let c = ap (count q) (sym (add-one n)) ∙ count_miss q n (ne_eqb (get_or keys n 0) (get_or keys j 0) e) in
          by_stays cards n (card_of j) (ih j l (omega (arith, s.0, c), s.1))

      step : (j : ℕ) → j < suc n → Shares (suc n) j → is_flagged (get_or (flagged_by cards keys links n) (card_of j) 0) ≡ true
      step j l s = elim (ℕ_discrete n j) [
        | yes e ↦
            let t : Shares (suc n) n = subst (λ (x : ℕ). Shares (suc n) x) (sym e) s in
            subst (λ (x : ℕ). is_flagged (get_or (flagged_by cards keys links n) (card_of x) 0) ≡ true) e (here t)
        | no e ↦ elim (ℕ_discrete (get_or keys n 0) (get_or keys j 0)) [
          | yes q ↦ alike j (omega (arith, l, e)) (sym q) s.1
          | no q ↦ apart j (omega (arith, l, e)) q s
        ]
      ]

    pub shared_flagged : (n j : ℕ) → j < n → Shares n j → is_flagged (get_or (flagged_to notes keys links n) (card_of j) 0) ≡ true
    unfolding flagged_to
    shared_flagged zero j l s = absurd (omega arith)
    shared_flagged (suc n) j l s = step n (shared_flagged n) j l s

-- all entries of a store
pub all_by : (t : Store) (notes keys links cards : List ℕ) → keys ≡ t.keys → links ≡ t.links
    → cards ≡ flagged_to notes keys links (count_in links) → cards ≡ flagged_all notes t
unfolding flagged_all
all_by t notes keys links cards p q e = e ∙ rw (p, q)
