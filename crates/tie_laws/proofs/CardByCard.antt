-- The list card by card, each card's faults looked for at the sites of its layout only.
use Prim.Native.Nat.{ℕ, zero, suc, ◌+◌, ◌-◌, ◌*◌, ◌/◌, ◌%◌, ◌<◌}
use native.Mathlib.Nat.{add-zero, add-suc, mul-zero, mul-suc}
use native.Mathlib.Omega.{arith}
use mathlib.Core.Path.{◌≡◌, refl, sym, ap, ◌∙◌}
use mathlib.Core.Bool.{Bool, true, false, false≢true}
use mathlib.Core.List.{List, [], ◌∷◌, ◌++◌, map, flat_map, map-append, map-map, append_assoc, append-nil}
use mathlib.Core.List.{Memᴰ}
use Rattle.base_lists.specs.Parts.{keep, kept, up_to}
use Rattle.base_lists.proofs.Keeping.{kept_append, kept_map, kept_same, out_of_kept, out-of-up_to}
use Rattle.base_lists.proofs.Entries.{entries_more}
use Rattle.header_check.specs.forms.Cards.{card_at, cards_in, layout_of}
use Rattle.tie_rules.specs.Faults.{kinds, broken_on, broken, on_card, triples, broken_at, faults, entry_for, entry_of}
use Rattle.tie_rules.specs.Keys.{vessel_of}
use Rattle.tie_laws.proofs.Sites.{Within, is_site, at_site}
use Rattle.tie_laws.proofs.Complete.{list_of}

-- the sites of a layout, numbered from 0: column, then kind
unfoldable pub sites_of : ℕ → List ℕ
sites_of k = kept (λ i. is_site k (i / kinds + 1) (i % kinds + 1)) (up_to on_card)

kept-within {ℓ} : {A : Type ℓ} (q r : A → Bool) → ((a : A) → Within (q a) (r a)) → (l : List A) → kept q (kept r l) ≡ kept q l
unfolding kept
kept-within q r f [] = refl
kept-within q r f (x ∷ l) = go (r x) refl (q x) refl (kept-within q r f l)
  where
    go : (b : Bool) → r x ≡ b → (c : Bool) → q x ≡ c → kept q (kept r l) ≡ kept q l
        → kept q (keep b x (kept r l)) ≡ keep (q x) x (kept q l)
    go true e c d ih = ap (keep (q x) x) ih
    go false e true d ih = absurd (false≢true (sym e ∙ f x d))
    go false e false d ih = ih ∙ rw d

-- a list of numbers as runs of equal size
up_to-split : (m n : ℕ) → up_to (m + n) ≡ up_to m ++ map (λ i. m + i) (up_to n)
unfolding up_to
up_to-split m zero = rw add-zero (sym (append-nil (up_to m)))
up_to-split m (suc n) =
    rw (add-suc m n, up_to-split m n, map-append) (append_assoc (up_to m) (map (λ i. m + i) (up_to n)) ((m + n) ∷ []))

kept_split : (p : ℕ → Bool) (m n : ℕ)
    → kept p (up_to (m + n)) ≡ kept p (up_to m) ++ map (λ i. m + i) (kept (λ i. p (m + i)) (up_to n))
kept_split p m n = rw (up_to-split m n, kept_append, kept_map)

-- what passes, run by run
pub kept-runs : (p : ℕ → Bool) (size n : ℕ)
    → kept p (up_to (size * n)) ≡ flat_map (λ c. map (λ i. size * c + i) (kept (λ i. p (size * c + i)) (up_to size))) (up_to n)
unfolding up_to flat_map kept
kept-runs p size zero = rw mul-zero
kept-runs p size (suc n) = rw (mul-suc, kept_split p (size * n) size, kept-runs p size n) (sym (entries_more _ (up_to n) n))

flat_map-same {ℓ} : {A B : Type ℓ} (f g : A → List B) (l : List A) → ((a : A) → f a ≡ g a) → flat_map f l ≡ flat_map g l
unfolding flat_map
flat_map-same f g [] h = refl
flat_map-same f g (x ∷ l) h = rw (h x, flat_map-same f g l h)

-- the images of what was made
pub map-flat_map {ℓ} : {A B C : Type ℓ} (g : B → C) (f : A → List B) (l : List A) → map g (flat_map f l) ≡ flat_map (λ a. map g (f a)) l
unfolding flat_map
map-flat_map g f [] = refl
map-flat_map g f (x ∷ l) = rw (map-append, map-flat_map g f l)

-- images under maps that agree on every member
pub map_same {ℓ κ} : {A : Type ℓ} {B : Type κ} (f g : A → B) (l : List A) → ((a : A) → Memᴰ a l → f a ≡ g a) → map f l ≡ map g l
map_same f g [] h = refl
map_same f g (x ∷ l) h = rw (h x (Memᴰ.head refl), map_same f g l (λ a m. h a (Memᴰ.tail m)))

-- a fault on the card with a number, from 0, at a site of it
abbrev pub broken_site : List ℕ → ℕ → ℕ → Bool
broken_site h c i = broken h c (i / kinds + 1) (i % kinds + 1)

-- its entry
abbrev pub site_entry : List ℕ → ℕ → ℕ → List ℕ
site_entry h c i = entry_for h c (i / kinds + 1) (i % kinds + 1)

-- the entries of a card, from its sites only
unfoldable pub entries_on : List ℕ → ℕ → List (List ℕ)
entries_on h c = map (site_entry h c) (kept (broken_site h c) (sites_of (layout_of (card_at h c))))

module _ (h : List ℕ) where
  same_test : (c i : ℕ) → i < on_card → broken_at h (on_card * c + i) ≡ broken_site h c i
  unfolding broken_at
  same_test c i l =
      let a : (on_card * c + i) / on_card ≡ c = omega arith in
      let b : (on_card * c + i) / kinds % 80 ≡ i / kinds = omega arith in
      let d : (on_card * c + i) % kinds ≡ i % kinds = omega arith in
      rw (a, b, d)

  same_entry : (c i : ℕ) → i < on_card → entry_of h (on_card * c + i) ≡ site_entry h c i
  unfolding entry_of
  same_entry c i l =
      let a : (on_card * c + i) / on_card ≡ c = omega arith in
      let b : (on_card * c + i) / kinds % 80 ≡ i / kinds = omega arith in
      let d : (on_card * c + i) % kinds ≡ i % kinds = omega arith in
      rw (a, b, d)

  at_sites : (c : ℕ) → kept (broken_site h c) (sites_of (layout_of (card_at h c))) ≡ kept (broken_site h c) (up_to on_card)
  unfolding sites_of broken
  at_sites c = kept-within (broken_site h c) (λ i. is_site (layout_of (card_at h c)) (i / kinds + 1) (i % kinds + 1))
      (λ i. at_site h (card_at h c) (i / kinds + 1) (i % kinds + 1)) (up_to on_card)

  on_card_lem : (c : ℕ) → map (entry_of h) (map (λ i. on_card * c + i) (kept (λ i. broken_at h (on_card * c + i)) (up_to on_card))) ≡ entries_on h c
  unfolding entries_on
  on_card_lem c =
      ap (λ l. map (entry_of h) (map (λ i. on_card * c + i) l))
      (kept_same (λ i. broken_at h (on_card * c + i)) (broken_site h c) (up_to on_card) (λ i m. same_test c i (out-of-up_to on_card i m)))
      ∙ map-map (entry_of h) (λ i. on_card * c + i) (kept (broken_site h c) (up_to on_card))
      ∙ map_same (λ i. entry_of h (on_card * c + i)) (site_entry h c) (kept (broken_site h c) (up_to on_card))
      (λ i m. same_entry c i (out-of-up_to on_card i (out_of_kept (broken_site h c) (up_to on_card) m).0))
      ∙ ap (map (site_entry h c)) (sym (at_sites c))

  -- the list is the entries of one card after the other, each from its sites only
  pub card_by_card : list_of h ≡ flat_map (entries_on h) (up_to (cards_in h))
  unfolding faults triples
  card_by_card =
      ap (map (entry_of h)) (kept-runs (broken_at h) on_card (cards_in h))
      ∙ map-flat_map (entry_of h) (λ c. map (λ i. on_card * c + i) (kept (λ i. broken_at h (on_card * c + i)) (up_to on_card))) (up_to (cards_in h))
      ∙ flat_map-same _ (entries_on h) (up_to (cards_in h)) on_card_lem

-- the number of a site: its column, then its kind
abbrev pub site : ℕ → ℕ → ℕ
site column kind = kinds * (column - 1) + (kind - 1)

-- the entries of a card by its bytes, from some sites
unfoldable pub entries_from : List ℕ → ℕ → List ℕ → List ℕ → List (List ℕ)
entries_from h c s sites =
    map (λ i. (c + 1) ∷ (i / kinds + 1) ∷ (i % kinds + 1) ∷ vessel_of s ∷ [])
    (kept (λ i. broken_on h s (i / kinds + 1) (i % kinds + 1)) sites)

-- those of some cards, each with its number, its bytes and its sites
unfoldable pub entries_along : List ℕ → List ℕ → List (List ℕ) → List (List ℕ) → List (List ℕ)
entries_along h [] ss ts = []
entries_along h (c ∷ cs) [] ts = []
entries_along h (c ∷ cs) (s ∷ ss) [] = []
entries_along h (c ∷ cs) (s ∷ ss) (t ∷ ts) = entries_from h c s t ++ entries_along h cs ss ts

-- the sites of some cards
unfoldable pub sites_on : List (List ℕ) → List (List ℕ)
sites_on cards = map (λ s. sites_of (layout_of s)) cards

along : (h cs : List ℕ) → flat_map (entries_on h) cs ≡ entries_along h cs (map (card_at h) cs) (sites_on (map (card_at h) cs))
unfolding flat_map entries_along entries_on entries_from broken sites_on
along h [] = refl
along h (c ∷ cs) = ap (λ l. entries_from h c (card_at h c) (sites_of (layout_of (card_at h c))) ++ l) (along h cs)

-- the list of a header whose cards and their sites are known
pub listed_along : (h : List ℕ) (n : ℕ) (cards sites : List (List ℕ)) → cards_in h ≡ n → map (card_at h) (up_to n) ≡ cards
    → sites_on cards ≡ sites → list_of h ≡ entries_along h (up_to n) cards sites
listed_along h n cards sites e q r =
    card_by_card h
    ∙ ap (λ m. flat_map (entries_on h) (up_to m)) e
    ∙ along h (up_to n)
    ∙ ap (λ ss. entries_along h (up_to n) ss (sites_on ss)) q
    ∙ ap (entries_along h (up_to n) cards) r
