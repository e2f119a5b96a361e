-- The list column by column, and only the columns where a fault can stand.
use Prim.Native.Nat.{ℕ, zero, suc, ◌+◌, ◌*◌, ◌/◌, ◌%◌, ◌≤◌, ◌<◌}
use native.Mathlib.Numerals.{add-one}
use native.Mathlib.Omega.{arith}
use mathlib.Core.Path.{◌≡◌, refl, sym, ap, ◌∙◌}
use mathlib.Core.Bool.{Bool, true, false, false≢true, cond, ◌&&◌}
use mathlib.Core.List.{List, [], ◌∷◌, ◌++◌, map, flat_map, map-append, map-map, append_assoc}
use mathlib.Core.List.{Memᴰ}
use lib.Dec.{eqb}
use lib.ListN.{length, get_or, length-map}
use Rattle.base_lists.specs.Parts.{keep, kept, up_to}
use Rattle.base_lists.proofs.Keeping.{kept_same, out_of_kept, out-of-up_to}
use Rattle.base_lists.proofs.Entries.{entries_more}
use Rattle.format_layout.specs.declared.Field.{Field}
use Rattle.format_layout.specs.Layouts.{fields_of}
use Rattle.header_check.specs.forms.Cards.{card_at, cards_in, layout_of}
use Rattle.tie_rules.specs.Ties.{refers, defines}
use Rattle.tie_rules.specs.Keys.{is_none, holds_key}
use Rattle.tie_rules.specs.Ties.{can_tie, tie_columns}
use Rattle.tie_rules.proofs.columns.Defining.{Defining}
use Rattle.tie_rules.proofs.columns.Tied.{Idle, idle, at_most_five}
use Rattle.tie_check.proofs.gather.Slots.{kept-within}
use Rattle.tie_rules.proofs.columns.Tied.{none_at_zero}
use Rattle.tie_rules.specs.Faults.{kinds, redefined, misplaced, broken_on, broken, on_card, faults, entry_size, entry_for, entry_of, entries}
use Rattle.tie_check.proofs.judging.Defining.{not-undefined, not-ambiguous, not-contradicted, not-miscounted}
use Rattle.tie_laws.proofs.Sites.{is_site, at_site}
use Rattle.tie_laws.proofs.Complete.{list_of, entry-size}
use Rattle.tie_laws.proofs.CardByCard.{sites_of, kept-runs, broken_site, site_entry, entries_on, card_by_card}
use Rattle.tie_check.specs.packed.Stored.{joined, stored_all, Sized}
use Rattle.base_lists.specs.Laid.{laid}
use Rattle.tie_check.proofs.entries.Stored.{stored-laid}
use Rattle.tie_check.specs.packed.Listed.{column_entries, step_entries, card_entries, entries_to}
use Rattle.tie_check.specs.packed.Begins.{begins, walked, any_left}
use Rattle.tie_check.proofs.begins.Columns.{none-zero, none_left, or-none, amid, apart_left, apart_tie, begins-kept, begins-few}

flat_map-same : {A B : Type 0} (f g : A → List B) (l : List A) → ((a : A) → f a ≡ g a) → flat_map f l ≡ flat_map g l
unfolding flat_map
flat_map-same f g [] h = refl
flat_map-same f g (x ∷ l) h = rw (h x, flat_map-same f g l h)

map-flat_map : {A B C : Type 0} (g : B → C) (f : A → List B) (l : List A) → map g (flat_map f l) ≡ flat_map (λ a. map g (f a)) l
unfolding flat_map
map-flat_map g f [] = refl
map-flat_map g f (x ∷ l) = rw (map-append, map-flat_map g f l)

map_same : {A B : Type 0} (f g : A → B) (l : List A) → ((a : A) → Memᴰ a l → f a ≡ g a) → map f l ≡ map g l
map_same f g [] h = refl
map_same f g (x ∷ l) h = rw (h x (Memᴰ.head refl), map_same f g l (λ a m. h a (Memᴰ.tail m)))

-- the first apart
flat_map-shift : {B : Type 0} (g : ℕ → List B) (n : ℕ) → flat_map g (up_to (suc n)) ≡ g 0 ++ flat_map (λ j. g (j + 1)) (up_to n)
unfolding up_to flat_map
flat_map-shift g zero = refl
flat_map-shift g (suc n) =
    entries_more g (up_to (suc n)) (suc n)
    ∙ ap (λ r. r ++ g (suc n)) (flat_map-shift g n)
    ∙ append_assoc (g 0) (flat_map (λ j. g (j + 1)) (up_to n)) (g (suc n))
    ∙ ap (λ r. g 0 ++ r)
    (ap (λ k. flat_map (λ j. g (j + 1)) (up_to n) ++ g k) (sym (add-one n)) ∙ sym (entries_more (λ j. g (j + 1)) (up_to n) n))

-- what gives nothing may be left out
flat_map-kept : {A B : Type 0} (g : A → List B) (q : A → Bool) → ((a : A) → q a ≡ false → g a ≡ []) → (l : List A)
    → flat_map g (kept q l) ≡ flat_map g l
unfolding flat_map kept
flat_map-kept g q f [] = refl
flat_map-kept g q f (x ∷ l) = go (q x) refl (flat_map-kept g q f l)
  where
    go : (b : Bool) → q x ≡ b → flat_map g (kept q l) ≡ flat_map g l → flat_map g (keep b x (kept q l)) ≡ g x ++ flat_map g l
    go true e ih = ap (λ r. g x ++ r) ih
    go false e ih = rw (f x e) ih

-- a list by its places
flat_map-at : {B : Type 0} (g : ℕ → List B) → g 0 ≡ [] → (l : List ℕ) (n : ℕ) → length l ≤ n
    → flat_map g l ≡ flat_map (λ i. g (get_or l i 0)) (up_to n)
unfolding flat_map up_to
flat_map-at g z [] zero h = refl
flat_map-at g z [] (suc n) h =
    sym (flat_map-shift (λ i. g 0) n ∙ ap (λ r. r ++ flat_map (λ i. g 0) (up_to n)) z ∙ sym (flat_map-at g z [] n (omega arith)))
flat_map-at g z (x ∷ l) zero h = absurd (omega arith)
flat_map-at g z (x ∷ l) (suc n) h =
    ap (λ r. g x ++ r)
    (flat_map-at g z l n (omega arith)
    ∙ flat_map-same (λ i. g (get_or l i 0)) (λ i. g (get_or (x ∷ l) (i + 1) 0)) (up_to n)
    (λ i. ap (λ k. g (get_or (x ∷ l) k 0)) (sym (add-one i))))
    ∙ sym (flat_map-shift (λ i. g (get_or (x ∷ l) i 0)) n)

-- a column that cannot carry a tie and has no misplaced number has no fault
module _ (h s : List ℕ) (column : ℕ) (e : can_tie (layout_of s) column ≡ false) (p : misplaced s column ≡ false) where
  idles : Idle s column
  idles = idle s column e

  not-redefined : redefined h s column ≡ false
  unfolding redefined holds_key is_none
  not-redefined = rw (idles.key defines)

  refers-none : Defining s column
  refers-none = record { key = idles.key refers; count = idles.count; own = idles.own }

  none-broken : (kind : ℕ) → broken_on h s column kind ≡ false
  unfolding broken_on
  none-broken kind = rw (
    not-undefined h s column refers-none,
    not-redefined,
    not-ambiguous h s column refers-none,
    not-contradicted h s column refers-none,
    not-miscounted h s column refers-none,
    p,
  )
      (go (eqb kind 1) (eqb kind 2) (eqb kind 3) (eqb kind 4) (eqb kind 5) (eqb kind 6))
    where
      go : (t u v w x y : Bool) → cond t false (cond u false (cond v false (cond w false (cond x false (y && false))))) ≡ false
      go true u v w x y = refl
      go false true v w x y = refl
      go false false true w x y = refl
      go false false false true x y = refl
      go false false false false true y = refl
      go false false false false false true = refl
      go false false false false false false = refl

module _ (h : List ℕ) (c : ℕ) where
  abbrev k : ℕ
  k = layout_of (card_at h c)

  no_entries : (column : ℕ) → can_tie k column ≡ false → misplaced (card_at h c) column ≡ false → column_entries h c column ≡ []
  unfolding column_entries broken kept
  no_entries column e p =
      ap (map (λ i. entry_for h c column (i + 1)))
      (none (λ i. broken_on h (card_at h c) column (i + 1)) (λ i. none-broken h (card_at h c) column e p (i + 1)) (up_to kinds))
    where
      none : (p : ℕ → Bool) → ((i : ℕ) → p i ≡ false) → (l : List ℕ) → kept p l ≡ []
      none p f [] = refl
      none p f (x ∷ l) = rw (f x) (none p f l)

  none_nowhere : column_entries h c 0 ≡ []
  unfolding misplaced
  none_nowhere = no_entries 0 (none_at_zero k) (none-zero k (card_at h c))

  -- a step without a column has no entries
  pub no_step : (left : Bool) (i : ℕ) → get_or (walked left k) i 0 ≡ 0 → step_entries h c left i ≡ []
  unfolding step_entries
  no_step left i e = rw e none_nowhere

  -- the steps of a walk give the entries of all columns
  pub all_steps : (left : Bool) → left ≡ any_left (card_at h c) (fields_of k) → flat_map (step_entries h c left) (up_to 81) ≡ card_entries h c
  unfolding step_entries walked card_entries misplaced tie_columns begins amid
  all_steps true e =
      let g = column_entries h c in
      sym (flat_map-at g none_nowhere (begins k) 81 (begins-few k))
      ∙ ap (flat_map g) (sym (begins-kept k))
      ∙ flat_map-kept g (amid (begins k))
      (λ column q. no_entries column (apart_tie k column q) (apart_left (card_at h c) (fields_of k) column (or-none (eqb 5 column) (amid (map (λ (f : Field). f.first) (fields_of k)) column) q).1)) (up_to 81)
  all_steps false e =
      let g = column_entries h c in
      sym (flat_map-at g none_nowhere (tie_columns k) 81 (omega (arith, at_most_five k)))
      ∙ flat_map-kept g (can_tie k) (λ column q. no_entries column q (none_left (card_at h c) (fields_of k) (sym e) column)) (up_to 81)

  at_sites : kept (broken_site h c) (sites_of (layout_of (card_at h c))) ≡ kept (broken_site h c) (up_to on_card)
  unfolding sites_of broken
  at_sites = kept-within (broken_site h c) (λ i. is_site (layout_of (card_at h c)) (i / kinds + 1) (i % kinds + 1)) (λ i e. not_there i e (broken_site h c i) refl) (up_to on_card)
    where
      not_there : (i : ℕ) → is_site (layout_of (card_at h c)) (i / kinds + 1) (i % kinds + 1) ≡ false → (b : Bool) → broken_site h c i ≡ b
          → broken_site h c i ≡ false
      not_there i e true q = absurd (false≢true (sym e ∙ at_site h (card_at h c) (i / kinds + 1) (i % kinds + 1) q))
      not_there i e false q = q

  in_column : (j : ℕ) → map (site_entry h c) (map (λ i. kinds * j + i) (kept (λ i. broken_site h c (kinds * j + i)) (up_to kinds))) ≡ column_entries h c (j + 1)
  unfolding column_entries
  in_column j =
      map-map (site_entry h c) (λ i. kinds * j + i) (kept (λ i. broken_site h c (kinds * j + i)) (up_to kinds))
      ∙ ap (map (λ i. site_entry h c (kinds * j + i)))
      (kept_same (λ i. broken_site h c (kinds * j + i)) (λ i. broken h c (j + 1) (i + 1)) (up_to kinds) (λ i m. same i (out-of-up_to kinds i m)))
      ∙ map_same (λ i. site_entry h c (kinds * j + i)) (λ i. entry_for h c (j + 1) (i + 1)) (kept (λ i. broken h c (j + 1) (i + 1)) (up_to kinds))
      (λ i m. entry i (out-of-up_to kinds i (out_of_kept (λ i. broken h c (j + 1) (i + 1)) (up_to kinds) m).0))
    where
      same : (i : ℕ) → i < kinds → broken_site h c (kinds * j + i) ≡ broken h c (j + 1) (i + 1)
      same i l =
          let a : (kinds * j + i) / kinds ≡ j = omega arith in
          let b : (kinds * j + i) % kinds ≡ i = omega arith in
          rw (a, b)

      entry : (i : ℕ) → i < kinds → site_entry h c (kinds * j + i) ≡ entry_for h c (j + 1) (i + 1)
      entry i l =
          let a : (kinds * j + i) / kinds ≡ j = omega arith in
          let b : (kinds * j + i) % kinds ≡ i = omega arith in
          rw (a, b)

  on_card_lem : entries_on h c ≡ card_entries h c
  unfolding entries_on card_entries
  on_card_lem =
      let g = column_entries h c in
      ap (map (site_entry h c)) (at_sites ∙ kept-runs (broken_site h c) kinds 80)
      ∙ map-flat_map (site_entry h c) (λ j. map (λ i. kinds * j + i) (kept (λ i. broken_site h c (kinds * j + i)) (up_to kinds))) (up_to 80)
      ∙ flat_map-same _ (λ j. g (j + 1)) (up_to 80) in_column
      ∙ sym (flat_map-shift g 80 ∙ rw none_nowhere)

joined-map : (h l : List ℕ) → joined (map (entry_of h) l) ≡ flat_map (entry_of h) l
unfolding joined flat_map
joined-map h [] = refl
joined-map h (t ∷ l) = ap (λ r. entry_of h t ++ r) (joined-map h l)

module _ (h : List ℕ) where
  card_wise : list_of h ≡ entries_to h (cards_in h)
  unfolding entries_to
  card_wise = card_by_card h ∙ flat_map-same (entries_on h) (card_entries h) (up_to (cards_in h)) (on_card_lem h)

  -- the entries of all cards are those of the faults
  pub all-entries : joined (entries_to h (cards_in h)) ≡ entries h
  unfolding entries
  all-entries = ap joined (sym card_wise) ∙ joined-map h (faults h)

  -- there are as many as faults
  pub all_found : length (entries_to h (cards_in h)) ≡ length (faults h)
  all_found = ap length (sym card_wise) ∙ length-map (faults h) (entry_of h)

sized : (h l : List ℕ) → Sized (map (entry_of h) l)
sized h [] = tt
sized h (t ∷ l) = (entry-size h t, sized h l)

-- stored one after the other they are laid
pub all_laid : (h l : List ℕ) → stored_all l 0 (entries_to h (cards_in h)) ≡ laid entry_size l (entries h)
unfolding entries
all_laid h l =
    ap (stored_all l 0) (sym (card_wise h))
    ∙ stored-laid (map (entry_of h) (faults h)) (sized h (faults h)) l
    ∙ ap (laid entry_size l) (joined-map h (faults h))
