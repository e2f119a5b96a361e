-- The list of faults is complete: what is broken and nothing else, in order, once each; a lent list holds the first of it.
use Prim.Native.Nat.{ℕ, zero, suc, ◌+◌, ◌*◌, ◌-◌, ◌/◌, ◌%◌, ◌≤◌, ◌<◌, min}
use native.Mathlib.Nat.{not-suc-le-zero, le_of_suc-le-suc}
use native.Mathlib.Decide.{dec_lt}
use native.Mathlib.Omega.{arith}
use mathlib.Core.Path.{◌≡◌, refl, sym, ap, ◌∙◌}
use mathlib.Core.Logic.{◌↔◌, ◌⊎◌, inl, inr}
use mathlib.Core.Bool.{true}
use mathlib.Core.List.{List, [], ◌∷◌, map, Memᴰ}
use lib.ListN.{length, get_or, length-map}
use Rattle.base_lists.specs.Count.{count}
use Rattle.base_lists.specs.Laid.{laid}
use Rattle.base_lists.specs.Parts.{part, up_to}
use Rattle.base_lists.proofs.Keeping.{out_of_kept, into_kept, length-kept, out-of-up_to, into-up_to}
use Rattle.base_lists.proofs.Rising.{rising_kept, rising-up_to, rising_order}
use Rattle.base_lists.proofs.Laying.{fitting-entries, length-laid, laid-entry, laid_past}
use Rattle.base_lists.proofs.Entries.{length-entries, part-entries}
use Rattle.header_check.specs.forms.Cards.{card_at, cards_in}
use Rattle.tie_rules.specs.Keys.{vessel_of}
use Rattle.tie_rules.specs.Faults.{kinds, broken, on_card, triples, broken_at, faults, entry_size, entry_of, entries}
use Rattle.tie_laws.proofs.Sites.{broken_bounds}

-- the list as entries: the card, counted from 1, the column, the kind, the vessel
abbrev pub list_of : List ℕ → List (List ℕ)
list_of h = map (entry_of h) (faults h)

-- a broken tie of the header: its card and column, both counted from 1, its kind, and the vessel digit in the card's code
pub record Fault (h : List ℕ) (card column kind vessel : ℕ) : Type 0 where
  pub first_card : 1 ≤ card
  pub last_card : card ≤ cards_in h
  pub first-column : 1 ≤ column
  pub last-column : column ≤ 80
  pub first_kind : 1 ≤ kind
  pub last_kind : kind ≤ kinds
  pub is-broken : broken h (card - 1) column kind ≡ true
  pub is_vessel : vessel ≡ vessel_of (card_at h (card - 1))

-- the numbers of an entry
abbrev pub card_number : List ℕ → ℕ
card_number e = get_or e 0 0

abbrev pub column_number : List ℕ → ℕ
column_number e = get_or e 1 0

abbrev pub kind_number : List ℕ → ℕ
kind_number e = get_or e 2 0

abbrev pub vessel_number : List ℕ → ℕ
vessel_number e = get_or e 3 0

-- one entry comes before another: by card, then by column, then by kind
abbrev pub Before : List ℕ → List ℕ → Type 0
Before a b =
    (card_number a < card_number b)
    ⊎ ((card_number a ≡ card_number b)
    × ((column_number a < column_number b) ⊎ ((column_number a ≡ column_number b) × (kind_number a < kind_number b))))

-- the number of the triple with a card, from 1, a column and a kind
abbrev number_of : ℕ → ℕ → ℕ → ℕ
number_of card column kind = on_card * (card - 1) + kinds * (column - 1) + (kind - 1)

entry-numbered : (card column kind : ℕ) → 1 ≤ card → 1 ≤ column → column ≤ 80 → 1 ≤ kind → kind ≤ kinds
    → (number_of card column kind / on_card + 1 ≡ card) × (number_of card column kind / kinds % 80 + 1 ≡ column)
    × (number_of card column kind % kinds + 1 ≡ kind)
entry-numbered card column kind a b c d e = omega arith

get_d_map {ℓ κ} : {A : Type ℓ} {B : Type κ} (f : A → B) (l : List A) (i : ℕ) (a : A) (b : B) → i < length l
    → get_or (map f l) i b ≡ f (get_or l i a)
get_d_map f [] i a b h = absurd (not-suc-le-zero h)
get_d_map f (x ∷ l) zero a b h = refl
get_d_map f (x ∷ l) (suc i) a b h = get_d_map f l i a b (le_of_suc-le-suc h)

-- numbers that go up give entries that go up
numbers_before : (h : List ℕ) (t u : ℕ) → t < u → Before (entry_of h t) (entry_of h u)
unfolding entry_of
numbers_before h t u l = elim (dec_lt (t / on_card) (u / on_card)) [
  | yes a ↦ inl (omega arith)
  | no a ↦ inr (
    omega arith,
    elim (dec_lt (t / kinds % 80) (u / kinds % 80)) [
      | yes b ↦ inl (omega arith)
      | no b ↦ inr (omega arith, omega arith)
    ],
  )
]

pub entry-size : (h : List ℕ) (t : ℕ) → length (entry_of h t) ≡ entry_size
unfolding entry_of
entry-size h t = refl

module _ (h : List ℕ) where
  -- the number of a fault is among the faults
  fault_kept : (card column kind vessel : ℕ) → Fault h card column kind vessel → Memᴰ (number_of card column kind) (faults h)
  unfolding faults triples broken_at
  fault_kept card column kind vessel f =
      let n : ℕ = number_of card column kind in
      let q = entry-numbered card column kind f.first_card f.first-column f.last-column f.first_kind f.last_kind in
      let c : n / on_card ≡ card - 1 = omega (arith, q.0) in
      let m : Memᴰ n (up_to (on_card * cards_in h)) = into-up_to (on_card * cards_in h) n (omega (arith, f.first_card, f.last_card, f.last-column, f.last_kind)) in
      into_kept (broken_at h) (up_to (on_card * cards_in h)) m (rw (c, q.1, q.2) f.is-broken)

  -- a number among the faults is that of a fault
  kept_fault : (t : ℕ) → Memᴰ t (faults h)
      → Fault h (t / on_card + 1) (t / kinds % 80 + 1) (t % kinds + 1) (vessel_of (card_at h (t / on_card)))
  unfolding faults triples broken_at
  kept_fault t m =
      let r = out_of_kept (broken_at h) (up_to (on_card * cards_in h)) m in
      let l : t < on_card * cards_in h = out-of-up_to (on_card * cards_in h) t r.0 in
      let c : t / on_card + 1 - 1 ≡ t / on_card = omega arith in
      record {
        first_card = omega arith;
        last_card = omega arith;
        first-column = omega arith;
        last-column = omega arith;
        first_kind = omega arith;
        last_kind = omega arith;
        is-broken = rw c r.1;
        is_vessel = rw c;
      }

  is-listed : (card column kind vessel : ℕ) → Fault h card column kind vessel
      → Memᴰ (card ∷ column ∷ kind ∷ vessel ∷ []) (list_of h)
  unfolding entry_of
  is-listed card column kind vessel f =
      let n : ℕ = number_of card column kind in
      let q = entry-numbered card column kind f.first_card f.first-column f.last-column f.first_kind f.last_kind in
      let c : n / on_card ≡ card - 1 = omega (arith, q.0) in
      let v : vessel_of (card_at h (n / on_card)) ≡ vessel = rw c (sym f.is_vessel) in
      let e : entry_of h n ≡ card ∷ column ∷ kind ∷ vessel ∷ [] = rw (q.0, q.1, q.2, v) in
      mathlib.Core.List.Memᴰ.cast (sym e) (mathlib.Core.List.Memᴰ.map (entry_of h) (fault_kept card column kind vessel f))

  -- every entry of the list is four numbers, those of a fault
  pub only-faults : (e : List ℕ) → Memᴰ e (list_of h)
      → (card : ℕ) × (column : ℕ) × (kind : ℕ) × (vessel : ℕ) × (e ≡ card ∷ column ∷ kind ∷ vessel ∷ []) × Fault h card column kind vessel
  unfolding entry_of
  only-faults e m =
      let r = mathlib.Core.List.Memᴰ.of_map (entry_of h) (faults h) m in
      let t = r.0 in
      (t / on_card + 1, t / kinds % 80 + 1, t % kinds + 1, vessel_of (card_at h (t / on_card)), sym r.2, kept_fault t r.1)

  told_by_lem : {a b c d w x y z : ℕ} → (a ∷ b ∷ c ∷ d ∷ []) ≡ (w ∷ x ∷ y ∷ z ∷ []) → Fault h w x y z → Fault h a b c d
  told_by_lem {a} {b} {c} {d} {w} {x} {y} {z} e f =
      let p : a ≡ w = ap card_number e in
      let q : b ≡ x = ap column_number e in
      let r : c ≡ y = ap kind_number e in
      let s : d ≡ z = ap vessel_number e in
      rw (p, q, r, s) f

  is_fault : (card column kind vessel : ℕ) → Memᴰ (card ∷ column ∷ kind ∷ vessel ∷ []) (list_of h)
      → Fault h card column kind vessel
  is_fault card column kind vessel m = let r = only-faults (card ∷ column ∷ kind ∷ vessel ∷ []) m in told_by_lem r.4 r.5

  -- four numbers are an entry of the list exactly where they are those of a fault
  pub listed_exactly : (card column kind vessel : ℕ)
      → Memᴰ (card ∷ column ∷ kind ∷ vessel ∷ []) (list_of h) ↔ Fault h card column kind vessel
  listed_exactly card column kind vessel = (is_fault card column kind vessel, is-listed card column kind vessel)

  -- so for every card, counted from 0, and whatever column and kind
  pub broken-listed : (c column kind vessel : ℕ) → c < cards_in h
      → Memᴰ ((c + 1) ∷ column ∷ kind ∷ vessel ∷ []) (list_of h) ↔ ((broken h c column kind ≡ true) × (vessel ≡ vessel_of (card_at h c)))
  broken-listed c column kind vessel l = (
    λ m. let f = is_fault (c + 1) column kind vessel m in (rw back at f.is-broken, rw back at f.is_vessel),
    λ e. let b = broken_bounds h c column kind e.0 in is-listed (c + 1) column kind vessel (record {
      first_card = omega arith;
      last_card = omega arith;
      first-column = b.0.0;
      last-column = b.0.1;
      first_kind = b.1.0;
      last_kind = b.1.1;
      is-broken = rw back e.0;
      is_vessel = rw back e.1;
    }),
  )
    where
      back : c + 1 - 1 ≡ c
      back = omega arith

  goes_up : (i j : ℕ) → i < j → j < length (faults h) → get_or (faults h) i 0 < get_or (faults h) j 0
  unfolding faults
  goes_up =
      rising_order (λ t. t) 0 (faults h) 0 (rising_kept (λ t. t) (broken_at h) (up_to (triples h)) 0 (rising-up_to (triples h)))

  -- of two entries the later one comes after the earlier one
  pub in_order : (i j : ℕ) → i < j → j < length (list_of h) → Before (get_or (list_of h) i []) (get_or (list_of h) j [])
  in_order i j l n =
      let m : j < length (faults h) = rw (length-map (faults h) (entry_of h)) at n in
      rw (get_d_map (entry_of h) (faults h) i 0 [] (omega arith), get_d_map (entry_of h) (faults h) j 0 [] m)
      (numbers_before h (get_or (faults h) i 0) (get_or (faults h) j 0) (goes_up i j l m))

  -- no entry stands in the list twice
  pub once : (i j : ℕ) → i < length (list_of h) → j < length (list_of h) → get_or (list_of h) i [] ≡ get_or (list_of h) j [] → i ≡ j
  once i j l m e = elim (dec_lt i j) [
    | yes a ↦ absurd (apart (in_order i j a m) e)
    | no a ↦ elim (dec_lt j i) [ yes b ↦ absurd (apart (in_order j i b l) (sym e)) | no b ↦ omega arith ]
  ]
    where
      apart : {a b : List ℕ} → Before a b → a ≡ b → ⊥
      apart (inl x) q = omega (arith, ap card_number q)
      apart (inr (c, inl x)) q = omega (arith, ap column_number q)
      apart (inr (c, inr x)) q = omega (arith, ap kind_number q, x.1)

  -- as many entries as there are triples that are broken
  pub how_many : length (list_of h) ≡ count (broken_at h) (triples h)
  unfolding faults
  how_many = length-map (faults h) (entry_of h) ∙ length-kept (broken_at h) (triples h)

  -- The list as it is written into one that was lent, entry by entry.

  pub whole-entries : length (entries h) ≡ entry_size * length (list_of h)
  unfolding entries
  whole-entries = rw (length-map (faults h) (entry_of h)) (length-entries (entry_of h) entry_size (entry-size h) (faults h))

  module _ (l : List ℕ) where
    -- as many entries as there are, or as there is room for
    abbrev pub written : ℕ
    written = min (length (list_of h)) (length l / entry_size)

    -- the lent list stays as long as it was
    pub same_length : length (laid entry_size l (entries h)) ≡ length l
    same_length = length-laid entry_size l (entries h)

    -- each entry that is written is the one of the list
    pub first-entries : (i : ℕ) → i < written → part entry_size (laid entry_size l (entries h)) i ≡ get_or (list_of h) i []
    unfolding entries
    first-entries i n =
        let m : i < length (faults h) = omega (arith, length-map (faults h) (entry_of h)) in
        laid-entry entry_size l (entries h) (length (list_of h)) whole-entries i n
        ∙ part-entries (entry_of h) entry_size (entry-size h) (faults h) i 0 m
        ∙ sym (get_d_map (entry_of h) (faults h) i 0 [] m)

    -- each number behind them is as it was
    pub rest_unchanged : (i : ℕ) → entry_size * written ≤ i → get_or (laid entry_size l (entries h)) i 0 ≡ get_or l i 0
    rest_unchanged i n =
        let w : List ℕ = entries h in
        laid_past entry_size l w i 0 (omega (arith, fitting-entries entry_size l w (length (list_of h)) whole-entries))
