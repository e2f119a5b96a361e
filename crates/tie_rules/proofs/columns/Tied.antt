-- The columns that can carry a broken tie, layout by layout; no other column has a part in one.
use Prim.Native.Nat.{ℕ, zero, suc, ◌≤◌, ◌<◌}
use native.Mathlib.Omega.{arith}
use native.Mathlib.Decide.{dec_lt}
use mathlib.Core.Path.{◌≡◌, refl, sym, ap, ◌∙◌}
use mathlib.Core.Bool.{Bool, true, false, true≢false, cond, ◌&&◌, ◌||◌}
use mathlib.Core.List.{List, [], ◌∷◌, map, Memᴰ}
use lib.Dec.{eqb, leb, ltb}
use lib.ListN.{length, get_or, get_or-eq_default}
use borrow.Author.Tests.{ne_eqb, eqb-true, leb-true, lt-leb, ltb-true}
use Rattle.base_digits.proofs.digits.Bools.{and_left, and_right}
use Rattle.base_lists.specs.Parts.{kept, up_to, Rising}
use Rattle.base_lists.proofs.Keeping.{into_kept, into-up_to}
use Rattle.base_lists.proofs.Rising.{rising_kept, rising-up_to, rising_order}
use Rattle.header_check.specs.forms.Cards.{layout_of}
use Rattle.tie_rules.specs.Ties.{Role, defines, Tie, ties, no_tie, line_in, line_for, same_role, has_vessel, about, states_count, states_own, can_tie, tie_columns}
use Rattle.format_layout.specs.Names.{H00X8, H00X9, H0100, H17X0, H17X1, H21X0, H21X1, H21X2, H21X3, H22X0, H23X0, H16X1, H51X0}
use Rattle.tie_rules.specs.Keys.{key_in, class_at, key_at}

-- the columns of the layouts 0 to 30
pub all-columns : map tie_columns (up_to 31)
    ≡ [] ∷ [] ∷ [] ∷ [] ∷ [] ∷ [] ∷ [] ∷ [] ∷ (30 ∷ 79 ∷ []) ∷ (7 ∷ 9 ∷ 39 ∷ []) ∷ [] ∷ [] ∷ (7 ∷ 16 ∷ []) ∷ (7 ∷ []) ∷
    (5 ∷ []) ∷ (7 ∷ 9 ∷ []) ∷ (7 ∷ []) ∷ (7 ∷ []) ∷ (7 ∷ []) ∷ (7 ∷ []) ∷ [] ∷ [] ∷ (7 ∷ 11 ∷ 16 ∷ 36 ∷ 41 ∷ []) ∷ [] ∷
    (7 ∷ []) ∷ [] ∷ (9 ∷ []) ∷ (7 ∷ []) ∷ (7 ∷ 29 ∷ []) ∷ (7 ∷ 29 ∷ 34 ∷ 39 ∷ []) ∷ (7 ∷ []) ∷ []
unfolding tie_columns kept up_to can_tie about ties states_count states_own
all-columns = refl

-- a test that nothing passes keeps nothing
pub none_kept : (p : ℕ → Bool) → ((x : ℕ) → p x ≡ false) → (l : List ℕ) → kept p l ≡ []
unfolding kept
none_kept p h [] = refl
none_kept p h (x ∷ l) = rw (h x) (none_kept p h l)

-- a test of every number below n
abbrev pub below : (ℕ → Bool) → ℕ → Bool
below p zero = true
below p (suc n) = below p n && p n

at_below : (p : ℕ → Bool) (n : ℕ) → below p n ≡ true → (i : ℕ) → i < n → p i ≡ true
at_below p zero h i l = absurd (omega arith)
at_below p (suc n) h i l = elim (dec_lt i n) [
  | yes m ↦ at_below p n (and_left _ _ h) i m
  | no m ↦ let e : i ≡ n = omega arith in ap p e ∙ and_right (below p n) _ h
]

-- a rule of every line of the table
abbrev pub every : (Tie → Bool) → List Tie → Bool
every f [] = true
every f (t ∷ ts) = f t && every f ts

-- a number that no layout has
module _ (k : ℕ) (high : 31 ≤ k) where
  no_line : (column : ℕ) (ts : List Tie) → every (λ t. ltb t.layout 31) ts ≡ true → about ts k column ≡ false
  unfolding about
  no_line column [] h = refl
  no_line column (t ∷ ts) h =
      let low = ltb-true t.layout 31 (and_left (ltb t.layout 31) _ h) in
      rw (ne_eqb t.layout k (λ e. omega (arith, low, e))) (no_line column ts (and_right (ltb t.layout 31) _ h))

  none_can : (column : ℕ) → can_tie k column ≡ false
  unfolding can_tie ties states_count states_own
  none_can column = rw (
    no_line column ties refl,
    ne_eqb k H00X8 (λ e. omega arith),
    ne_eqb k H00X9 (λ e. omega arith),
    ne_eqb k H0100 (λ e. omega arith),
  )

  -- has no such columns, and no vessel digit
  pub past_columns : tie_columns k ≡ []
  unfolding tie_columns
  past_columns = none_kept (can_tie k) none_can (up_to 81)

  pub past_vessels : has_vessel k ≡ false
  unfolding has_vessel
  past_vessels = rw (
    ne_eqb k H00X8 (λ e. omega arith),
    ne_eqb k H00X9 (λ e. omega arith),
    ne_eqb k H17X0 (λ e. omega arith),
    ne_eqb k H17X1 (λ e. omega arith),
    ne_eqb k H21X0 (λ e. omega arith),
    ne_eqb k H21X1 (λ e. omega arith),
    ne_eqb k H21X2 (λ e. omega arith),
    ne_eqb k H21X3 (λ e. omega arith),
    ne_eqb k H22X0 (λ e. omega arith),
    ne_eqb k H23X0 (λ e. omega arith),
    ne_eqb k H16X1 (λ e. omega arith),
    ne_eqb k H51X0 (λ e. omega arith),
  )

-- a test of the columns of each layout, and of none, is one of the columns of any
pub of_columns : (f : List ℕ → Bool) → below (λ k. f (tie_columns k)) 31 ≡ true → f [] ≡ true → (k : ℕ) → f (tie_columns k) ≡ true
of_columns f h none k = elim (dec_lt k 31) [
  | yes l ↦ at_below (λ j. f (tie_columns j)) 31 h k l
  | no l ↦ ap f (past_columns k (omega arith)) ∙ none
]

-- no layout has more than five
pub at_most_five : (k : ℕ) → length (tie_columns k) ≤ 5
unfolding tie_columns kept up_to can_tie about ties states_count states_own
at_most_five k = leb-true (length (tie_columns k)) 5 (of_columns (λ l. leb (length l) 5) refl refl k)

-- only H22@0 has five, and the first of them defines nothing
fifths : below (λ k. eqb k H22X0 || eqb (get_or (tie_columns k) 4 0) 0) 31 ≡ true
unfolding tie_columns kept up_to can_tie about ties states_count states_own
fifths = refl

pub no_fifth : (k : ℕ) → (k ≡ H22X0 → ⊥) → get_or (tie_columns k) 4 0 ≡ 0
no_fifth k other = elim (dec_lt k 31) [
  | yes l ↦
      let h = at_below (λ j. eqb j H22X0 || eqb (get_or (tie_columns j) 4 0) 0) 31 fifths k l in
      eqb-true (get_or (tie_columns k) 4 0) 0 (rw (ne_eqb k H22X0 other) at h)
  | no l ↦ ap (λ (c : List ℕ). get_or c 4 0) (past_columns k (omega arith))
]

pub first_of_five : line_for defines H22X0 (get_or (tie_columns H22X0) 0 0) ≡ no_tie
unfolding tie_columns kept up_to can_tie about ties states_count states_own line_for line_in
first_of_five = refl

-- every column of a layout is one
abbrev numbered : List ℕ → Bool
numbered l = below (λ i. leb (length l) i || ltb 0 (get_or l i 0)) 5

all-numbered : (k : ℕ) → numbered (tie_columns k) ≡ true
unfolding tie_columns kept up_to can_tie about ties states_count states_own
all-numbered k = of_columns numbered refl refl k

some-column : (k slot : ℕ) → slot < length (tie_columns k) → 0 < get_or (tie_columns k) slot 0
some-column k slot l =
    let h = at_below (λ i. leb (length (tie_columns k)) i || ltb 0 (get_or (tie_columns k) i 0)) 5 (all-numbered k) slot
    (omega (arith, at_most_five k)) in
    ltb-true 0 (get_or (tie_columns k) slot 0) (rw (lt-leb (length (tie_columns k)) slot l) at h)

-- where a slot has no column, those behind it have none
pub none-behind : (k slot : ℕ) → get_or (tie_columns k) slot 0 ≡ 0 → (i : ℕ) → slot ≤ i → get_or (tie_columns k) i 0 ≡ 0
none-behind k slot e i l = elim (dec_lt slot (length (tie_columns k))) [
  | yes m ↦ absurd (omega (arith, some-column k slot m, e))
  | no m ↦ get_or-eq_default (tie_columns k) 0 {n = i} (omega arith)
]

-- they rise
pub columns_rise : (k : ℕ) → Rising (λ (c : ℕ). c) (tie_columns k)
unfolding tie_columns
columns_rise k = rising_kept (λ (c : ℕ). c) (can_tie k) (up_to 81) 0 (rising-up_to 81)

-- a column that is not among them cannot carry a broken tie
pub not_among : (k column : ℕ) → column < 81 → (Memᴰ column (tie_columns k) → ⊥) → can_tie k column ≡ false
unfolding tie_columns
not_among k column l no_member = go (can_tie k column) refl
  where
    go : (b : Bool) → can_tie k column ≡ b → b ≡ false
    go true e = absurd (no_member (into_kept (can_tie k) (up_to 81) (into-up_to 81 column l) e))
    go false e = refl

and_false : (b : Bool) → (b && false) ≡ false
and_false true = refl
and_false false = refl

-- there is no column 0
pub none_at_zero : (k : ℕ) → can_tie k 0 ≡ false
unfolding can_tie about ties states_count states_own
none_at_zero k = simp and_false

-- it does nothing in either role, and states neither a count nor the card's own vessel
pub or_left : (a b : Bool) → (a || b) ≡ false → a ≡ false
or_left true b h = h
or_left false b h = refl

pub or_right : (a b : Bool) → (a || b) ≡ false → b ≡ false
or_right true b h = absurd (true≢false h)
or_right false b h = h

pub no_line_in : (ts : List Tie) (r : Role) (k column : ℕ) → about ts k column ≡ false → line_in ts r k column ≡ no_tie
unfolding about line_in
no_line_in [] r k column h = refl
no_line_in (t ∷ ts) r k column h =
    go (same_role t.role r) (eqb t.layout k && eqb t.column column) (or_left _ _ h)
    (no_line_in ts r k column (or_right (eqb t.layout k && eqb t.column column) _ h))
  where
    go : (a b : Bool) → b ≡ false → line_in ts r k column ≡ no_tie → cond (a && b) t (line_in ts r k column) ≡ no_tie
    go true b e q = rw e q
    go false b e q = q

pub record Idle (s : List ℕ) (column : ℕ) : Type 0 where
  pub class : (r : Role) → class_at r s column ≡ 0
  pub key : (r : Role) → key_at r s column ≡ []
  pub count : states_count (layout_of s) column ≡ false
  pub own : states_own (layout_of s) column ≡ false

pub idle : (s : List ℕ) (column : ℕ) → can_tie (layout_of s) column ≡ false → Idle s column
unfolding can_tie class_at key_at line_for key_in
idle s column h =
    let k = layout_of s in
    let line : (r : Role) → line_in ties r k column ≡ no_tie = λ r. no_line_in ties r k column (or_left _ _ h) in
    let rest = or_right (about ties k column) _ h in
    record {
      class = λ r. ap (λ (t : Tie). t.class) (line r);
      key = λ r. ap (λ (t : Tie). key_in t.source s) (line r);
      count = or_left _ _ rest;
      own = or_right (states_count k column) _ rest;
    }

-- where a member stands
record At (l : List ℕ) (x : ℕ) : Type 0 where
  place : ℕ
  inside : place < length l
  is : get_or l place 81 ≡ x

at_of : (l : List ℕ) (x : ℕ) → Memᴰ x l → At l x
at_of [] x x3 = elim x3 [ ]
at_of (y ∷ l) x (Memᴰ.head e) = record { place = 0; inside = omega arith; is = sym e }
at_of (y ∷ l) x (Memᴰ.tail m) =
    let a = at_of l x m in
    record { place = suc a.place; inside = omega (arith, a.inside); is = a.is }

-- the column before a slot: 0 before the first, 81 behind the last
abbrev pub passed : ℕ → ℕ → ℕ
passed k zero = 0
passed k (suc slot) = get_or (tie_columns k) slot 81

-- between the columns of two slots none can carry a broken tie
pub between_slots : (k slot x : ℕ) → passed k slot < x → x < get_or (tie_columns k) slot 81 → x < 81 → can_tie k x ≡ false
between_slots k slot x l m n = not_among k x n (λ member. apart slot (at_of (tie_columns k) x member) l m)
  where
    order : (i j : ℕ) → i < j → j < length (tie_columns k) → get_or (tie_columns k) i 81 < get_or (tie_columns k) j 81
    order i j = rising_order (λ (c : ℕ). c) 81 (tie_columns k) 0 (columns_rise k) i j

    early : (i : ℕ) → (a : At (tie_columns k) x) → a.place ≤ i → get_or (tie_columns k) i 81 < x → ⊥
    early i a h q = elim (dec_lt i (length (tie_columns k))) [
      | yes u ↦ elim (dec_lt a.place i) [
        | yes v ↦ omega (arith, order a.place i v u, a.is)
        | no v ↦ let e : a.place ≡ i = omega arith in omega (arith, a.is, ap (λ j. get_or (tie_columns k) j 81) e)
      ]
      | no u ↦ omega (arith, get_or-eq_default (tie_columns k) 81 {n = i} (omega arith))
    ]

    late : (i : ℕ) → (a : At (tie_columns k) x) → i ≤ a.place → x < get_or (tie_columns k) i 81 → ⊥
    late i a h q = elim (dec_lt i a.place) [
      | yes v ↦ omega (arith, order i a.place v a.inside, a.is)
      | no v ↦ let e : a.place ≡ i = omega arith in omega (arith, a.is, ap (λ j. get_or (tie_columns k) j 81) e)
    ]

    apart : (i : ℕ) → At (tie_columns k) x → passed k i < x → x < get_or (tie_columns k) i 81 → ⊥
    apart zero a p q = late 0 a (omega arith) q
    apart (suc i) a p q = elim (dec_lt i a.place) [
      | yes v ↦ late (suc i) a v q
      | no v ↦ early i a (omega arith) p
    ]
