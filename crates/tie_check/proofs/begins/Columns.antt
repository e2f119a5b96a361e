-- The columns where a fault can stand, by the fields of a layout; no other column has one.
use Prim.Native.Nat.{ℕ, zero, suc, ◌+◌, ◌-◌, ◌≤◌, ◌<◌}
use native.Mathlib.Numerals.{add-one}
use native.Mathlib.Decide.{ℕ_discrete, dec_lt}
use native.Mathlib.Omega.{arith}
use mathlib.Core.Path.{◌≡◌, refl, sym, ap, ap₂, subst, ◌∙◌}
use mathlib.Core.Logic.{⊎_elim}
use mathlib.Core.Bool.{Bool, true, false, true≢false, false≢true, ◌&&◌, ◌||◌}
use mathlib.Core.List.{List, [], ◌∷◌, map, Memᴰ}
use lib.Dec.{T, eqb}
use lib.ListN.{length, get_or, drop, length-map, drop_of_length-le, get_or-map, get_or-eq_default}
use lib.Seq.{drop-cons}
use borrow.Author.Tests.{eqb-true}
use Rattle.base_lists.specs.Parts.{alike, kept, up_to}
use Rattle.base_lists.proofs.Comparing.{alike_equal}
use Rattle.base_lists.proofs.Keeping.{out_of_kept, out-of-up_to}
use Rattle.format_layout.specs.declared.Field.{Field}
use Rattle.format_layout.specs.declared.Form.TheVariants.{Angles}
use Rattle.format_layout.specs.Shape.{Layout}
use Rattle.format_layout.specs.Table.{layouts}
use Rattle.format_layout.specs.Layouts.{layout_at, fields_of, label_of, no_field}
use Rattle.format_layout.specs.packed.Rows.{layout_count, unpack, row_of}
use Rattle.format_layout.proofs.Every.{every}
use Rattle.format_layout.proofs.Places.{no_fields}
use Rattle.format_layout.proofs.Columns.{of_layout, after_label}
use Rattle.format_layout.proofs.Numbers.{numbered, found_lies}
use Rattle.format_layout.proofs.Numbering.{row-there, row_inside, row_past, fields-few}
use Rattle.card_field.specs.judging.Fields.{misplaced_on}
use Rattle.card_check.proofs.Walked.{in_order}
use Rattle.tie_rules.specs.Ties.{defines, refers, Tie, ties, line_for, about, states_count, states_own, can_tie, tie_columns}
use Rattle.tie_rules.specs.Faults.{misplaced_among}
use Rattle.tie_rules.specs.packed.Rows.{code_of, line_of, stated_by, row_at}
use Rattle.tie_rules.proofs.columns.Tied.{every as every_line, at_most_five, none-behind, not_among, no_line_in}
use Rattle.tie_laws.proofs.Tests.{both, either}
use Rattle.tie_laws.proofs.Misplaced.{later_none, misplaced-field}
use Rattle.tie_check.specs.packed.Begins.{begins, walked, any_left}

-- where the field with a number begins, and whether its number is misplaced
module _ (k n r : ℕ) (is : r ≡ row_of k (n + 1)) where
  at_next : get_or (begins k) (n + 1) 0 ≡ (get_or (fields_of k) n no_field).first
  unfolding begins
  at_next = ap (λ i. get_or (begins k) i 0) (add-one n) ∙ get_or-map (λ (f : Field). f.first) (fields_of k) n no_field

  field-there : (r ≡ 0 → ⊥) → get_or (fields_of k) n no_field ≡ unpack r
  field-there z =
      let e : n + 1 - 1 ≡ n = omega arith in
      ap (λ i. get_or (fields_of k) i no_field) (sym e) ∙ (numbered k (n + 1) (unpack r) (row-there k n r is z)).is

  none-there : r ≡ 0 → get_or (begins k) (n + 1) 0 ≡ 0
  none-there z = at_next ∙ ap (λ (f : Field). f.first) (get_or-eq_default (fields_of k) no_field {n = n} (row_past k n r is z))

  pub begins-none : r ≡ 0 → (unpack r).first ≡ get_or (begins k) (n + 1) 0
  unfolding unpack
  begins-none z = ap (λ (x : ℕ). (unpack x).first) z ∙ sym (none-there z)

  pub begins-some : (r ≡ 0 → ⊥) → (unpack r).first ≡ get_or (begins k) (n + 1) 0
  begins-some z = ap (λ (f : Field). f.first) (sym (field-there z)) ∙ sym at_next

  module _ (s : List ℕ) where
    pub left_none : r ≡ 0 → misplaced_among (fields_of k) s (get_or (begins k) (n + 1) 0) ≡ false
    left_none z =
        ap (misplaced_among (fields_of k) s) (none-there z)
        ∙ later_none s (6 + length (label_of k)) (fields_of k) (in_order k) 0 (omega arith)

    pub left_some : (r ≡ 0 → ⊥) → misplaced_among (fields_of k) s (get_or (begins k) (n + 1) 0) ≡ misplaced_on s (unpack r) Angles
    left_some z =
        ap (misplaced_among (fields_of k) s) (sym (begins-some z)) ∙ misplaced-field s k (n + 1) (unpack r) (row-there k n r is z)

    -- one field more, on the way over all of them
    split : (r ≡ 0 → ⊥) → drop n (fields_of k) ≡ unpack r ∷ drop (n + 1) (fields_of k)
    split z =
        drop-cons (fields_of k) n no_field (row_inside k n r is z)
        ∙ ap₂ (λ (x : Field) (l : List Field). x ∷ l) (field-there z) (ap (λ i. drop i (fields_of k)) (sym (add-one n)))

    pub any_stops : (r ≡ 0 → ⊥) → misplaced_on s (unpack r) Angles ≡ true → any_left s (drop n (fields_of k)) ≡ true
    unfolding any_left
    any_stops z e = ap (any_left s) (split z) ∙ rw e

    pub any_goes : (r ≡ 0 → ⊥) → misplaced_on s (unpack r) Angles ≡ false
        → any_left s (drop n (fields_of k)) ≡ any_left s (drop (n + 1) (fields_of k))
    unfolding any_left
    any_goes z e = ap (any_left s) (split z) ∙ rw e

    pub any-ends : r ≡ 0 → any_left s (drop n (fields_of k)) ≡ false
    unfolding any_left
    any-ends z = ap (any_left s) (drop_of_length-le (fields_of k) {i = n} (row_past k n r is z))

-- the code's last column has no number
pub left_code : (k : ℕ) (s : List ℕ) → misplaced_among (fields_of k) s (get_or (begins k) 0 0) ≡ false
unfolding begins
left_code k s = later_none s (6 + length (label_of k)) (fields_of k) (in_order k) 5 (omega arith)

-- there is no column 0
pub none-zero : (k : ℕ) (s : List ℕ) → misplaced_among (fields_of k) s 0 ≡ false
none-zero k s = later_none s (6 + length (label_of k)) (fields_of k) (in_order k) 0 (omega arith)

-- where no field has a misplaced number, no column has
pub or-none : (a b : Bool) → (a || b) ≡ false → (a ≡ false) × (b ≡ false)
or-none true b e = absurd (true≢false e)
or-none false b e = (refl, e)

pub none_left : (s : List ℕ) (fs : List Field) → any_left s fs ≡ false → (column : ℕ) → misplaced_among fs s column ≡ false
unfolding any_left misplaced_among
none_left s [] e column = refl
none_left s (f ∷ fs) e column =
    let w = or-none (misplaced_on s f Angles) (any_left s fs) e in
    rw (w.0, none_left s fs w.1 column) (never (eqb f.first column))
  where
    never : (b : Bool) → ((b && false) || false) ≡ false
    never true = refl
    never false = refl

-- a column is one of some
unfoldable pub amid : List ℕ → ℕ → Bool
amid [] x = false
amid (y ∷ l) x = eqb y x || amid l x

-- a column where no field begins has no misplaced number
pub apart_left : (s : List ℕ) (fs : List Field) (column : ℕ) → amid (map (λ (f : Field). f.first) fs) column ≡ false
    → misplaced_among fs s column ≡ false
unfolding amid misplaced_among
apart_left s [] column e = refl
apart_left s (f ∷ fs) column e =
    let w = or-none (eqb f.first column) (amid (map (λ (g : Field). g.first) fs) column) e in
    rw w.0 (apart_left s fs column w.1)

-- and carries no tie: every column of the table is one of these
lines_amid : every_line (λ t. amid (begins t.layout) t.column) ties ≡ true
unfolding ties amid begins layouts layout_at fields_of
lines_amid = refl

about_amid : (ts : List Tie) → every_line (λ t. amid (begins t.layout) t.column) ts ≡ true → (k column : ℕ)
    → about ts k column ≡ true → amid (begins k) column ≡ true
unfolding about
about_amid [] h k column e = absurd (false≢true e)
about_amid (t ∷ ts) h k column e =
    let w = (both (amid (begins t.layout) t.column) _).0 h in
    ⊎_elim
    (λ x.
    let q = (both (eqb t.layout k) (eqb t.column column)).0 x in
    rw (eqb-true t.layout k q.0, eqb-true t.column column q.1) at w.0)
    (λ x. about_amid ts w.1 k column x)
    (either (eqb t.layout k && eqb t.column column) (about ts k column) e)

stated_amid : (a i b j k column : ℕ) → amid (begins a) i ≡ true → amid (begins b) j ≡ true
    → ((eqb k a && eqb column i) || (eqb k b && eqb column j)) ≡ true → amid (begins k) column ≡ true
stated_amid a i b j k column f g e =
    ⊎_elim (λ x. one a i f x) (λ x. one b j g x) (either (eqb k a && eqb column i) (eqb k b && eqb column j) e)
  where
    one : (a i : ℕ) → amid (begins a) i ≡ true → (eqb k a && eqb column i) ≡ true → amid (begins k) column ≡ true
    one a i f x = let q = (both (eqb k a) (eqb column i)).0 x in rw (eqb-true k a q.0, eqb-true column i q.1) f

tied_amid : (k column : ℕ) → can_tie k column ≡ true → amid (begins k) column ≡ true
unfolding can_tie states_count states_own amid begins layouts layout_at fields_of
tied_amid k column e =
    ⊎_elim (about_amid ties lines_amid k column)
    (λ x. ⊎_elim (stated_amid 8 79 12 16 k column refl refl) (stated_amid 8 30 9 7 k column refl refl)
    (either (states_count k column) (states_own k column) x))
    (either (about ties k column) _ e)

pub apart_tie : (k column : ℕ) → amid (begins k) column ≡ false → can_tie k column ≡ false
apart_tie k column e = go (can_tie k column) refl
  where
    go : (b : Bool) → can_tie k column ≡ b → b ≡ false
    go true q = absurd (false≢true (sym e ∙ tied_amid k column q))
    go false q = refl

-- they are what such a test keeps of all columns, so they rise
abbrev sorted : Layout → Bool
sorted l =
    alike (kept (amid (5 ∷ map (λ (f : Field). f.first) l.fields)) (up_to 81)) (5 ∷ map (λ (f : Field). f.first) l.fields)

all_sorted : T (every (λ (i : ℕ). sorted) 0 layouts)
unfolding layouts amid kept up_to alike
all_sorted = tt

true_of : (b : Bool) → T b → b ≡ true
true_of true t = refl
true_of false t = absurd t

no_list : (l : List Field) → length l ≡ 0 → l ≡ []
no_list [] e = refl
no_list (f ∷ l) e = absurd (omega arith)

sorted_inside : (k : ℕ) → k < layout_count → kept (amid (begins k)) (up_to 81) ≡ begins k
unfolding begins fields_of
sorted_inside k h = alike_equal _ _ (true_of _ (of_layout sorted all_sorted k h))

sorted_outside : (k : ℕ) → fields_of k ≡ [] → kept (amid (begins k)) (up_to 81) ≡ begins k
unfolding begins amid kept up_to
sorted_outside k e =
    subst (λ (fs : List Field). kept (amid (5 ∷ map (λ (f : Field). f.first) fs)) (up_to 81) ≡ 5 ∷ map (λ (f : Field). f.first) fs)
    (sym e) refl

pub begins-kept : (k : ℕ) → kept (amid (begins k)) (up_to 81) ≡ begins k
begins-kept k = elim (dec_lt k layout_count) [
  | yes h ↦ sorted_inside k h
  | no h ↦ sorted_outside k (no_list (fields_of k) (no_fields k (omega arith)))
]

-- no more of them than a card has columns, all of them on the card
pub begins-few : (k : ℕ) → length (begins k) ≤ 81
unfolding begins
begins-few k = omega (arith, fields-few k, length-map (fields_of k) (λ (f : Field). f.first))

members_below : (l : List ℕ) (n i : ℕ) → 0 < n → ((x : ℕ) → Memᴰ x l → x < n) → get_or l i 0 < n
members_below [] n i z f = z
members_below (x ∷ l) n zero z f = f x (Memᴰ.head refl)
members_below (x ∷ l) n (suc i) z f = members_below l n i z (λ y m. f y (Memᴰ.tail m))

kept_below : (p : ℕ → Bool) (i : ℕ) → get_or (kept p (up_to 81)) i 0 < 81
kept_below p i = members_below (kept p (up_to 81)) 81 i (omega arith) (λ x m. out-of-up_to 81 x (out_of_kept p (up_to 81) m).0)

pub begins_below : (k i : ℕ) → get_or (begins k) i 0 < 81
begins_below k i = subst (λ (l : List ℕ). get_or l i 0 < 81) (begins-kept k) (kept_below (amid (begins k)) i)

-- where there is none with a number, there is none behind it
begins_positive : (k i : ℕ) → i < length (begins k) → 0 < get_or (begins k) i 0
unfolding begins
begins_positive k zero h = omega arith
begins_positive k (suc i) h =
    let l : i < length (fields_of k) = omega (arith, length-map (fields_of k) (λ (f : Field). f.first)) in
    omega (arith, (after_label k i l).after, get_or-map (λ (f : Field). f.first) (fields_of k) i no_field)

begins_end : (k i : ℕ) → get_or (begins k) i 0 ≡ 0 → (j : ℕ) → i ≤ j → get_or (begins k) j 0 ≡ 0
begins_end k i e j l = elim (dec_lt i (length (begins k))) [
  | yes m ↦ absurd (omega (arith, begins_positive k i m, e))
  | no m ↦ get_or-eq_default (begins k) 0 {n = j} (omega arith)
]

-- so it is of the columns that are walked over
pub walked_below : (left : Bool) (k i : ℕ) → get_or (walked left k) i 0 < 81
unfolding walked tie_columns
walked_below true k i = begins_below k i
walked_below false k i = kept_below (can_tie k) i

pub walked_end : (left : Bool) (k i : ℕ) → get_or (walked left k) i 0 ≡ 0 → (j : ℕ) → i ≤ j → get_or (walked left k) j 0 ≡ 0
unfolding walked
walked_end true k i e j l = begins_end k i e j l
walked_end false k i e j l = none-behind k i e j l

-- the same by a number that is another than 0
module _ (k i r : ℕ) (some : i ≡ 0 → ⊥) (is : r ≡ row_of k i) where
  back : i - 1 + 1 ≡ i
  back = omega arith

  same : r ≡ row_of k (i - 1 + 1)
  same = is ∙ ap (row_of k) (sym back)

  pub column-begins : (unpack r).first ≡ get_or (begins k) i 0
  column-begins = elim (ℕ_discrete r 0) [
    | yes z ↦ begins-none k (i - 1) r same z ∙ ap (λ j. get_or (begins k) j 0) back
    | no z ↦ begins-some k (i - 1) r same z ∙ ap (λ j. get_or (begins k) j 0) back
  ]

  pub none-begins : (s : List ℕ) → r ≡ 0 → misplaced_among (fields_of k) s (get_or (begins k) i 0) ≡ false
  none-begins s z =
      ap (λ j. misplaced_among (fields_of k) s (get_or (begins k) j 0)) (sym back) ∙ left_none k (i - 1) r same s z

  module _ (z : r ≡ 0 → ⊥) where
    pub left_begins : (s : List ℕ) → misplaced_among (fields_of k) s (get_or (begins k) i 0) ≡ misplaced_on s (unpack r) Angles
    left_begins s =
        ap (λ j. misplaced_among (fields_of k) s (get_or (begins k) j 0)) (sym back) ∙ left_some k (i - 1) r same s z

    -- it lies on the card
    pub row_lies : (1 ≤ (unpack r).first) × ((unpack r).first ≤ (unpack r).last) × ((unpack r).last ≤ 80)
    row_lies =
        let l = found_lies k (i - 1 + 1) (unpack r) (row-there k (i - 1) r same z) in
        (omega (arith, l.after), l.forward, l.on_card)

-- a column that is in no slot carries no tie, and its row is the column alone
not_in : (x : ℕ) (l : List ℕ) (n : ℕ) → length l ≤ n → ((j : ℕ) → j < n → get_or l j 0 ≡ x → ⊥) → Memᴰ x l → ⊥
not_in x [] n h f m = elim m [ ]
not_in x (y ∷ l) zero h f m = omega arith
not_in x (y ∷ l) (suc n) h f (Memᴰ.head e) = f 0 (omega arith) (sym e)
not_in x (y ∷ l) (suc n) h f (Memᴰ.tail m) = not_in x l n (omega arith) (λ j i. f (suc j) (omega arith)) m

idle_row : (k column : ℕ) → can_tie k column ≡ false → column ≡ row_at k column
unfolding can_tie row_at stated_by line_for line_of code_of
idle_row k column e =
    let rest = or-none (about ties k column) (states_count k column || states_own k column) e in
    let w = or-none (states_count k column) (states_own k column) rest.1 in
    rw (no_line_in ties refers k column rest.0, no_line_in ties defines k column rest.0, w.0, w.1) (omega arith)

pub row_alone : (k column : ℕ) → column ≤ 80 → ((j : ℕ) → j < 5 → get_or (tie_columns k) j 0 ≡ column → ⊥) → column ≡ row_at k column
row_alone k column l f =
    idle_row k column (not_among k column (omega arith) (not_in column (tie_columns k) 5 (at_most_five k) f))
