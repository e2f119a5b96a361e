-- The lines of the table: which one a `match` picks, and what it holds.
use mathlib.Core.Path.{◌≡◌, refl, sym, ◌∙◌, ap}
use mathlib.Core.List.{List, [], ◌∷◌, map}
use Prim.Native.Nat.{ℕ, zero, suc, ◌+◌, ◌-◌, ◌<◌, ◌≤◌}
use native.Mathlib.Nat.{le_of_suc-le-suc, not-suc-le-zero}
use native.Mathlib.Omega.{arith}
use native.Mathlib.Decide.{dec_lt}
use borrow.Author.Tests.{ne_eqb, le-leb, lt-leb}
use lib.ListN.{length, get_or, get_or-map, get_or-eq_default, length-map}
use Rattle.format_layout.specs.declared.Field.{Field}
use Rattle.format_layout.specs.Shape.{Layout}
use Rattle.format_layout.specs.Table.{layouts}
use Rattle.format_layout.specs.Layouts.{layout_at, fields_of, field_of, no_field}
use Rattle.format_layout.specs.packed.Rows.{layout_count, kind_of, range_of, pack, unpack, head_of, word_of, row_of, found_in}
use Rattle.format_layout.proofs.Places.{empty, past}
use Rattle.std.specs.Prelude.{Option, Some, None}

-- the last arm of a `match`: the number is none of so many, from one on
abbrev pub Others : ℕ → ℕ → ℕ → Type 0
Others a zero q = Unit
Others a (suc m) q = Others a m q × (q ≡ a + m → ⊥)

pub above : (a m q : ℕ) → a ≤ q → Others a m q → a + m ≤ q
above a zero q h o = omega arith
above a (suc m) q h o =
    let l : a + m ≤ q = above a m q h o.0 in
    elim (dec_lt (a + m) q) [
      | yes g ↦ omega arith
      | no g ↦ absurd (o.1 (omega arith))
    ]

-- fields

pub same_row : (k n p q : ℕ) → p ≡ k → q ≡ n → row_of k n ≡ row_of p q
same_row k n p q e f = rw (e, f)

beyond : (l : List ℕ) (q : ℕ) → Others 0 (length l) q → 0 ≡ get_or l q 0
beyond l q o = sym (get_or-eq_default l 0 (omega (arith, above 0 (length l) q (omega arith) o)))

pub past_fields : (k p q : ℕ) → p ≡ k → Others 0 (suc (length (map pack (fields_of k)))) q → 0 ≡ row_of p q
unfolding row_of
past_fields k p q e o = rw e (beyond (word_of (layout_at k).code ∷ map pack (fields_of k)) q o)

zero-only : (q : ℕ) → 0 ≡ get_or (word_of empty.code ∷ map pack empty.fields) q 0
unfolding word_of head_of
zero-only zero = refl
zero-only (suc q) = refl

pub past_rows : (p q : ℕ) → layout_count ≤ p → 0 ≡ row_of p q
unfolding row_of fields_of
past_rows p q h =
    zero-only q
    ∙ ap (λ (l : Layout). get_or (word_of l.code ∷ map pack l.fields) q 0) (sym (past p h))

-- what the number of a field holds is the field

all_found : map (λ (l : Layout). map found_in (map pack l.fields)) layouts ≡ map (λ (l : Layout). map Some l.fields) layouts
unfolding layouts found_in unpack kind_of range_of
all_found = refl

fields-found : (k : ℕ) → map found_in (map pack (fields_of k)) ≡ map Some (fields_of k)
unfolding fields_of layout_at
fields-found k =
    sym (get_or-map (λ (l : Layout). map found_in (map pack l.fields)) layouts k empty)
    ∙ ap (λ (l : List (List (Option Field))). get_or l k []) all_found ∙ get_or-map (λ (l : Layout). map Some l.fields) layouts k empty

there : (fs : List Field) (i : ℕ) → i < length fs → get_or (map Some fs) i None ≡ Some (get_or fs i no_field)
there [] i h = absurd (not-suc-le-zero h)
there (f ∷ fs) zero h = refl
there (f ∷ fs) (suc i) h = there fs i (le_of_suc-le-suc h)

-- no field has the number 0, and from 1 on a row is a field's
pub no_zeroth : (k n : ℕ) → n ≡ 0 → None ≡ field_of k n
unfolding field_of
no_zeroth k n e = rw e

pub found_in_lem : (k n : ℕ) → (n ≡ 0 → ⊥) → found_in (row_of k n) ≡ field_of k n
unfolding row_of found_in field_of
found_in_lem k zero p = absurd (p refl)
found_in_lem k (suc i) p =
    let e : found_in (get_or (map pack (fields_of k)) i 0) ≡ get_or (map Some (fields_of k)) i None =
    sym (get_or-map found_in (map pack (fields_of k)) i 0) ∙ ap (λ (l : List (Option Field)). get_or l i None) (fields-found k) in
    let q : suc i - 1 ≡ i = omega arith in
    e ∙ elim (dec_lt i (length (fields_of k))) [
      | yes h ↦ rw (le-leb 1 (suc i) (omega arith), le-leb (suc i) (length (fields_of k)) (omega arith), q) (there (fields_of k) i h)
      | no h ↦ rw (le-leb 1 (suc i) (omega arith), lt-leb (suc i) (length (fields_of k)) (omega arith)) (get_or-eq_default (map Some (fields_of k)) None (omega (arith, length-map (fields_of k) Some)))
    ]

pub is_none : (k n r : ℕ) → (n ≡ 0 → ⊥) → r ≡ row_of k n → r ≡ 0 → None ≡ field_of k n
unfolding found_in
is_none k n r p e z = ap found_in (sym z ∙ e) ∙ found_in_lem k n p

holds : (r : ℕ) → (r ≡ 0 → ⊥) → Some (unpack r) ≡ found_in r
unfolding found_in
holds r z = rw (ne_eqb r 0 z)

pub is_found : (k n r : ℕ) (f : Field) → (n ≡ 0 → ⊥) → r ≡ row_of k n → (r ≡ 0 → ⊥) → f ≡ unpack r → Some f ≡ field_of k n
is_found k n r f p e z u = ap (λ (g : Field). Some g) u ∙ holds r z ∙ ap found_in e ∙ found_in_lem k n p
