-- Second sets: they end a layout, have one needed field of their own, and repeat the end of the first set.
use mathlib.Core.Path.{◌≡◌, refl, ap₂}
use mathlib.Core.Bool.{Bool, true, false, not, ◌&&◌, ◌||◌}
use mathlib.Core.List.{List, [], ◌∷◌}
use Prim.Native.Nat.{ℕ, zero, suc, ◌+◌, ◌-◌, ◌<◌}
use native.Mathlib.Nat.{le_of_suc-le-suc, not-suc-le-zero}
use lib.Dec.{T, eqb, eqb→eq}
use lib.ListN.{length, get_or, drop}
use Rattle.format_layout.specs.declared.Field.{Field}
use Rattle.format_layout.specs.Shape.{Layout}
use Rattle.format_layout.specs.Table.{layouts}
use Rattle.format_layout.specs.Layouts.{layout_at, fields_of, no_field}
use Rattle.format_layout.specs.packed.Rows.{layout_count, bit, pack}
use Rattle.format_layout.proofs.Every.{every, and_left, and_right}
use Rattle.format_layout.proofs.Places.{has_fields}
use Rattle.format_layout.proofs.Columns.{of_layout}
use Rattle.format_layout.specs.Columns.{width}

-- where they stand

-- after a field of a second set only such fields
abbrev lastly : Bool → List Field → Bool
lastly b [] = true
lastly b (f ∷ fs) = (not b || f.second) && lastly f.second fs

abbrev ends : Layout → Bool
ends l = lastly false l.fields

all_end : T (every (λ (i : ℕ). ends) 0 layouts)
unfolding layouts
all_end = tt

turned : (fs : List Field) (b : Bool) → T b → T (lastly b fs) → T (lastly true fs)
turned fs true s t = t
turned fs false s t = absurd s

-- from a field of the second set on every field is one
onward : (fs : List Field) → T (lastly true fs) → (j : ℕ) → j < length fs → T (get_or fs j no_field).second
onward [] t j h = absurd (not-suc-le-zero h)
onward (f ∷ fs) t zero h = and_left f.second (lastly f.second fs) t
onward (f ∷ fs) t (suc j) h =
    onward fs
    (turned fs f.second (and_left f.second (lastly f.second fs) t) (and_right f.second (lastly f.second fs) t)) j
    (le_of_suc-le-suc h)

last_set : (b : Bool) (fs : List Field) → T (lastly b fs) → (i j : ℕ) → i < j → j < length fs
    → T (get_or fs i no_field).second → T (get_or fs j no_field).second
last_set b [] t i j h hj s = absurd (not-suc-le-zero hj)
last_set b (f ∷ fs) t i zero h hj s = absurd (not-suc-le-zero h)
last_set b (f ∷ fs) t zero (suc j) h hj s =
    onward fs (turned fs f.second s (and_right (not b || f.second) (lastly f.second fs) t)) j (le_of_suc-le-suc hj)
last_set b (f ∷ fs) t (suc i) (suc j) h hj s =
    last_set f.second fs (and_right (not b || f.second) (lastly f.second fs) t) i j (le_of_suc-le-suc h)
    (le_of_suc-le-suc hj) s

pub second-last : (k i j : ℕ) → i < j → j < length (fields_of k)
    → T (get_or (fields_of k) i no_field).second → T (get_or (fields_of k) j no_field).second
unfolding fields_of
second-last k i j h hj s =
    last_set false (layout_at k).fields (of_layout ends all_end k (has_fields k j hj)) i j h hj s

-- their need

-- how many fields pass a test
abbrev pub count : (Field → Bool) → List Field → ℕ
count p [] = 0
count p (f ∷ fs) = bit (p f) + count p fs

abbrev pub any : (Field → Bool) → List Field → Bool
any p [] = false
any p (f ∷ fs) = p f || any p fs

abbrev pub in_second : Field → Bool
in_second f = f.second

abbrev pub needed_there : Field → Bool
needed_there f = f.second && f.needed

abbrev need_test : Layout → Bool
need_test l = eqb (count needed_there l.fields) (bit (any in_second l.fields))

all_need : T (every (λ (i : ℕ). need_test) 0 layouts)
unfolding layouts
all_need = tt

-- a layout with a second set has one needed field in it, any other none
pub one_needed : (k : ℕ) → k < layout_count → count needed_there (fields_of k) ≡ bit (any in_second (fields_of k))
unfolding fields_of
one_needed k hk = eqb→eq _ _ (of_layout need_test all_need k hk)

-- what they hold

-- a field but for its place: kind, width, need and range
abbrev pub shape : Field → ℕ
shape f =
    pack (record { kind = f.kind; first = 0; last = width f; needed = f.needed; second = false; range = f.range })

abbrev keep_if : {A : Type 0} → Bool → A → List A → List A
keep_if true x xs = x ∷ xs
keep_if false x xs = xs

-- the shapes of the fields that pass a test
abbrev pub shapes : (Field → Bool) → List Field → List ℕ
shapes p [] = []
shapes p (f ∷ fs) = keep_if (p f) (shape f) (shapes p fs)

abbrev pub in_first : Field → Bool
in_first f = not f.second

abbrev same : List ℕ → List ℕ → Bool
same [] [] = true
same [] (y ∷ ys) = false
same (x ∷ xs) [] = false
same (x ∷ xs) (y ∷ ys) = eqb x y && same xs ys

same_eq : (xs ys : List ℕ) → T (same xs ys) → xs ≡ ys
same_eq [] [] t = refl
same_eq [] (y ∷ ys) t = absurd t
same_eq (x ∷ xs) [] t = absurd t
same_eq (x ∷ xs) (y ∷ ys) t =
    ap₂ (λ (a : ℕ) (l : List ℕ). a ∷ l) (eqb→eq x y (and_left (eqb x y) (same xs ys) t))
    (same_eq xs ys (and_right (eqb x y) (same xs ys) t))

-- the last so many of a list
abbrev pub final : ℕ → List ℕ → List ℕ
final n l = drop (length l - n) l

abbrev again : List Field → List ℕ
again fs = final (length (shapes in_second fs)) (shapes in_first fs)

abbrev repeat_test : Layout → Bool
repeat_test l = same (shapes in_second l.fields) (again l.fields)

all_repeat : T (every (λ (i : ℕ). repeat_test) 0 layouts)
unfolding layouts
all_repeat = tt

-- a second set has the kinds, widths, needs and ranges with which the first one ends
pub repeats : (k : ℕ) → k < layout_count
    → shapes in_second (fields_of k) ≡ final (length (shapes in_second (fields_of k))) (shapes in_first (fields_of k))
unfolding fields_of
repeats k hk = same_eq _ (again (layout_at k).fields) (of_layout repeat_test all_repeat k hk)
