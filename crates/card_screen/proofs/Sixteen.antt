-- Five rows of sixteen columns are the whole card.
use Prim.Native.Nat.{ℕ, zero, suc, ◌+◌, ◌*◌, ◌/◌, ◌%◌, ◌^◌, ◌≤◌, ◌<◌}
use mathlib.Core.Path.{◌≡◌, refl, sym, ap, ap₂, ◌∙◌, subst}
use mathlib.Core.List.{List, [], ◌∷◌, ◌++◌}
use mathlib.Core.Bool.{Bool, true, false, cond, ◌&&◌, not}
use native.Mathlib.Omega.{arith}
use native.Mathlib.Numerals.{add-one}
use lib.Dec.{T, eqb}
use lib.ListN.{length, get_or, take, drop, length-append, length-drop, take-append-drop, drop_of_length-le}
use lib.Seq.{drop-drop, drop-cons, length-take-le}
use borrow.Author.Tests.{eqb-true}
use Rattle.format_layout.specs.Table.{layouts}
use Rattle.format_layout.specs.Layouts.{layout_at, fields_of, label_of}
use Rattle.format_layout.specs.packed.Rows.{layout_count}
use Rattle.card_screen.specs.Machine.{ends, run_to, runs}
use Rattle.card_screen.specs.Roles.{roles_for, roles_from, plain, roles_of, word_at, sure}
use Rattle.card_screen.proofs.Rows.{all_to, all_at, both, is_true}
use Rattle.card_screen.proofs.Steps.{runs_append, runs-take, unsure_stays}

abbrev pub unpacked : ℕ → ℕ → List ℕ
unpacked zero w = []
unpacked (suc n) w = unpacked n w ++ (w / 16 ^ n % 16 ∷ [])

long : (n w : ℕ) → length (unpacked n w) ≡ n
long zero w = refl
long (suc n) w = length-append (unpacked n w) (w / 16 ^ n % 16 ∷ []) ∙ ap (λ m. m + 1) (long n w) ∙ add-one n

run_list : (s : List ℕ) (from w q n : ℕ) → from + n ≤ length s → run_to s from w q n ≡ runs (unpacked n w) (drop from s) q
unfolding run_to runs
run_list s from w q zero h = refl
run_list s from w q (suc n) h =
    let d : drop (length (unpacked n w)) (drop from s) ≡ get_or s (from + n) 0 ∷ drop (suc (from + n)) s =
    ap (λ m. drop m (drop from s)) (long n w) ∙ drop-drop n from s ∙ drop-cons s (from + n) 0 (omega arith) in
    sym (runs_append (unpacked n w) (w / 16 ^ n % 16 ∷ []) (drop from s) q
    ∙ ap₂ (λ (t : List ℕ) (z : ℕ). runs (w / 16 ^ n % 16 ∷ []) t z) d (sym (run_list s from w q n (omega arith))))

eq_all : List ℕ → List ℕ → Bool
eq_all [] [] = true
eq_all [] (y ∷ b) = false
eq_all (x ∷ a) [] = false
eq_all (x ∷ a) (y ∷ b) = eqb x y && eq_all a b

eq_all_lem : (a b : List ℕ) → T (eq_all a b) → a ≡ b
unfolding eq_all
eq_all_lem [] [] h = refl
eq_all_lem [] (y ∷ b) h = absurd h
eq_all_lem (x ∷ a) [] h = absurd h
eq_all_lem (x ∷ a) (y ∷ b) h =
    let p = both (eqb x y) (eq_all a b) h in
    ap₂ (λ (z : ℕ) (l : List ℕ). z ∷ l) (eqb-true x y (is_true _ p.0)) (eq_all_lem a b p.1)

-- the words of a plain layout hold its roles, the first of them is not 0, and the roles are those of 80 columns
abbrev row_of : ℕ → ℕ → Bool
row_of k row = eq_all (unpacked 16 (word_at (k * 5 + row))) (take 16 (drop (16 * row) (roles_of k)))

abbrev agrees : ℕ → Bool
agrees k = cond (plain k) (all_to (row_of k) 5 && (not (eqb (word_at (k * 5)) 0) && eqb (length (roles_of k)) 80)) true

tested : T (all_to agrees layout_count)
unfolding eq_all layouts layout_at fields_of label_of roles_for roles_from plain roles_of word_at
tested = tt

module _ (k : ℕ) (small : k < layout_count) (is_plain : plain k ≡ true) where
  here : T (all_to (row_of k) 5 && (not (eqb (word_at (k * 5)) 0) && eqb (length (roles_of k)) 80))
  here =
      subst (λ (b : Bool). T (cond b (all_to (row_of k) 5 && (not (eqb (word_at (k * 5)) 0) && eqb (length (roles_of k)) 80)) true)) is_plain
      (all_at agrees layout_count tested k small)

  word_is : (row : ℕ) → row < 5 → unpacked 16 (word_at (k * 5 + row)) ≡ take 16 (drop (16 * row) (roles_of k))
  word_is row h = eq_all_lem _ _ (all_at (row_of k) 5 (both (all_to (row_of k) 5) _ here).0 row h)

  some_word : T (not (eqb (word_at (k * 5)) 0))
  some_word = (both (not (eqb (word_at (k * 5)) 0)) _ (both (all_to (row_of k) 5) _ here).1).0

  pub eighty : length (roles_of k) ≡ 80
  eighty = eqb-true _ _ (is_true _ (both (not (eqb (word_at (k * 5)) 0)) _ (both (all_to (row_of k) 5) _ here).1).1)

  module _ (s : List ℕ) (whole : length s ≡ 80) where
    -- one row more
    pub row_more : (row q w r : ℕ) (columns : List ℕ) → row < 5 → w ≡ word_at (k * 5 + row) → columns ≡ take 16 (drop (row * 16) s)
        → r ≡ run_to columns 0 w q 16
        → runs (drop (16 * row) (roles_of k)) (drop (16 * row) s) q ≡ runs (drop (16 * (row + 1)) (roles_of k)) (drop (16 * (row + 1)) s) r
    row_more row q w r columns h e g f =
        let a : List ℕ = unpacked 16 w in
        let z : List ℕ = drop (16 * (row + 1)) (roles_of k) in
        let n : 16 * row + 16 ≡ 16 * (row + 1) = omega arith in
        let m : row * 16 ≡ 16 * row = omega arith in
        let first : take 16 (drop (16 * row) (roles_of k)) ≡ a = sym (word_is row h) ∙ ap (unpacked 16) (sym e) in
        let whole_row : drop (16 * row) (roles_of k) ≡ a ++ z =
        sym (take-append-drop 16 (drop (16 * row) (roles_of k)))
        ∙ ap₂ (λ (x y : List ℕ). x ++ y) first (drop-drop 16 (16 * row) (roles_of k) ∙ ap (λ j. drop j (roles_of k)) n) in
        let past : drop (length a) (drop (16 * row) s) ≡ drop (16 * (row + 1)) s =
        ap (λ j. drop j (drop (16 * row) s)) (long 16 w) ∙ drop-drop 16 (16 * row) s ∙ ap (λ j. drop j s) n in
        let here : take (length a) (drop (16 * row) s) ≡ columns =
        ap (λ j. take j (drop (16 * row) s)) (long 16 w) ∙ ap (λ j. take 16 (drop j s)) (sym m) ∙ sym g in
        let size : length columns ≡ 16 = ap length g ∙ length-take-le 16 (drop (row * 16) s) (omega (arith, length-drop (row * 16) s, whole)) in
        let state : runs a (drop (16 * row) s) q ≡ r =
        runs-take a (drop (16 * row) s) q ∙ ap (λ (t : List ℕ). runs a t q) here ∙ sym (run_list columns 0 w q 16 (omega (arith, size))) ∙ sym f in
        ap (λ (l : List ℕ). runs l (drop (16 * row) s) q) whole_row ∙ runs_append a z (drop (16 * row) s) q
        ∙ ap₂ (λ (t : List ℕ) (x : ℕ). runs z t x) past state

    -- not sure behind a row, and the state behind the last
    pub given_up : (row : ℕ) → runs (roles_of k) s 24 ≡ runs (drop (16 * row) (roles_of k)) (drop (16 * row) s) 56 → false ≡ sure k s
    unfolding sure
    given_up row e = sym (rw (is_plain, e, unsure_stays (drop (16 * row) (roles_of k)) (drop (16 * row) s)) refl)

    pub all_rows : (row q : ℕ) → 5 ≤ row → runs (roles_of k) s 24 ≡ runs (drop (16 * row) (roles_of k)) (drop (16 * row) s) q → ends q ≡ sure k s
    unfolding sure runs
    all_rows row q h e =
        let none : drop (16 * row) (roles_of k) ≡ [] = drop_of_length-le (roles_of k) {i = 16 * row} (omega (arith, eighty)) in
        sym (rw (is_plain, e, none) refl)

-- which layouts are plain is known by the first word
pub first_plain : (k w : ℕ) → w ≡ word_at (k * 5) → (w ≡ 0 → ⊥) → plain k ≡ true
unfolding word_at
first_plain k w e z =
    let n : k * 5 / 5 ≡ k = omega arith in
    ap plain (sym n) ∙ go (plain (k * 5 / 5)) _ e
  where
    go : (b : Bool) (x : ℕ) → w ≡ cond b x 0 → b ≡ true
    go true x q = refl
    go false x q = absurd (z q)

pub not_plain : (k : ℕ) (s : List ℕ) → plain k ≡ false → false ≡ sure k s
unfolding sure
not_plain k s h = sym (rw h refl)

pub first-none : (k w : ℕ) (s : List ℕ) → k < layout_count → w ≡ word_at (k * 5) → w ≡ 0 → false ≡ sure k s
first-none k w s small e z = not_plain k s (go (plain k) refl)
  where
    go : (b : Bool) → plain k ≡ b → b ≡ false
    go true p = absurd (subst (λ (x : ℕ). T (not (eqb x 0))) (sym e ∙ z) (some_word k small p))
    go false p = refl
