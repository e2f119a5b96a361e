-- The patterns of the codes: five bytes each, and no code fits two of them.
use mathlib.Core.Path.{◌≡◌, refl, sym, ◌∙◌, ap}
use mathlib.Core.Bool.{Bool, true, false, cond, ◌&&◌, ◌||◌, true≢false}
use mathlib.Core.List.{List, [], ◌∷◌}
use Prim.Native.Nat.{ℕ, zero, suc, ◌+◌, ◌<◌, ◌≤◌, suc-le-suc}
use native.Mathlib.Nat.{le_of_suc-le-suc, not-suc-le-zero}
use native.Mathlib.Omega.{arith}
use borrow.Author.Tests.{eqb-true, leb-true}
use lib.Dec.{T, eqb, eqb→eq, leb, ltb, ltb→lt}
use lib.ListN.{length, get_or}
use Rattle.format_code.specs.declared.Code.TheVariants.{Read, Passed, Unknown}
use Rattle.format_layout.specs.Table.{layouts, passed_codes}
use Rattle.format_code.specs.Codes.{byte_fits, fits_at, fits, codes, place_in, code_of}
use Rattle.format_layout.specs.Layouts.{layout_at}
use Rattle.format_layout.specs.packed.Rows.{layout_count}
use Rattle.format_code.specs.Codes.{pattern_count}
use Rattle.format_layout.proofs.Every.{every, at, and_left, and_right}
use Rattle.format_code.proofs.Places.{codes-count, passed-count, code_is, passed_is}
use Rattle.format_code.proofs.Walk.{is_read_lem, is-passed, is-unknown}

-- every pattern has five bytes
abbrev five : ℕ → List ℕ → Bool
five i p = eqb (length p) 5

all_five : T (every five 0 codes)
unfolding codes layouts passed_codes
all_five = tt

pub five_bytes : (i : ℕ) → i < pattern_count → length (get_or codes i []) ≡ 5
five_bytes i h = eqb→eq _ _ (at five [] codes all_five i (omega (arith, codes-count)))

-- the least and the greatest byte that a pattern's byte takes
abbrev pub least : ℕ → ℕ
least p = cond (eqb p 64) 49 (cond (eqb p 35) 48 p)

abbrev pub most : ℕ → ℕ
most p = cond (eqb p 64) 57 (cond (eqb p 35) 57 p)

both : (a b : Bool) → a && b ≡ true → (a ≡ true) × (b ≡ true)
both true true e = (refl, refl)
both true false e = (refl, e)
both false b e = absurd (true≢false (sym e))

-- a byte that fits lies between them
pub between : (p b : ℕ) → byte_fits p b ≡ true → (least p ≤ b) × (b ≤ most p)
unfolding byte_fits
between p b e = go (eqb p 64) (eqb p 35) e
  where
    go : (x y : Bool) → cond x (leb 49 b && leb b 57) (cond y (leb 48 b && leb b 57) (eqb p b)) ≡ true
        → (cond x 49 (cond y 48 p) ≤ b) × (b ≤ cond x 57 (cond y 57 p))
    go true y e = (leb-true 49 b (both (leb 49 b) (leb b 57) e).0, leb-true b 57 (both (leb 49 b) (leb b 57) e).1)
    go false true e = (leb-true 48 b (both (leb 48 b) (leb b 57) e).0, leb-true b 57 (both (leb 48 b) (leb b 57) e).1)
    go false false e = (omega (arith, eqb-true p b e), omega (arith, eqb-true p b e))

-- no byte fits both patterns in one place
abbrev apart_at : List ℕ → List ℕ → ℕ → Bool
apart_at p q i = ltb (most (get_or p i 0)) (least (get_or q i 0)) || ltb (most (get_or q i 0)) (least (get_or p i 0))

abbrev apart : List ℕ → List ℕ → Bool
apart p q = apart_at p q 4 || (apart_at p q 2 || (apart_at p q 1 || (apart_at p q 3 || apart_at p q 0)))

pub either : (a b : Bool) → T (a || b) → (T a → ⊥) → (T b → ⊥) → ⊥
either true b t f g = f tt
either false b t f g = g t

never_at : (p q s : List ℕ) (i : ℕ) → fits_at p s i ≡ true → fits_at q s i ≡ true → T (apart_at p q i) → ⊥
unfolding fits_at
never_at p q s i f g t =
    let u : (least (get_or p i 0) ≤ get_or s i 0) × (get_or s i 0 ≤ most (get_or p i 0)) = between (get_or p i 0) (get_or s i 0) f in
    let v : (least (get_or q i 0) ≤ get_or s i 0) × (get_or s i 0 ≤ most (get_or q i 0)) = between (get_or q i 0) (get_or s i 0) g in
    either (ltb (most (get_or p i 0)) (least (get_or q i 0))) (ltb (most (get_or q i 0)) (least (get_or p i 0))) t
    (λ (a : T (ltb (most (get_or p i 0)) (least (get_or q i 0)))). omega (arith, ltb→lt (most (get_or p i 0)) (least (get_or q i 0)) a, u.1, v.0))
    (λ (a : T (ltb (most (get_or q i 0)) (least (get_or p i 0)))). omega (arith, ltb→lt (most (get_or q i 0)) (least (get_or p i 0)) a, v.1, u.0))

-- a code that fits a pattern fits it in each of its five places
pub record Fits (p s : List ℕ) : Type 0 where
  pub first : fits_at p s 0 ≡ true
  pub second : fits_at p s 1 ≡ true
  pub third : fits_at p s 2 ≡ true
  pub fourth : fits_at p s 3 ≡ true
  pub fifth : fits_at p s 4 ≡ true

pub in_each : (p s : List ℕ) → fits p s ≡ true → Fits p s
unfolding fits
in_each p s e =
    let n4 : (fits_at p s 0 && fits_at p s 1 && fits_at p s 2 && fits_at p s 3 ≡ true) × (fits_at p s 4 ≡ true) =
    both (fits_at p s 0 && fits_at p s 1 && fits_at p s 2 && fits_at p s 3) (fits_at p s 4)
    (both (eqb (length s) 5) (fits_at p s 0 && fits_at p s 1 && fits_at p s 2 && fits_at p s 3 && fits_at p s 4) e).1 in
    let n3 : (fits_at p s 0 && fits_at p s 1 && fits_at p s 2 ≡ true) × (fits_at p s 3 ≡ true) =
    both (fits_at p s 0 && fits_at p s 1 && fits_at p s 2) (fits_at p s 3) n4.0 in
    let n2 : (fits_at p s 0 && fits_at p s 1 ≡ true) × (fits_at p s 2 ≡ true) = both (fits_at p s 0 && fits_at p s 1) (fits_at p s 2) n3.0 in
    let n1 : (fits_at p s 0 ≡ true) × (fits_at p s 1 ≡ true) = both (fits_at p s 0) (fits_at p s 1) n2.0 in
    record { first = n1.0; second = n1.1; third = n2.1; fourth = n3.1; fifth = n4.1 }

never_both : (p q s : List ℕ) → T (apart p q) → fits p s ≡ true → fits q s ≡ true → ⊥
never_both p q s t f g =
    let u : Fits p s = in_each p s f in
    let v : Fits q s = in_each q s g in
    either (apart_at p q 4) (apart_at p q 2 || (apart_at p q 1 || (apart_at p q 3 || apart_at p q 0))) t
    (never_at p q s 4 u.fifth v.fifth)
    (λ a. either (apart_at p q 2) (apart_at p q 1 || (apart_at p q 3 || apart_at p q 0)) a (never_at p q s 2 u.third v.third)
    (λ b. either (apart_at p q 1) (apart_at p q 3 || apart_at p q 0) b (never_at p q s 1 u.second v.second)
    (λ c. either (apart_at p q 3) (apart_at p q 0) c (never_at p q s 3 u.fourth v.fourth) (never_at p q s 0 u.first v.first))))

-- every pattern is apart from each later one
abbrev all_apart : List (List ℕ) → Bool
all_apart [] = true
all_apart (p ∷ ps) = every (λ (i : ℕ). apart p) 0 ps && all_apart ps

codes-apart : T (all_apart codes)
unfolding codes layouts passed_codes
codes-apart = tt

later : (ps : List (List ℕ)) → T (all_apart ps) → (s : List ℕ) (i j : ℕ) → i < j → j < length ps
    → fits (get_or ps i []) s ≡ true → fits (get_or ps j []) s ≡ true → ⊥
later [] t s i j h hj f g = not-suc-le-zero hj
later (p ∷ ps) t s i zero h hj f g = not-suc-le-zero h
later (p ∷ ps) t s zero (suc j) h hj f g =
    never_both p (get_or ps j []) s
    (at (λ (i : ℕ). apart p) [] ps (and_left (every (λ (i : ℕ). apart p) 0 ps) (all_apart ps) t) j (le_of_suc-le-suc hj)) f g
later (p ∷ ps) t s (suc i) (suc j) h hj f g =
    later ps (and_right (every (λ (i : ℕ). apart p) 0 ps) (all_apart ps) t) s i j (le_of_suc-le-suc h) (le_of_suc-le-suc hj) f g

-- no code fits two patterns, read or passed
pub one_pattern : (s : List ℕ) (i j : ℕ) → i < j → j < pattern_count → fits (get_or codes i []) s ≡ true → fits (get_or codes j []) s ≡ true → ⊥
one_pattern s i j h hj = later codes codes-apart s i j h (omega (arith, codes-count))

-- so a pattern that fits is the one that the walk finds

pub decide : (b : Bool) → (b ≡ true → ⊥) → b ≡ false
decide true n = absurd (n refl)
decide false n = refl

first-place : (ps : List (List ℕ)) (s : List ℕ) (i : ℕ) → i < length ps → fits (get_or ps i []) s ≡ true
    → ((j : ℕ) → j < i → fits (get_or ps j []) s ≡ false) → place_in ps s ≡ i
unfolding place_in
first-place [] s i h f n = absurd (not-suc-le-zero h)
first-place (p ∷ ps) s zero h f n = rw f
first-place (p ∷ ps) s (suc i) h f n =
    let e : fits p s ≡ false = n zero (omega arith) in
    let q : place_in ps s ≡ i =
    first-place ps s i (le_of_suc-le-suc h) f (λ (j : ℕ) (l : j < i). n (suc j) (suc-le-suc l)) in
    rw e (omega arith)

place_is : (s : List ℕ) (i : ℕ) → i < pattern_count → fits (get_or codes i []) s ≡ true → place_in codes s ≡ i
place_is s i h f =
    first-place codes s i (omega (arith, codes-count)) f
    (λ (j : ℕ) (l : j < i). decide (fits (get_or codes j []) s) (λ (g : fits (get_or codes j []) s ≡ true). one_pattern s j i l h g f))

-- what fits a layout's code is read by that layout, and by no other
pub read_as : (s : List ℕ) (k : ℕ) → k < layout_count → fits (layout_at k).code s ≡ true → code_of s ≡ Read k
read_as s k h f =
    let q : place_in codes s ≡ k = place_is s k (omega arith) (ap (λ (p : List ℕ). fits p s) (code_is k h) ∙ f) in
    sym (is_read_lem s k (sym q) h)

-- what fits a passed code is passed
pub passed_by : (s : List ℕ) (i : ℕ) → i < length passed_codes → fits (get_or passed_codes i []) s ≡ true → code_of s ≡ Passed
passed_by s i h f =
    let b : layout_count + i < pattern_count = omega (arith, passed-count) in
    let q : place_in codes s ≡ layout_count + i =
    place_is s (layout_count + i) b (ap (λ (p : List ℕ). fits p s) (passed_is i) ∙ f) in
    sym (is-passed s (layout_count + i) (sym q) (omega arith) b)

none : (ps : List (List ℕ)) (s : List ℕ) → ((i : ℕ) → i < length ps → fits (get_or ps i []) s ≡ false) → place_in ps s ≡ length ps
unfolding place_in
none [] s n = refl
none (p ∷ ps) s n =
    let e : fits p s ≡ false = n zero (omega arith) in
    let q : place_in ps s ≡ length ps = none ps s (λ (i : ℕ) (h : i < length ps). n (suc i) (suc-le-suc h)) in
    rw e (omega arith)

-- and what fits no pattern is unknown
pub unknown_else : (s : List ℕ) → ((i : ℕ) → i < pattern_count → fits (get_or codes i []) s ≡ false) → code_of s ≡ Unknown
unknown_else s n =
    sym (is-unknown s (length codes)
    (sym (none codes s (λ (i : ℕ) (h : i < length codes). n i (omega (arith, codes-count))))) (omega (arith, codes-count)))
