-- Runs of the machine: put one behind the other, begun with a field, and not sure once and for all.
use Prim.Native.Nat.{ℕ, ◌-◌, ◌≤◌}
use native.Mathlib.Omega.{arith}
use mathlib.Core.Path.{◌≡◌, refl, sym, subst}
use mathlib.Core.List.{List, [], ◌∷◌, ◌++◌}
use mathlib.Core.Bool.{Bool, true, false, cond, ◌&&◌, ◌||◌, true≢false}
use lib.Dec.{T, eqb, leb}
use lib.ListN.{length, take, drop}
use borrow.Author.Tests.{eqb-true, leb-true, le-leb}
use Rattle.base_digits.specs.digits.Figures.{is_digit}
use Rattle.card_screen.specs.Machine.{class_of, figure, ends, begins, first_by, later_by, step_by, step, runs}

-- roles one after the other
pub runs_append : (a b t : List ℕ) (q : ℕ) → runs (a ++ b) t q ≡ runs b (drop (length a) t) (runs a t q)
unfolding runs
runs_append [] b t q = refl
runs_append (r ∷ a) [] [] q = refl
runs_append (r ∷ a) (x ∷ b) [] q = refl
runs_append (r ∷ a) b (y ∷ t) q = runs_append a b t (step r y q)

-- only as many bytes count as there are roles
pub runs-take : (rs t : List ℕ) (q : ℕ) → runs rs t q ≡ runs rs (take (length rs) t) q
unfolding runs
runs-take [] t q = refl
runs-take (r ∷ rs) [] q = refl
runs-take (r ∷ rs) (b ∷ t) q = runs-take rs t (step r b q)

-- where the machine is not sure it stays so, and no field ends there
pub unsure_stays : (rs t : List ℕ) → runs rs t 56 ≡ 56
unfolding runs step step_by
unsure_stays [] t = refl
unsure_stays (r ∷ rs) [] = refl
unsure_stays (r ∷ rs) (b ∷ t) = unsure_stays rs t

pub unsure_never : (rs t : List ℕ) → T (ends (runs rs t 56)) → ⊥
unsure_never rs t h = subst (λ (q : ℕ). T (ends q)) (unsure_stays rs t) h

-- the first column of a field: what came before it may end there, and the field is as if it began a card
begun : (r : ℕ) (rs : List ℕ) (b : ℕ) (t : List ℕ) (q : ℕ) → begins r ≡ true → T (ends (runs (r ∷ rs) (b ∷ t) q))
    → T (ends q) × T (ends (runs rs t (first_by r (class_of b))))
unfolding runs step step_by
begun r rs b t q is h = go (eqb q 56) (begins r) (ends q) is h
  where
    go : (u v w : Bool) → v ≡ true → T (ends (runs rs t (cond u 56 (cond v (cond w (first_by r (class_of b)) 56) (later_by r (class_of b) q)))))
        → T w × T (ends (runs rs t (first_by r (class_of b))))
    go true v w e k = absurd (unsure_never rs t k)
    go false true true e k = (tt, k)
    go false true false e k = absurd (unsure_never rs t k)
    go false false w e k = absurd (true≢false (sym e))

pub afresh : (r : ℕ) (rs : List ℕ) (b : ℕ) (t : List ℕ) (q : ℕ) → begins r ≡ true → T (ends (runs (r ∷ rs) (b ∷ t) q))
    → T (ends q) × T (ends (runs (r ∷ rs) (b ∷ t) 0))
unfolding runs step step_by
afresh r rs b t q is h =
    let k = begun r rs b t q is h in
    (k.0, subst (λ (v : Bool). T (ends (runs rs t (cond v (first_by r (class_of b)) (later_by r (class_of b) 0))))) (sym is) k.1)

-- a column behind it
pub later : (r : ℕ) (rs : List ℕ) (b : ℕ) (t : List ℕ) (q : ℕ) → begins r ≡ false → eqb q 56 ≡ false
    → runs (r ∷ rs) (b ∷ t) q ≡ runs rs t (later_by r (class_of b) q)
unfolding runs step step_by
later r rs b t q is sure = rw (sure, is)

-- a digit's class
pub figure-is : (b : ℕ) → is_digit b ≡ true → (figure (b - 45) ≡ true) × (3 ≤ b - 45)
figure-is b h = go (leb 48 b) (leb b 57) refl refl h
  where
    go : (u v : Bool) → leb 48 b ≡ u → leb b 57 ≡ v → u && v ≡ true → (figure (b - 45) ≡ true) × (3 ≤ b - 45)
    go true true e f k =
        let l = leb-true 48 b e in
        let m = leb-true b 57 f in
        (rw (le-leb 3 (b - 45) (omega arith), le-leb (b - 45) 12 (omega arith)), omega arith)
    go true false e f k = absurd (true≢false (sym k))
    go false v e f k = absurd (true≢false (sym k))

-- only a blank has the class of one
pub blank_class : (b : ℕ) → eqb (class_of b) 0 ≡ true → b ≡ 32
unfolding class_of
blank_class b h = go (eqb b 32) (eqb b 43 || eqb b 45) (eqb b 46) (is_digit b) refl refl h
  where
    go : (w x y z : Bool) → eqb b 32 ≡ w → is_digit b ≡ z → eqb (cond w 0 (cond x 1 (cond y 2 (cond z (b - 45) 13)))) 0 ≡ true → b ≡ 32
    go true x y z e d k = eqb-true b 32 e
    go false true y z e d k = absurd (true≢false (sym k))
    go false false true z e d k = absurd (true≢false (sym k))
    go false false false true e d k = let f = figure-is b d in absurd (omega (arith, f.1, eqb-true (b - 45) 0 k))
    go false false false false e d k = absurd (true≢false (sym k))
