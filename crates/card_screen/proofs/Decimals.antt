-- A decimal of which the machine is sure is one, and stands at the right.
use Prim.Native.Nat.{ℕ, zero, suc, ◌+◌, ◌-◌, ◌≤◌}
use native.Mathlib.Omega.{arith}
use mathlib.Core.Path.{◌≡◌, refl, sym, ap, ◌∙◌, subst}
use mathlib.Core.List.{List, [], ◌∷◌}
use mathlib.Core.Bool.{Bool, true, false, cond, ◌&&◌, ◌||◌, true≢false}
use mathlib.Core.Logic.{◌⊎◌, inl, inr, ⊎_elim}
use lib.IntN.{ℤ, pos, negsuc}
use lib.Seq.{take_all}
use lib.Dec.{T, eqb, ltb}
use lib.ListN.{length, take, drop, replicate}
use borrow.Author.Tests.{eq-eqb, ne_eqb, eqb-true, le-ltb}
use Rattle.base_digits.specs.digits.Figures.{is_digit, blanks, unpadded, leading, behind}
use Rattle.value_number.specs.number.Reading.{counted_of, point_of, figures_of, held_of, sign_of, number_of}
use Rattle.base_value.specs.Reading.{offence_of}
use Rattle.base_value.specs.declared.Value.TheVariants.{Absent, Whole, Decimal, Angle, Date, Text}
use Rattle.base_value.specs.declared.Unread.TheVariants.{Malformed, OutOfRange}
use Rattle.format_layout.specs.declared.Range.TheVariants as range
use Rattle.format_layout.specs.ranges.Ranges.{in_range}
use Rattle.value_text.specs.text.Texts.{text_end, text_of}
use Rattle.value_field.specs.spelling.Reading.{number_in, pushed_left}
use Rattle.card_screen.proofs.Whole.{fault_of}
use Rattle.value_number.specs.packed.Shapes.{is_units}
use Rattle.value_number.proofs.shapes.Small.{figures_small}
use Rattle.value_number.proofs.shapes.Telling.{shape_held}
use Rattle.card_screen.specs.Machine.{class_of, signed, pointed, counted, decimal_by, ends, first_by, later_by, step_by, step as stepped, runs}
use Rattle.card_screen.proofs.Steps.{figure-is}
use Rattle.std.specs.Prelude.{Result, Ok, Err}
use Rattle.base_value.specs.declared.Unread.{Unread}
use Rattle.base_value.specs.declared.Value.{Value}

-- one step by the classes of a byte
abbrev pub by : Bool → Bool → Bool → Bool → ℕ → ℕ
by w x y z q = cond w (cond (eqb q 0) 0 56) (cond x (signed q) (cond y (pointed q) (cond z (counted q) 56)))

abbrev pub step : ℕ → ℕ → ℕ
step b q = by (eqb b 32) (eqb b 43 || eqb b 45) (eqb b 46) (is_digit b) q

-- the machine's step in a decimal's columns
pub decimal_step : (b q : ℕ) → decimal_by (class_of b) q ≡ step b q
unfolding decimal_by class_of
decimal_step b q = go (eqb b 32) (eqb b 43 || eqb b 45) (eqb b 46) (is_digit b) refl
  where
    go : (w x y z : Bool) → is_digit b ≡ z
        → decimal_by (cond w 0 (cond x 1 (cond y 2 (cond z (b - 45) 13)))) q ≡ by w x y z q
    go true x y z e = refl
    go false true y z e = refl
    go false false true z e = refl
    go false false false true e =
        let f = figure-is b e in
        rw (ne_eqb (b - 45) 0 (λ k. omega (arith, f.1)), ne_eqb (b - 45) 1 (λ k. omega (arith, f.1)), ne_eqb (b - 45) 2 (λ k. omega (arith, f.1)), f.0)
    go false false false false e = refl

-- all columns of a decimal
unfoldable pub run : List ℕ → ℕ → ℕ
run [] q = q
run (b ∷ t) q = run t (step b q)

-- what is no number stays so
bad_by : (w x y z : Bool) → by w x y z 56 ≡ 56
bad_by true x y z = refl
bad_by false true y z = refl
bad_by false false true z = refl
bad_by false false false true = refl
bad_by false false false false = refl

pub bad-stays : (t : List ℕ) → run t 56 ≡ 56
unfolding run
bad-stays [] = refl
bad-stays (b ∷ t) = ap (run t) (bad_by (eqb b 32) (eqb b 43 || eqb b 45) (eqb b 46) (is_digit b)) ∙ bad-stays t

pub bad-ends : (t : List ℕ) → T (ends (run t 56)) → ⊥
bad-ends t h = subst (λ (q : ℕ). T (ends q)) (bad-stays t) h

-- behind the point only digits follow
pub after_point : (t : List ℕ) → T (ends (run t 40)) → leading t ≡ t
unfolding run leading
after_point [] h = refl
after_point (b ∷ t) h = go (eqb b 32) (eqb b 43 || eqb b 45) (eqb b 46) (is_digit b) (after_point t) h
  where
    go : (w x y z : Bool) → (T (ends (run t 40)) → leading t ≡ t) → T (ends (run t (by w x y z 40))) → cond z (b ∷ leading t) [] ≡ b ∷ t
    go true x y z on k = absurd (bad-ends t k)
    go false true y z on k = absurd (bad-ends t k)
    go false false true z on k = absurd (bad-ends t k)
    go false false false true on k = ap (λ (l : List ℕ). b ∷ l) (on k)
    go false false false false on k = absurd (bad-ends t k)

-- a point without digits before it has some behind it
pub point_first : (t : List ℕ) → T (ends (run t 32)) → (leading t ≡ t) × (1 ≤ length t)
unfolding run leading
point_first [] h = absurd h
point_first (b ∷ t) h = go (eqb b 32) (eqb b 43 || eqb b 45) (eqb b 46) (is_digit b) h
  where
    go : (w x y z : Bool) → T (ends (run t (by w x y z 32))) → (cond z (b ∷ leading t) [] ≡ b ∷ t) × (1 ≤ length (b ∷ t))
    go true x y z k = absurd (bad-ends t k)
    go false true y z k = absurd (bad-ends t k)
    go false false true z k = absurd (bad-ends t k)
    go false false false true k = (ap (λ (l : List ℕ). b ∷ l) (after_point t k), omega arith)
    go false false false false k = absurd (bad-ends t k)

-- digits, at least one
some_units : (c n p : ℕ) → (c ≡ 0 → ⊥) → is_units (counted_of c n p) ≡ true
some_units c n p h = rw (ne_eqb c 0 h)

pub digits_then : (t : List ℕ) (x : ℕ) (l : List ℕ) → T (ends (run t 24)) → is_units (point_of true (x ∷ l) (behind t)) ≡ true
unfolding run leading behind point_of
digits_then [] x l h = some_units (length (x ∷ l) + 0) _ _ (λ e. omega arith)
digits_then (b ∷ t) x l h = go (eqb b 32) (eqb b 43 || eqb b 45) (eqb b 46) (is_digit b) refl refl (digits_then t x l) h
  where
    go : (w s y z : Bool) → eqb b 46 ≡ y → is_digit b ≡ z → (T (ends (run t 24)) → is_units (point_of true (x ∷ l) (drop (length (leading t)) t)) ≡ true)
        → T (ends (run t (by w s y z 24))) → is_units (point_of true (x ∷ l) (drop (length (cond z (b ∷ leading t) [])) (b ∷ t))) ≡ true
    go true s y z e d on k = absurd (bad-ends t k)
    go false true y z e d on k = absurd (bad-ends t k)
    go false false true true e d on k = absurd (true≢false (sym d ∙ ap is_digit (eqb-true b 46 e)))
    go false false true false e d on k =
        rw (e, eq-eqb (length (leading t)) (length t) (ap length (after_point t k))) (some_units (length (x ∷ l) + length t) _ _ (λ q. omega arith))
    go false false false true e d on k = on k
    go false false false false e d on k = absurd (bad-ends t k)

-- an unsigned decimal by its first byte: a point, or a digit
unsigned_by : (b : ℕ) (t : List ℕ) (y z : Bool) → eqb b 46 ≡ y → is_digit b ≡ z → T (ends (run t (cond y 32 (cond z 24 56)))) → is_units (figures_of true (b ∷ t)) ≡ true
unfolding leading behind point_of figures_of
unsigned_by b t true true e d k = absurd (true≢false (sym d ∙ ap is_digit (eqb-true b 46 e)))
unsigned_by b t true false e d k =
    let p = point_first t k in
    rw (d, e, eq-eqb (length (leading t)) (length t) (ap length p.0)) (some_units (0 + length t) _ _ (λ q. omega (arith, p.1)))
unsigned_by b t false true e d k = rw d (digits_then t b (leading t) k)
unsigned_by b t false false e d k = absurd (bad-ends t k)

pub unsigned : (t : List ℕ) → T (ends (run t 16)) → is_units (figures_of true t) ≡ true
unfolding run
unsigned [] h = absurd h
unsigned (b ∷ t) h = go (eqb b 32) (eqb b 43 || eqb b 45) h
  where
    go : (w x : Bool) → T (ends (run t (by w x (eqb b 46) (is_digit b) 16))) → is_units (figures_of true (b ∷ t)) ≡ true
    go true x k = absurd (bad-ends t k)
    go false true k = absurd (bad-ends t k)
    go false false k = unsigned_by b t (eqb b 46) (is_digit b) refl refl k

-- once a column is filled the field is not blank
filled_by : (w x y z : Bool) (q : ℕ) → (q ≡ 0 → ⊥) → by w x y z q ≡ 0 → ⊥
filled_by w x y z q h = rw (ne_eqb q 0 h) (go w x y z (eqb q 16) (eqb q 24) (eqb q 32) (eqb q 40) (eqb q 56))
  where
    go : (w x y z a b c d e : Bool) → cond w 56 (cond x 56 (cond y (cond a 32 (cond b 40 56)) (cond z (cond (c || d) 40 (cond e 56 24)) 56))) ≡ zero → ⊥
    go true x y z a b c d e k = omega arith
    go false true y z a b c d e k = omega arith
    go false false true z true b c d e k = omega arith
    go false false true z false true c d e k = omega arith
    go false false true z false false c d e k = omega arith
    go false false false true a b true d e k = omega arith
    go false false false true a b false true e k = omega arith
    go false false false true a b false false true k = omega arith
    go false false false true a b false false false k = omega arith
    go false false false false a b c d e k = omega arith

pub filled : (t : List ℕ) (q : ℕ) → (q ≡ 0 → ⊥) → run t q ≡ 0 → ⊥
unfolding run
filled [] q h = h
filled (b ∷ t) q h = filled t _ (filled_by (eqb b 32) (eqb b 43 || eqb b 45) (eqb b 46) (is_digit b) q h)

-- a shape that is a number's
held : (minus : Bool) (t : List ℕ) (q : ℕ) → length t ≤ 18 → is_units (figures_of true t) ≡ true → (q ≡ 0 → ⊥) → offence_of (held_of minus (figures_of true t)) ≡ cond (eqb q 0) 11 0
held minus t q few u h =
    sym (shape_held minus (figures_of true t) (figures_small true t few)) ∙ rw (u, ne_eqb q 0 h)

-- the columns of a decimal that the machine takes: blank where it is still in its first state, and otherwise a number
pub decimal_fine : (s : List ℕ) → length s ≤ 18 → T (ends (run s 0)) → offence_of (number_of true s) ≡ cond (eqb (run s 0) 0) 11 0
unfolding run blanks unpadded sign_of number_of
decimal_fine [] few h = refl
decimal_fine (b ∷ t) few h = go (eqb b 32) (eqb b 43) (eqb b 45) refl refl (decimal_fine t (omega arith)) h
  where
    go : (w p m : Bool) → eqb b 43 ≡ p → eqb b 45 ≡ m → (T (ends (run t 0)) → offence_of (sign_of true (drop (blanks t) t)) ≡ cond (eqb (run t 0) 0) 11 0)
        → T (ends (run t (by w (p || m) (eqb b 46) (is_digit b) 0)))
        → offence_of (sign_of true (drop (cond w (suc (blanks t)) 0) (b ∷ t))) ≡ cond (eqb (run t (by w (p || m) (eqb b 46) (is_digit b) 0)) 0) 11 0
    go true p m e d on k = on k
    go false true true e d on k = rw d (held true t (run t 16) (omega arith) (unsigned t k) (filled t 16 (λ q. omega arith)))
    go false true false e d on k = rw (d, e) (held false t (run t 16) (omega arith) (unsigned t k) (filled t 16 (λ q. omega arith)))
    go false false true e d on k = rw d (held true t (run t 16) (omega arith) (unsigned t k) (filled t 16 (λ q. omega arith)))
    go false false false e d on k =
        rw (d, e) (held false (b ∷ t) _ few (unsigned_by b t (eqb b 46) (is_digit b) refl refl k) (filled t _ (start (eqb b 46) (is_digit b))))
      where
        start : (y z : Bool) → cond y 32 (cond z 24 56) ≡ zero → ⊥
        start true z q = omega arith
        start false true q = omega arith
        start false false q = omega arith

-- the machine in a decimal's columns
later_step : (b q : ℕ) → step_by 5 (class_of b) q ≡ step b q
unfolding step_by later_by
later_step b q = go (eqb q 56) refl
  where
    go : (v : Bool) → eqb q 56 ≡ v → cond v 56 (decimal_by (class_of b) q) ≡ step b q
    go true e = sym (ap (step b) (eqb-true q 56 e) ∙ bad_by (eqb b 32) (eqb b 43 || eqb b 45) (eqb b 46) (is_digit b))
    go false e = decimal_step b q

later_run : (t : List ℕ) (q : ℕ) → runs (replicate (length t) 5) t q ≡ run t q
unfolding runs stepped run
later_run [] q = refl
later_run (b ∷ t) q = ap (runs (replicate (length t) 5) t) (later_step b q) ∙ later_run t _

pub decimal_run : (b : ℕ) (t : List ℕ) → runs (4 ∷ replicate (length t) 5) (b ∷ t) 0 ≡ run (b ∷ t) 0
unfolding runs stepped step_by first_by run
decimal_run b t = ap (runs (replicate (length t) 5) t) (decimal_step b 0) ∙ later_run t _

-- it is blank, or its last column is filled
full : (t : List ℕ) (q : ℕ) → (q ≡ 0 → ⊥) → T (ends (run t q)) → text_end t ≡ length t
unfolding run text_end
full [] q h k = refl
full (b ∷ t) q h k = go (eqb b 32) (full t _ (filled_by (eqb b 32) (eqb b 43 || eqb b 45) (eqb b 46) (is_digit b) q h) k) k
  where
    none : (c : Bool) → (c && false) ≡ false
    none true = refl
    none false = refl

    go : (w : Bool) → text_end t ≡ length t → T (ends (run t (by w (eqb b 43 || eqb b 45) (eqb b 46) (is_digit b) q)))
        → cond (eqb (text_end t) 0 && w) 0 (suc (text_end t)) ≡ suc (length t)
    go true e p = absurd (bad-ends t (subst (λ (z : ℕ). T (ends (run t z))) (rw (ne_eqb q 0 h) refl) p))
    go false e p = rw (none (eqb (text_end t) 0)) (ap suc e)

pub settled : (s : List ℕ) → T (ends (run s 0)) → (text_end s ≡ 0) ⊎ (text_end s ≡ length s)
unfolding run text_end
settled [] h = inl refl
settled (b ∷ t) h = go (eqb b 32) refl (settled t) h
  where
    longer : (t : List ℕ) → text_end t ≡ length t → (cond (eqb (text_end t) 0 && true) 0 (suc (text_end t)) ≡ 0) ⊎ (cond (eqb (text_end t) 0 && true) 0 (suc (text_end t)) ≡ suc (length t))
    longer [] e = inl refl
    longer (x ∷ u) e = inr (rw (ne_eqb (text_end (x ∷ u)) 0 (λ z. omega (arith, e, z))) (ap suc e))

    start : (x y z : Bool) → cond x 16 (cond y 32 (cond z 24 56)) ≡ zero → ⊥
    start true y z q = omega arith
    start false true z q = omega arith
    start false false true q = omega arith
    start false false false q = omega arith

    none : (c : Bool) → (c && false) ≡ false
    none true = refl
    none false = refl

    go : (w : Bool) → eqb b 32 ≡ w → (T (ends (run t 0)) → (text_end t ≡ 0) ⊎ (text_end t ≡ length t))
        → T (ends (run t (by w (eqb b 43 || eqb b 45) (eqb b 46) (is_digit b) 0)))
        → (cond (eqb (text_end t) 0 && w) 0 (suc (text_end t)) ≡ 0) ⊎ (cond (eqb (text_end t) 0 && w) 0 (suc (text_end t)) ≡ suc (length t))
    go true e on k = ⊎_elim (λ (z : text_end t ≡ 0). inl (rw z refl)) (longer t) (on k)
    go false e on k = inr (rw (none (eqb (text_end t) 0)) (ap suc (full t _ (start (eqb b 43 || eqb b 45) (eqb b 46) (is_digit b)) k)))

-- no offence where it need not be there, and not misplaced
any-whole : (z : ℤ) → ◌≡◌ {A = ℕ} (cond (in_range range.Any z) 0 10) 0
unfolding in_range
any-whole (pos n) = refl
any-whole (negsuc n) = refl

either : (v : Bool) (r : Result Value Unread) → offence_of r ≡ cond v 11 0 → fault_of false range.Any r ≡ 0
either v (Ok Absent) h = refl
either v (Ok (Whole z)) h = any-whole z
either v (Ok (Decimal d)) h = refl
either v (Ok (Angle z)) h = refl
either v (Ok (Date d)) h = refl
either v (Ok (Text c)) h = refl
either true (Err Malformed) h = absurd (omega arith)
either false (Err Malformed) h = absurd (omega arith)
either true (Err OutOfRange) h = absurd (omega arith)
either false (Err OutOfRange) h = absurd (omega arith)

nothing_read : (s : List ℕ) → fault_of false range.Any (number_of true (take 0 s)) ≡ 0
unfolding number_of unpadded blanks sign_of
nothing_read s = refl

never : (c : Bool) → (c && false) ≡ false
never true = refl
never false = refl

pub decimal_good : (s : List ℕ) → length s ≤ 18 → T (ends (run s 0)) → (fault_of false range.Any (number_in true s) ≡ 0) × (pushed_left s ≡ false)
unfolding number_in pushed_left text_of
decimal_good s few h =
    ⊎_elim (λ (z : text_end s ≡ 0). (rw z (nothing_read s), rw z refl))
    (λ (e : text_end s ≡ length s).
    (rw (e, take_all (length s) s (omega arith)) (either (eqb (run s 0) 0) (number_of true s) (decimal_fine s few h)), rw (e, le-ltb (length s) (length s) (omega arith)) (never (ltb 0 (length s)))))
    (settled s h)
