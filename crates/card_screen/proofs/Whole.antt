-- A whole number of which the machine is sure is in its range and stands at the right: all that it takes are tried.
use Prim.Native.Nat.{ℕ, ◌+◌, ◌-◌, ◌≤◌, ◌<◌}
use native.Mathlib.Omega.{arith}
use native.Mathlib.Decide.{dec_lt}
use mathlib.Core.Path.{◌≡◌, refl, sym, subst}
use mathlib.Core.List.{List, [], ◌∷◌}
use mathlib.Core.Bool.{Bool, true, false, cond, ◌&&◌, ◌||◌, not}
use lib.Dec.{T, eqb, leb}
use lib.ListN.{length}
use borrow.Author.Tests.{eqb-true, leb-true}
use Rattle.base_digits.specs.digits.Figures.{is_digit, blanks, unpadded, leading, behind, value_from}
use Rattle.base_digits.specs.signs.Signs.{signed_of}
use Rattle.base_value.specs.declared.Value.TheVariants.{Absent, Whole, Decimal, Angle, Date, Text}
use Rattle.base_value.specs.declared.Unread.TheVariants.{Malformed, OutOfRange}
use Rattle.value_text.specs.text.Texts.{text_end, text_of}
use Rattle.value_number.specs.number.Reading.{point_of, figures_of, held_of, sign_of, number_of}
use Rattle.value_field.specs.spelling.Reading.{number_in, pushed_left, whole_reading}
use Rattle.format_layout.specs.declared.Range.{Range}
use Rattle.format_layout.specs.declared.Range.TheVariants as range
use Rattle.format_layout.specs.ranges.Ranges.{in_range}
use Rattle.card_screen.specs.Machine.{class_of, figure, ends, begins, decimal_by, first_by, later_by, step_by, step, runs}
use Rattle.card_screen.specs.Roles.{from_zero, from_one, within, whole_roles}
use Rattle.card_screen.proofs.Rows.{all_to, all_at, both, is_true, class_below}
use Rattle.card_screen.proofs.Steps.{figure-is, unsure_never, afresh}
use Rattle.std.specs.Prelude.{Result, Ok, Err}
use Rattle.base_value.specs.declared.Unread.{Unread}
use Rattle.base_value.specs.declared.Value.{Value}

-- the byte of a class, where the class has only one
abbrev byte_of : ℕ → ℕ
byte_of c = cond (eqb c 0) 32 (c + 45)

abbrev known : ℕ → Bool
known c = eqb c 0 || figure c

known_byte : (b : ℕ) → T (known (class_of b)) → byte_of (class_of b) ≡ b
unfolding class_of
known_byte b h = go (eqb b 32) (eqb b 43 || eqb b 45) (eqb b 46) (is_digit b) refl refl h
  where
    go : (w x y z : Bool) → eqb b 32 ≡ w → is_digit b ≡ z → T (known (cond w 0 (cond x 1 (cond y 2 (cond z (b - 45) 13)))))
        → byte_of (cond w 0 (cond x 1 (cond y 2 (cond z (b - 45) 13)))) ≡ b
    go true x y z e d k = sym (eqb-true b 32 e)
    go false true y z e d k = absurd k
    go false false true z e d k = absurd k
    go false false false true e d k = pick (eqb (b - 45) 0) refl
      where
        low : 3 ≤ b - 45
        low = (figure-is b d).1

        pick : (v : Bool) → eqb (b - 45) 0 ≡ v → cond v 32 (b - 45 + 45) ≡ b
        pick true q = absurd (omega (arith, low, eqb-true (b - 45) 0 q))
        pick false q = omega (arith, low)
    go false false false false e d k = absurd k

-- whatever the machine takes in columns with roles passes a test
unfoldable pub tries : List ℕ → ℕ → (List ℕ → Bool) → Bool
tries [] q ok = cond (ends q) (ok []) true
tries (r ∷ rs) q ok =
    all_to (λ c. cond (eqb (step_by r c q) 56) true (known c && tries rs (step_by r c q) (λ (t : List ℕ). ok (byte_of c ∷ t)))) 16

pub tried : (rs : List ℕ) (q : ℕ) (ok : List ℕ → Bool) → T (tries rs q ok) → (t : List ℕ) → length t ≡ length rs
    → T (ends (runs rs t q)) → T (ok t)
unfolding tries runs step
tried [] q ok h [] e k = go (ends q) k h
  where
    go : (b : Bool) → T b → T (cond b (ok []) true) → T (ok [])
    go true k h = h
    go false k h = absurd k
tried [] q ok h (b ∷ t) e k = absurd (omega (arith, e))
tried (r ∷ rs) q ok h [] e k = absurd (omega (arith, e))
tried (r ∷ rs) q ok h (b ∷ t) e k =
    go (eqb (step_by r (class_of b) q) 56) refl
    (λ p. tried rs (step_by r (class_of b) q) (λ (u : List ℕ). ok (byte_of (class_of b) ∷ u)) p t (omega (arith, e)) k)
    (all_at (λ c. cond (eqb (step_by r c q) 56) true (known c && tries rs (step_by r c q) (λ (u : List ℕ). ok (byte_of c ∷ u)))) 16 h (class_of b) (class_below b))
  where
    go : (v : Bool) → eqb (step_by r (class_of b) q) 56 ≡ v
        → (T (tries rs (step_by r (class_of b) q) (λ (u : List ℕ). ok (byte_of (class_of b) ∷ u))) → T (ok (byte_of (class_of b) ∷ t)))
        → T (cond v true (known (class_of b) && tries rs (step_by r (class_of b) q) (λ (u : List ℕ). ok (byte_of (class_of b) ∷ u)))) → T (ok (b ∷ t))
    go true i on p = absurd (unsure_never rs t (subst (λ (z : ℕ). T (ends (runs rs t z))) (eqb-true (step_by r (class_of b) q) 56 i) k))
    go false i on p =
        let m = both (known (class_of b)) _ p in
        subst (λ (z : ℕ). T (ok (z ∷ t))) (known_byte b m.0) (on m.1)

-- columns that begin a field, and whatever the machine takes in them passes a test
abbrev head_begins : List ℕ → Bool
head_begins [] = false
head_begins (r ∷ rs) = begins r

unfoldable pub fits : List ℕ → (List ℕ → Bool) → Bool
fits rs ok = head_begins rs && tries rs 0 ok

pub fits_good : (rs : List ℕ) (ok : List ℕ → Bool) → T (fits rs ok) → (t : List ℕ) → length t ≡ length rs → (q : ℕ) → T (ends (runs rs t q))
    → T (ends q) × T (ok t)
unfolding fits
fits_good [] ok h t e q k = absurd h
fits_good (r ∷ rs) ok h [] e q k = absurd (omega (arith, e))
fits_good (r ∷ rs) ok h (b ∷ t) e q k =
    let p = both (begins r) (tries (r ∷ rs) 0 ok) h in
    let m = afresh r rs b t q (is_true _ p.0) k in
    (m.0, tried (r ∷ rs) 0 ok p.1 (b ∷ t) e m.1)

-- the offence of a field, by what its columns read as
abbrev pub fault_of : Bool → Range → Result Value Unread → ℕ
fault_of needed r (Err Malformed) = 9
fault_of needed r (Err OutOfRange) = 10
fault_of needed r (Ok Absent) = cond needed 11 0
fault_of needed r (Ok (Whole z)) = cond (in_range r z) 0 10
fault_of needed r (Ok (Decimal d)) = 0
fault_of needed r (Ok (Angle z)) = 0
fault_of needed r (Ok (Date d)) = 0
fault_of needed r (Ok (Text c)) = 0

abbrev pub good : Bool → Range → List ℕ → Bool
good needed r t = eqb (fault_of needed r (whole_reading (number_in false t))) 0 && not (pushed_left t)

-- numbers of up to four columns, from 0 and from 1 up
any_short : (needed : Bool) → T (all_to (λ w. fits (from_zero needed w) (good needed range.Any)) 4)
unfolding fits tries step_by first_by later_by decimal_by in_range whole_reading number_in pushed_left text_end text_of blanks unpadded leading behind value_from point_of figures_of held_of sign_of number_of signed_of
any_short true = tt
any_short false = tt

zero_short : (needed : Bool) → T (all_to (λ w. fits (from_zero needed w) (good needed (range.AtLeast 0))) 4)
unfolding fits tries step_by first_by later_by decimal_by in_range whole_reading number_in pushed_left text_end text_of blanks unpadded leading behind value_from point_of figures_of held_of sign_of number_of signed_of
zero_short true = tt
zero_short false = tt

zero_four_true : T (fits (from_zero true 4) (good true (range.AtLeast 0)))
unfolding fits tries step_by first_by later_by decimal_by in_range whole_reading number_in pushed_left text_end text_of blanks unpadded leading behind value_from point_of figures_of held_of sign_of number_of signed_of
zero_four_true = tt

zero_four_false : T (fits (from_zero false 4) (good false (range.AtLeast 0)))
unfolding fits tries step_by first_by later_by decimal_by in_range whole_reading number_in pushed_left text_end text_of blanks unpadded leading behind value_from point_of figures_of held_of sign_of number_of signed_of
zero_four_false = tt

zero_four : (needed : Bool) (w : ℕ) → w ≡ 4 → T (fits (from_zero needed w) (good needed (range.AtLeast 0)))
zero_four true w e = rw e zero_four_true
zero_four false w e = rw e zero_four_false

zero_tried : (needed : Bool) (w : ℕ) → w < 5 → T (fits (from_zero needed w) (good needed (range.AtLeast 0)))
zero_tried needed w h = elim (dec_lt w 4) [
  | yes l ↦ all_at (λ n. fits (from_zero needed n) (good needed (range.AtLeast 0))) 4 (zero_short needed) w l
  | no l ↦ zero_four needed w (omega arith)
]

one_short : (needed : Bool) → T (all_to (λ w. fits (from_one needed w) (good needed (range.AtLeast 1))) 4)
unfolding fits tries step_by first_by later_by decimal_by in_range whole_reading number_in pushed_left text_end text_of blanks unpadded leading behind value_from point_of figures_of held_of sign_of number_of signed_of
one_short true = tt
one_short false = tt

one_four_true : T (fits (from_one true 4) (good true (range.AtLeast 1)))
unfolding fits tries step_by first_by later_by decimal_by in_range whole_reading number_in pushed_left text_end text_of blanks unpadded leading behind value_from point_of figures_of held_of sign_of number_of signed_of
one_four_true = tt

one_four_false : T (fits (from_one false 4) (good false (range.AtLeast 1)))
unfolding fits tries step_by first_by later_by decimal_by in_range whole_reading number_in pushed_left text_end text_of blanks unpadded leading behind value_from point_of figures_of held_of sign_of number_of signed_of
one_four_false = tt

one_four : (needed : Bool) (w : ℕ) → w ≡ 4 → T (fits (from_one needed w) (good needed (range.AtLeast 1)))
one_four true w e = rw e one_four_true
one_four false w e = rw e one_four_false

one_tried : (needed : Bool) (w : ℕ) → w < 5 → T (fits (from_one needed w) (good needed (range.AtLeast 1)))
one_tried needed w h = elim (dec_lt w 4) [
  | yes l ↦ all_at (λ n. fits (from_one needed n) (good needed (range.AtLeast 1))) 4 (one_short needed) w l
  | no l ↦ one_four needed w (omega arith)
]

-- numbers with a limit
nine_tried : T (fits (from_one true 1) (good true (range.Between 1 9)))
unfolding fits tries step_by first_by later_by decimal_by in_range whole_reading number_in pushed_left text_end text_of blanks unpadded leading behind value_from point_of figures_of held_of sign_of number_of signed_of
nine_tried = tt

flag_tried : T (fits (10 ∷ []) (good false (range.Between 0 1)))
unfolding fits tries step_by first_by later_by decimal_by in_range whole_reading number_in pushed_left text_end text_of blanks unpadded leading behind value_from point_of figures_of held_of sign_of number_of signed_of
flag_tried = tt

quality_tried : T (fits (15 ∷ []) (good false (range.Between 0 4)))
unfolding fits tries step_by first_by later_by decimal_by in_range whole_reading number_in pushed_left text_end text_of blanks unpadded leading behind value_from point_of figures_of held_of sign_of number_of signed_of
quality_tried = tt

eleven_tried : T (fits (10 ∷ 12 ∷ []) (good false (range.Between 0 11)))
unfolding fits tries step_by first_by later_by decimal_by in_range whole_reading number_in pushed_left text_end text_of blanks unpadded leading behind value_from point_of figures_of held_of sign_of number_of signed_of
eleven_tried = tt

circle_tried : T (fits (11 ∷ 12 ∷ 12 ∷ []) (good false (range.Between 0 360)))
unfolding fits tries step_by first_by later_by decimal_by in_range whole_reading number_in pushed_left text_end text_of blanks unpadded leading behind value_from point_of figures_of held_of sign_of number_of signed_of
circle_tried = tt

-- what is asked of a range and a width
these : (a b w x y z : ℕ) → (eqb a x && (eqb b y && eqb w z)) ≡ true → (a ≡ x) × (b ≡ y) × (w ≡ z)
these a b w x y z h =
    let p = both (eqb a x) (eqb b y && eqb w z) (subst (λ (v : Bool). T v) (sym h) tt) in
    let q = both (eqb b y) (eqb w z) p.1 in
    (eqb-true a x (is_true _ p.0), eqb-true b y (is_true _ q.0), eqb-true w z (is_true _ q.1))

between : (needed : Bool) (a b x y : ℕ) (rs : List ℕ) → a ≡ x → b ≡ y → T (fits rs (good needed (range.Between x y))) → T (fits rs (good needed (range.Between a b)))
between needed a b x y rs e f h = rw (e, f) h

none_tried : (w : ℕ) (ok : List ℕ → Bool) → 1 ≤ w → length {A = ℕ} [] ≡ w → T (fits [] ok)
none_tried w ok l e = absurd (omega (arith, e))

within_tried : (needed : Bool) (a b w : ℕ) → 1 ≤ w → length (within needed a b w) ≡ w → T (fits (within needed a b w) (good needed (range.Between a b)))
within_tried true a b w l h = go (eqb a 1 && (eqb b 9 && eqb w 1)) refl h
  where
    go : (v : Bool) → (eqb a 1 && (eqb b 9 && eqb w 1)) ≡ v → length (cond v (from_one true w) []) ≡ w
        → T (fits (cond v (from_one true w) []) (good true (range.Between a b)))
    go true e k =
        let p = these a b w 1 9 1 e in
        subst (λ (z : ℕ). T (fits (from_one true z) (good true (range.Between a b)))) (sym p.2) (between true a b 1 9 (from_one true 1) p.0 p.1 nine_tried)
    go false e k = none_tried w _ l k
within_tried false a b w l h =
    go (eqb a 0 && (eqb b 1 && eqb w 1)) (eqb a 0 && (eqb b 4 && eqb w 1)) (eqb a 0 && (eqb b 11 && eqb w 2)) (eqb a 0 && (eqb b 360 && eqb w 3)) refl refl refl refl h
  where
    go : (u v x y : Bool) → (eqb a 0 && (eqb b 1 && eqb w 1)) ≡ u → (eqb a 0 && (eqb b 4 && eqb w 1)) ≡ v
        → (eqb a 0 && (eqb b 11 && eqb w 2)) ≡ x → (eqb a 0 && (eqb b 360 && eqb w 3)) ≡ y
        → length {A = ℕ} (cond u (10 ∷ []) (cond v (15 ∷ []) (cond x (10 ∷ 12 ∷ []) (cond y (11 ∷ 12 ∷ 12 ∷ []) [])))) ≡ w
        → T (fits (cond u (10 ∷ []) (cond v (15 ∷ []) (cond x (10 ∷ 12 ∷ []) (cond y (11 ∷ 12 ∷ 12 ∷ []) [])))) (good false (range.Between a b)))
    go true v x y e f g i k = let p = these a b w 0 1 1 e in between false a b 0 1 _ p.0 p.1 flag_tried
    go false true x y e f g i k = let p = these a b w 0 4 1 f in between false a b 0 4 _ p.0 p.1 quality_tried
    go false false true y e f g i k = let p = these a b w 0 11 2 g in between false a b 0 11 _ p.0 p.1 eleven_tried
    go false false false true e f g i k = let p = these a b w 0 360 3 i in between false a b 0 360 _ p.0 p.1 circle_tried
    go false false false false e f g i k = none_tried w _ l k

narrow : (w : ℕ) → leb w 4 ≡ true → w < 5
narrow w h = omega (arith, leb-true w 4 h)

any-fits : (needed : Bool) (w : ℕ) → 1 ≤ w → length (whole_roles needed range.Any w) ≡ w → T (fits (whole_roles needed range.Any w) (good needed range.Any))
any-fits needed w l h = go (leb w 3) refl h
  where
    go : (v : Bool) → leb w 3 ≡ v → length (cond v (from_zero needed w) []) ≡ w → T (fits (cond v (from_zero needed w) []) (good needed range.Any))
    go true e k = all_at (λ n. fits (from_zero needed n) (good needed range.Any)) 4 (any_short needed) w (omega (arith, leb-true w 3 e))
    go false e k = none_tried w _ l k

least_fits : (needed : Bool) (a w : ℕ) → 1 ≤ w → length (whole_roles needed (range.AtLeast a) w) ≡ w
    → T (fits (whole_roles needed (range.AtLeast a) w) (good needed (range.AtLeast a)))
least_fits needed a w l h = go (leb w 4) (eqb a 0) (eqb a 1) refl refl refl h
  where
    go : (u v x : Bool) → leb w 4 ≡ u → eqb a 0 ≡ v → eqb a 1 ≡ x
        → length (cond (u && v) (from_zero needed w) (cond (u && x) (from_one needed w) [])) ≡ w
        → T (fits (cond (u && v) (from_zero needed w) (cond (u && x) (from_one needed w) [])) (good needed (range.AtLeast a)))
    go true true x e f g k =
        rw (eqb-true a 0 f) (zero_tried needed w (narrow w e))
    go true false true e f g k =
        rw (eqb-true a 1 g) (one_tried needed w (narrow w e))
    go true false false e f g k = none_tried w _ l k
    go false v x e f g k = none_tried w _ l k

pub whole_tried : (needed : Bool) (r : Range) (w : ℕ) → 1 ≤ w → length (whole_roles needed r w) ≡ w → T (fits (whole_roles needed r w) (good needed r))
whole_tried needed range.Any w l h = any-fits needed w l h
whole_tried needed (range.AtLeast a) w l h = least_fits needed a w l h
whole_tried needed (range.Between a b) w l h = within_tried needed a b w l h
whole_tried needed (range.OneOf a b c) w l h = none_tried w _ l h
