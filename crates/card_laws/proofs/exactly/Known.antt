-- A code that is read or passed is printable, and so is every label: a card that was opened has no bad byte.
use Prim.Native.Nat.{ℕ, zero, suc, ◌+◌, ◌-◌, ◌≤◌, ◌<◌}
use native.Mathlib.Omega.{arith}
use native.Mathlib.Decide.{dec_lt}
use mathlib.Core.Path.{◌≡◌, refl, ap, ◌∙◌}
use mathlib.Core.List.{List, [], ◌∷◌, ◌++◌}
use mathlib.Core.Bool.{Bool, true, false, cond, ◌&&◌, true≢false}
use lib.ListN.{length, get_or, replicate}
use lib.Dec.{T, eqb, leb, leb→le}
use borrow.Author.Tests.{eqb-true, leb-true}
use Rattle.base_digits.proofs.digits.Bools.{and_left, and_right}
use Rattle.base_lists.proofs.Finding.{first-none}
use Rattle.value_text.specs.text.Texts.{printable}
use Rattle.value_field.proofs.writing.Printed.{both}
use Rattle.format_layout.specs.Shape.{Layout}
use Rattle.format_layout.specs.Table.{layouts, passed_codes}
use Rattle.format_code.specs.Codes.{byte_fits, fits_at, fits, codes, place_in, code_of}
use Rattle.format_layout.specs.Layouts.{layout_at, label_of}
use Rattle.format_layout.specs.packed.Rows.{layout_count}
use Rattle.format_code.specs.Codes.{pattern_count}
use Rattle.format_layout.proofs.Every.{every, and_left as left, and_right as right}
use Rattle.format_code.proofs.Places.{codes-count}
use Rattle.format_layout.proofs.Places.{no_label}
use Rattle.format_layout.proofs.Columns.{of_layout}
use Rattle.format_code.proofs.Walk.{is-unknown}
use Rattle.format_code.proofs.Apart.{Fits, in_each}
use Rattle.value_text.specs.printable.Bytes.{bad_at, first_bad}
use Rattle.value_text.proofs.printable.Rows.{good_byte}
use Rattle.card_field.proofs.seeking.Bytes.{bad-none}
use Rattle.card_put.specs.opening.Opening.{labelled, new_card}
use Rattle.card_laws.specs.exactly.Words.{is_unknown}
use Rattle.card_laws.proofs.exactly.Blanked.{blank_printable}

-- the bytes of a pattern are printable, so the bytes that fit them are
abbrev ok_at : List ℕ → ℕ → Bool
ok_at p i = leb 32 (get_or p i 0) && leb (get_or p i 0) 126

abbrev okay : List ℕ → Bool
okay p = ok_at p 0 && (ok_at p 1 && (ok_at p 2 && (ok_at p 3 && ok_at p 4)))

all_okay : T (every (λ (i : ℕ). okay) 0 codes)
unfolding codes layouts passed_codes
all_okay = tt

ok_byte : (p t : List ℕ) (i : ℕ) → T (ok_at p i) → fits_at p t i ≡ true → bad_at t i ≡ false
unfolding fits_at byte_fits
ok_byte p t i k e = go (eqb (get_or p i 0) 64) (eqb (get_or p i 0) 35) e
  where
    least : 32 ≤ get_or p i 0
    least = leb→le 32 (get_or p i 0) (left (leb 32 (get_or p i 0)) (leb (get_or p i 0) 126) k)

    most : get_or p i 0 ≤ 126
    most = leb→le (get_or p i 0) 126 (right (leb 32 (get_or p i 0)) (leb (get_or p i 0) 126) k)

    go : (x y : Bool) → cond x (leb 49 (get_or t i 0) && leb (get_or t i 0) 57)
        (cond y (leb 48 (get_or t i 0) && leb (get_or t i 0) 57) (eqb (get_or p i 0) (get_or t i 0))) ≡ true
        → bad_at t i ≡ false
    go true y e =
        let a = leb-true 49 (get_or t i 0) (and_left (leb 49 (get_or t i 0)) (leb (get_or t i 0) 57) e) in
        let b = leb-true (get_or t i 0) 57 (and_right (leb 49 (get_or t i 0)) (leb (get_or t i 0) 57) e) in
        good_byte t i (omega (arith, a)) (omega (arith, b))
    go false true e =
        let a = leb-true 48 (get_or t i 0) (and_left (leb 48 (get_or t i 0)) (leb (get_or t i 0) 57) e) in
        let b = leb-true (get_or t i 0) 57 (and_right (leb 48 (get_or t i 0)) (leb (get_or t i 0) 57) e) in
        good_byte t i (omega (arith, a)) (omega (arith, b))
    go false false e =
        let q = eqb-true (get_or p i 0) (get_or t i 0) e in
        good_byte t i (omega (arith, q, least)) (omega (arith, q, most))

fits_five : (p t : List ℕ) → fits p t ≡ true → length t ≡ 5
unfolding fits
fits_five p t e = eqb-true (length t) 5
    (and_left (eqb (length t) 5) (fits_at p t 0 && fits_at p t 1 && fits_at p t 2 && fits_at p t 3 && fits_at p t 4) e)

fits-printable : (p t : List ℕ) → T (okay p) → fits p t ≡ true → printable t ≡ true
unfolding first_bad
fits-printable p t k e =
    bad-none t (omega (arith, first-none (bad_at t) (length t) (λ i h. none i (omega (arith, fits_five p t e)))))
  where
    f : Fits p t
    f = in_each p t e

    k1 : T (ok_at p 1 && (ok_at p 2 && (ok_at p 3 && ok_at p 4)))
    k1 = right (ok_at p 0) (ok_at p 1 && (ok_at p 2 && (ok_at p 3 && ok_at p 4))) k

    k2 : T (ok_at p 2 && (ok_at p 3 && ok_at p 4))
    k2 = right (ok_at p 1) (ok_at p 2 && (ok_at p 3 && ok_at p 4)) k1

    k3 : T (ok_at p 3 && ok_at p 4)
    k3 = right (ok_at p 2) (ok_at p 3 && ok_at p 4) k2

    none : (i : ℕ) → i < 5 → bad_at t i ≡ false
    none zero h = ok_byte p t 0 (left (ok_at p 0) (ok_at p 1 && (ok_at p 2 && (ok_at p 3 && ok_at p 4))) k) f.first
    none (suc zero) h = ok_byte p t 1 (left (ok_at p 1) (ok_at p 2 && (ok_at p 3 && ok_at p 4)) k1) f.second
    none (suc (suc zero)) h = ok_byte p t 2 (left (ok_at p 2) (ok_at p 3 && ok_at p 4) k2) f.third
    none (suc (suc (suc zero))) h = ok_byte p t 3 (left (ok_at p 3) (ok_at p 4) k3) f.fourth
    none (suc (suc (suc (suc zero)))) h = ok_byte p t 4 (right (ok_at p 3) (ok_at p 4) k3) f.fifth
    none (suc (suc (suc (suc (suc i))))) h = absurd (omega arith)

one_fits : (t : List ℕ) (ps : List (List ℕ)) (i : ℕ) → T (every (λ (j : ℕ). okay) i ps) → place_in ps t < length ps
    → printable t ≡ true
unfolding place_in
one_fits t [] i k h = absurd (omega arith)
one_fits t (p ∷ ps) i k h =
    go (fits p t) refl h (λ l. one_fits t ps (suc i) (right (okay p) (every (λ (j : ℕ). okay) (suc i) ps) k) l)
  where
    go : (b : Bool) → fits p t ≡ b → cond b 0 (1 + place_in ps t) < suc (length ps)
        → (place_in ps t < length ps → printable t ≡ true) → printable t ≡ true
    go true q h more = fits-printable p t (left (okay p) (every (λ (j : ℕ). okay) (suc i) ps) k) q
    go false q h more = more (omega arith)

-- a known code is printable
pub known_printable : (t : List ℕ) → is_unknown (code_of t) ≡ false → printable t ≡ true
known_printable t h = elim (dec_lt (place_in codes t) pattern_count) [
  | yes l ↦ one_fits t codes 0 all_okay (omega (arith, codes-count))
  | no l ↦ absurd (true≢false (ap is_unknown (is-unknown t (place_in codes t) refl (omega arith)) ∙ h))
]

-- and so is every label
all_labels : T (every (λ (i : ℕ) (l : Layout). printable l.label) 0 layouts)
unfolding layouts printable
all_labels = tt

is_true : (b : Bool) → T b → b ≡ true
is_true true t = refl
is_true false t = absurd t

pub label-printable : (k : ℕ) → printable (label_of k) ≡ true
unfolding label_of printable
label-printable k = elim (dec_lt k layout_count) [
  | yes h ↦ is_true (printable (layout_at k).label) (of_layout (λ (l : Layout). printable l.label) all_labels k h)
  | no h ↦ empty (layout_at k).label (no_label k (omega arith))
]
  where
    empty : (l : List ℕ) → length l ≡ 0 → printable l ≡ true
    empty [] h = refl
    empty (b ∷ l) h = absurd (omega arith)

-- a new card
pub new_printable : (t l : List ℕ) → printable t ≡ true → printable l ≡ true → printable (new_card t l) ≡ true
unfolding new_card labelled
new_printable t l h k =
    both t (l ++ replicate (75 - length l) 32) h (both l (replicate (75 - length l) 32) k (blank_printable (75 - length l)))
