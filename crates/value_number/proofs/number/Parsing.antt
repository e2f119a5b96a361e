-- What each way through the reading of a number finds.
use Prim.Native.Nat.{ℕ, ◌+◌, ◌≤◌, ◌<◌}
use native.Mathlib.Omega.{arith}
use native.Mathlib.Decide.{ℕ_discrete}
use native.Mathlib.Numerals.{add-one}
use native.Mathlib.Nat.{add-zero}
use mathlib.Core.Path.{◌≡◌, refl, sym, ap, ◌∙◌}
use mathlib.Core.List.{List, [], ◌∷◌, ◌++◌, append-nil}
use mathlib.Core.Bool.{Bool, true, false, cond, ◌&&◌}
use lib.ListN.{length, get_or, drop, drop_of_length-le}
use lib.Seq.{drop-cons}
use lib.Dec.{eqb}
use lib.IntN.{ℤ}
use borrow.Author.Tests.{eq-eqb, ne_eqb, lt-ltb, le-ltb}
use Rattle.base_digits.specs.declared.digits.Run.{Run}
use Rattle.base_digits.specs.digits.Figures.{blanks, unpadded, leading, behind, value_from, limit, capped, run_of}
use Rattle.base_digits.proofs.digits.Walk.{cap_early, value_append, all-leading}
use Rattle.base_value.specs.declared.Value.TheVariants.{Absent, Decimal}
use Rattle.base_value.specs.declared.Unread.TheVariants.{Malformed, OutOfRange}
use Rattle.value_number.specs.number.Reading.{counted_of, units_of, point_of, figures_of, held_of, sign_of, sign_at, number_of}
use Rattle.base_digits.specs.signs.Signs.{signed_of}
use Rattle.std.specs.Prelude.{Result, Ok, Err, Option, Some, None}
use Rattle.base_value.specs.declared.Unread.{Unread}
use Rattle.base_value.specs.declared.Value.{Value}
use Rattle.value_number.specs.declared.number.Figures.{Figures}
use Rattle.value_number.specs.number.Figures.{figures}

-- nothing stands behind the digits
ended : (t : List ℕ) → length (leading t) ≡ length t → behind t ≡ []
unfolding behind
ended t h = drop_of_length-le t {i = length (leading t)} (omega arith)

-- something does
goes_on_lem : (t : List ℕ) → length (leading t) < length t → behind t ≡ get_or t (length (leading t)) 0 ∷ drop (length (leading t) + 1) t
unfolding behind
goes_on_lem t h = rw (add-one (length (leading t))) (drop-cons t (length (leading t)) 0 h)

same_counted : {a b m n p q : ℕ} → a ≡ b → m ≡ n → p ≡ q → counted_of a m p ≡ counted_of b n q
same_counted x y z = λ i. counted_of (x i) (y i) (z i)

module _ (t : List ℕ) (r : Run) (e : r ≡ run_of 0 t) where
  count-is : r.count ≡ length (leading t)
  count-is = ap (λ (x : Run). x.count) e

  pub figures_whole : (pointed : Bool) → r.count ≡ length t → counted_of r.count r.number 0 ≡ figures_of pointed t
  unfolding figures_of point_of
  figures_whole pointed h = rw (e, ended t (sym count-is ∙ h), append-nil, add-zero)

  module _ (more : r.count < length t) where
    found : behind t ≡ get_or t r.count 0 ∷ drop (r.count + 1) t
    found = rw count-is (goes_on_lem t (rw count-is at more))

    pub figures_no_point_in_whole : (pointed : Bool) → pointed ≡ false → None ≡ figures_of pointed t
    unfolding figures_of point_of
    figures_no_point_in_whole pointed q = rw (q, found)

    pub figures_other-byte : (pointed : Bool) → (get_or t r.count 0 ≡ 46 → ⊥) → None ≡ figures_of pointed t
    unfolding figures_of point_of
    figures_other-byte pointed h = rw (found, ne_eqb (get_or t r.count 0) 46 h) (never pointed)
      where
        never : (pointed : Bool) → None ≡ cond (pointed && false) (units_of (leading t) (drop (r.count + 1) t)) None
        never true = refl
        never false = refl

    module _ (b : Run) (d : b ≡ run_of r.number (drop (r.count + 1) t)) (point : get_or t r.count 0 ≡ 46) (pointed : Bool)
        (q : pointed ≡ true) where
      pub figures_odd_places : (b.count ≡ length (drop (r.count + 1) t) → ⊥) → None ≡ figures_of pointed t
      unfolding figures_of point_of
      figures_odd_places h =
          rw (q, found, eq-eqb (get_or t r.count 0) 46 point, ne_eqb (length (leading (drop (r.count + 1) t))) (length (drop (r.count + 1) t)) (λ q. h (ap (λ (x : Run). x.count) d ∙ q)))

      pub figures_places : b.count ≡ length (drop (r.count + 1) t) → counted_of (r.count + b.count) b.number b.count ≡ figures_of pointed t
      unfolding figures_of point_of
      figures_places h =
          rw (q, found, eq-eqb (get_or t r.count 0) 46 point, eq-eqb (length (leading (drop (r.count + 1) t))) (length (drop (r.count + 1) t)) full)
          (same_counted (ap (λ k. k + b.count) count-is ∙ ap (λ k. length (leading t) + k) h) units h)
        where
          full : length (leading (drop (r.count + 1) t)) ≡ length (drop (r.count + 1) t)
          full = sym (ap (λ (x : Run). x.count) d) ∙ h

          units : b.number ≡ capped (value_from 0 (leading t ++ drop (r.count + 1) t))
          units =
              ap (λ (x : Run). x.number) d
              ∙ ap (λ l. capped (value_from r.number l)) (all-leading (drop (r.count + 1) t) full)
              ∙ ap (λ k. capped (value_from k (drop (r.count + 1) t))) (ap (λ (x : Run). x.number) e)
              ∙ cap_early (value_from 0 (leading t)) (drop (r.count + 1) t)
              ∙ ap capped (sym (value_append 0 (leading t) (drop (r.count + 1) t)))

-- an unsigned number with its sign
module _ (minus : Bool) (f : Option Figures) where
  pub held-not : f ≡ None → (Err Malformed) ≡ held_of minus f
  unfolding held_of
  held-not q = rw q

  module _ (n p : ℕ) (q : f ≡ Some (figures n p)) where
    pub held_units : (z : ℤ) → z ≡ signed_of minus n → n < limit → Ok (Decimal (record { units = z; places = p })) ≡ held_of minus f
    unfolding held_of
    held_units z e h = rw (q, lt-ltb n limit h) (ap (λ (y : ℤ). Ok (Decimal (record { units = y; places = p }))) e)

    pub held_large : limit ≤ n → (Err OutOfRange) ≡ held_of minus f
    unfolding held_of
    held_large h = rw (q, le-ltb n limit h)

module _ (pointed : Bool) (s : List ℕ) (at : ℕ) (e : at ≡ blanks s) where
  pub number_absent : at ≡ length s → Ok Absent ≡ number_of pointed s
  unfolding number_of unpadded sign_of
  number_absent h = let k : length s ≤ blanks s = omega arith in rw (drop_of_length-le s k)

  module _ (inside : at < length s) where
    first : unpadded s ≡ get_or s at 0 ∷ drop (at + 1) s
    unfolding unpadded
    first = ap (λ k. drop k s) (sym e) ∙ rw (add-one at) (drop-cons s at 0 inside)

    pub number_minus : get_or s at 0 ≡ 45 → held_of true (figures_of pointed (drop (at + 1) s)) ≡ number_of pointed s
    unfolding number_of sign_of
    number_minus h = rw (first, eq-eqb (get_or s at 0) 45 h)

    pub number_plus : get_or s at 0 ≡ 43 → held_of false (figures_of pointed (drop (at + 1) s)) ≡ number_of pointed s
    unfolding number_of sign_of
    number_plus h = rw (first, h)

    pub number-plain : (get_or s at 0 ≡ 45 → ⊥) → (get_or s at 0 ≡ 43 → ⊥) → held_of false (figures_of pointed (drop at s)) ≡ number_of pointed s
    unfolding number_of sign_of
    number-plain h k =
        rw (first, ne_eqb (get_or s at 0) 45 h, ne_eqb (get_or s at 0) 43 k)
        (ap (λ l. held_of false (figures_of pointed l)) (rw (add-one at) (drop-cons s at 0 inside)))

-- a number behind its blanks, with its sign if it has one
pub number-signed : (pointed : Bool) (s : List ℕ) (at : ℕ) → at ≡ blanks s → at < length s
    → held_of (eqb (get_or s at 0) 45) (figures_of pointed (drop (at + sign_at (get_or s at 0)) s)) ≡ number_of pointed s
unfolding sign_at
number-signed pointed s at e h = elim (ℕ_discrete (get_or s at 0) 45) [
  | yes m ↦ rw m (number_minus pointed s at e h m)
  | no m ↦ elim (ℕ_discrete (get_or s at 0) 43) [
    | yes p ↦ rw p (number_plus pointed s at e h p)
    | no p ↦ rw (ne_eqb (get_or s at 0) 45 m, ne_eqb (get_or s at 0) 43 p, add-zero at) (number-plain pointed s at e h m p)
  ]
]

-- the same by its parts
pub number_by : (pointed : Bool) (s : List ℕ) (at k : ℕ) → at ≡ blanks s → at < length s → k ≡ sign_at (get_or s at 0)
    → (f : Option Figures) → f ≡ figures_of pointed (drop (at + k) s) → (n : Result Value Unread) → n ≡ held_of (eqb (get_or s at 0) 45) f → n ≡ number_of pointed s
number_by pointed s at k e h q f a n b =
    b ∙ ap (held_of (eqb (get_or s at 0) 45)) (a ∙ ap (λ (j : ℕ). figures_of pointed (drop (at + j) s)) q) ∙ number-signed pointed s at e h
