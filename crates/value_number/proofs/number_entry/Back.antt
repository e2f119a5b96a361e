-- What was written reads back as the same number, for every width.
use Prim.Native.Nat.{ℕ, zero, suc, ◌+◌, ◌-◌, ◌/◌, ◌%◌, ◌^◌, ◌≤◌, ◌<◌, max}
use native.Mathlib.Omega.{arith}
use native.Mathlib.Nat.{zero-mul, zero-add, add-zero, mod-eq_of_lt, pow-le-pow_right, lt_of_lt_of_le}
use mathlib.Core.Path.{◌≡◌, refl, sym, ap, ap₂, ◌∙◌}
use mathlib.Core.List.{List, [], ◌∷◌, ◌++◌, append-nil}
use mathlib.Core.Bool.{Bool, true, false, cond}
use lib.ListN.{length, drop, replicate, length-append, length-replicate}
use lib.Seq.{drop-append_seam}
use lib.Dec.{eqb, leb, ltb}
use lib.IntN.{ℤ, pos, negsuc, nat_abs}
use borrow.Author.Tests.{eq-eqb, ne_eqb, lt-ltb, ltb-true, leb-true}
use Rattle.base_digits.specs.digits.Figures.{blanks, unpadded, leading, behind, value_from, limit, capped}
use Rattle.base_digits.specs.digits.Digits.{digits, size}
use Rattle.base_digits.specs.digits.Columns.{right_adjusted, or_else}
use Rattle.base_digits.proofs.digits.Spell.{digits-length}
use Rattle.base_digits.proofs.digits.Numbers.{digits_lead, digits_alone, digits_value, digits_split, size_enough, size-some}
use Rattle.base_value.specs.declared.Decimal.{Decimal}
use Rattle.base_value.specs.declared.Value.TheVariants as value
use Rattle.value_number.specs.number.Reading.{counted_of, point_of, figures_of, held_of, sign_of, number_of}
use Rattle.base_digits.specs.signs.Signs.{signed_of, is_minus}
use Rattle.value_number.specs.number_entry.Spelling.{sign, pointed, plain, spelled, units_in, decimal_in}
use Rattle.std.specs.Prelude.{Ok, Some, Option, None}
use Rattle.value_number.specs.number.Figures.{figures}

-- written digits, and what stands behind them
lead : (k n : ℕ) (r : List ℕ) → leading r ≡ [] → leading (digits k n ++ r) ≡ digits k n
lead k n r e = digits_lead k n r ∙ ap (λ (l : List ℕ). digits k n ++ l) e ∙ append-nil (digits k n)

rest : (k n : ℕ) (r : List ℕ) → leading r ≡ [] → behind (digits k n ++ r) ≡ r
unfolding behind
rest k n r e =
    ap (λ (l : List ℕ). drop (length l) (digits k n ++ r)) (lead k n r e) ∙ drop-append_seam (digits k n) r

-- digits in all that hold the number are worth the number
worth : (k n : ℕ) → n < 10 ^ k → n < limit → capped (value_from 0 (digits k n)) ≡ n
worth k n h l =
    let e : value_from 0 (digits k n) ≡ n = digits_value 0 k n ∙ rw (zero-mul (10 ^ k), zero-add (n % 10 ^ k), mod-eq_of_lt h) in
    rw e (omega arith)

same_units : (c : ℕ) {m n p q : ℕ} → 1 ≤ c → m ≡ n → p ≡ q → counted_of c m p ≡ Some (figures n q)
same_units c h a b = rw (ne_eqb c 0 (λ e. omega arith)) (ap₂ (λ n p. Some (figures n p)) a b)

module _ (point : Bool) (k n : ℕ) (l : n < limit) where
  figures_whole : 1 ≤ k → n < 10 ^ k → figures_of point (digits k n) ≡ Some (figures n 0)
  unfolding figures_of point_of leading
  figures_whole h m =
      ap (figures_of point) (sym (append-nil (digits k n)))
      ∙ rw (rest k n [] refl, lead k n [] refl, append-nil (digits k n), add-zero (length (digits k n)), digits-length k n)
      (same_units k h (worth k n m l) refl)

  figures_pointed : (p : ℕ) → 1 ≤ p → n < 10 ^ (k + p) → point ≡ true → figures_of point (pointed k p n) ≡ Some (figures n p)
  unfolding figures_of point_of leading
  figures_pointed p h m e =
      rw (e, rest k (n / 10 ^ p) (46 ∷ digits p n) refl, lead k (n / 10 ^ p) (46 ∷ digits p n) refl, all)
      (same_units (length (digits k (n / 10 ^ p)) + length (digits p n)) (omega (arith, digits-length p n))
      (ap (λ (s : List ℕ). capped (value_from 0 s)) (sym (digits_split k p n)) ∙ worth (k + p) n m l)
      (digits-length p n))
    where
      all : eqb (length (leading (digits p n))) (length (digits p n)) ≡ true
      all = eq-eqb (length (leading (digits p n))) (length (digits p n)) (ap length (digits_alone p n))

  figures_plain : (p : ℕ) → 1 ≤ k + p → n < 10 ^ (k + p) → (1 ≤ p → point ≡ true) → figures_of point (plain k p n) ≡ Some (figures n p)
  unfolding plain
  figures_plain zero h m e = figures_whole (omega arith) (rw (add-zero k) at m)
  figures_plain (suc p) h m e = figures_pointed (suc p) (omega arith) m (e (omega arith))

-- the first byte of a number without its sign is a point or a digit
record First (s : List ℕ) : Type 0 where
  byte : ℕ
  others : List ℕ
  is : s ≡ byte ∷ others
  figure : 46 ≤ byte

first-append : {s : List ℕ} (r : List ℕ) → First s → First (s ++ r)
first-append r f = record { byte = f.byte; others = f.others ++ r; is = ap (λ (l : List ℕ). l ++ r) f.is; figure = f.figure }

first-digits : (k n : ℕ) → First (digits (suc k) n)
unfolding digits
first-digits zero n = record { byte = 48 + n % 10; others = []; is = refl; figure = omega arith }
first-digits (suc k) n = first-append ((48 + n % 10) ∷ []) (first-digits k (n / 10))

first_plain : (k p n : ℕ) → 1 ≤ k + p → First (plain k p n)
unfolding plain digits
first_plain zero zero n h = absurd (omega arith)
first_plain zero (suc p) n h = record { byte = 46; others = digits (suc p) n; is = refl; figure = omega arith }
first_plain (suc k) zero n h = first-digits k n
first_plain (suc k) (suc p) n h = first-append (46 ∷ digits (suc p) n) (first-digits k (n / 10 ^ suc p))

-- blanks before a byte that is none are padding
unpad : (j b : ℕ) (t : List ℕ) → (b ≡ 32 → ⊥) → unpadded (replicate j 32 ++ (b ∷ t)) ≡ b ∷ t
unfolding unpadded blanks
unpad zero b t h = rw (ne_eqb b 32 h)
unpad (suc j) b t h = unpad j b t h

module _ (point minus : Bool) (k p n : ℕ) (l : n < limit) (some-digit : 1 ≤ k + p) (below : n < 10 ^ (k + p)) (may : 1 ≤ p → point ≡ true) where
  held : (m : Bool) → held_of m (figures_of point (plain k p n)) ≡ Ok (value.Decimal (record { units = signed_of m n; places = p }))
  unfolding held_of
  held m = rw (figures_plain point k n l p some-digit below may, lt-ltb n limit l)

  unsigned : (s : List ℕ) → s ≡ plain k p n → First s → (j : ℕ)
      → number_of point (replicate j 32 ++ s) ≡ Ok (value.Decimal (record { units = signed_of false n; places = p }))
  unfolding number_of sign_of
  unsigned s e f j =
      let big : 46 ≤ f.byte = f.figure in
      rw (f.is, unpad j f.byte f.others (λ q. omega arith), ne_eqb f.byte 45 (λ q. omega arith), ne_eqb f.byte 43 (λ q. omega arith))
      (ap (λ (t : List ℕ). held_of false (figures_of point t)) (sym f.is ∙ e) ∙ held false)

  -- a spelling with blanks before it
  pub spelled_back : (j : ℕ) → number_of point (replicate j 32 ++ spelled minus k p n) ≡ Ok (value.Decimal (record { units = signed_of minus n; places = p }))
  unfolding number_of spelled sign sign_of
  spelled_back j = go minus
    where
      go : (m : Bool) → number_of point (replicate j 32 ++ (sign m ++ plain k p n)) ≡ Ok (value.Decimal (record { units = signed_of m n; places = p }))
      go true = rw (unpad j 45 (plain k p n) (λ q. omega arith)) (held true)
      go false = unsigned (plain k p n) refl (first_plain k p n some-digit) j

-- sign and magnitude make the number again
pub sign_back : (z : ℤ) → signed_of (is_minus z) (nat_abs z) ≡ z
unfolding signed_of
sign_back (pos n) = refl
sign_back (negsuc n) = refl

-- what is right adjusted is the text behind blanks, in just the width
pub adjusted_back : (w : ℕ) (x t : List ℕ) → right_adjusted w x ≡ Some t → (t ≡ replicate (w - length x) 32 ++ x) × (length t ≡ w)
unfolding right_adjusted
adjusted_back w x t e = go (leb (length x) w) refl e
  where
    go : (b : Bool) → leb (length x) w ≡ b → cond b (Some (replicate (w - length x) 32 ++ x)) None ≡ Some t
        → (t ≡ replicate (w - length x) 32 ++ x) × (length t ≡ w)
    go true q h =
        let is : t ≡ replicate (w - length x) 32 ++ x = cc in
        let fits : length x ≤ w = leb-true (length x) w q in
        (is, ap length is ∙ length-append (replicate (w - length x) 32) x ∙ ap (λ m. m + length x) (length-replicate (w - length x) 32) ∙ omega arith)
    go false q h = let z : ◌≡◌ {A = ℕ} 0 1 = cc in absurd (omega arith)

module _ (point : Bool) (w : ℕ) (d : Decimal) (t : List ℕ) (may : 1 ≤ d.places → point ≡ true) where
  Reads : Type 0
  Reads = (number_of point t ≡ Ok (value.Decimal d)) × (length t ≡ w)

  one_back : nat_abs d.units < limit → (k : ℕ) → size (nat_abs d.units) ≤ k + d.places
      → right_adjusted w (spelled (is_minus d.units) k d.places (nat_abs d.units)) ≡ Some t → Reads
  unfolding Reads
  one_back l k h e =
      let n = nat_abs d.units in
      let x = spelled (is_minus d.units) k d.places n in
      let b = adjusted_back w x t e in
      let one : 1 ≤ size n = size-some 19 n in
      let below : n < 10 ^ (k + d.places) = lt_of_lt_of_le (size_enough 20 n (omega arith)) (pow-le-pow_right {n = 10} (omega arith) h) in (
        ap (number_of point) b.0
            ∙ spelled_back point (is_minus d.units) k d.places n l (omega arith) below may (w - length x)
            ∙ ap (λ (z : ℤ). Ok (value.Decimal (record { units = z; places = d.places }))) (sign_back d.units),
        b.1,
      )

  units_back : nat_abs d.units < limit → units_in w (is_minus d.units) d.places (nat_abs d.units) ≡ Some t → Reads
  unfolding units_in
  units_back l e = go (right_adjusted w (spelled m (max (size n) (p + 1) - p) p n)) refl e
    where
      n : ℕ
      n = nat_abs d.units

      p : ℕ
      p = d.places

      m : Bool
      m = is_minus d.units

      go : (a : Option (List ℕ)) → right_adjusted w (spelled m (max (size n) (p + 1) - p) p n) ≡ a
          → or_else a (right_adjusted w (spelled m (max (size n) p - p) p n)) ≡ Some t → Reads
      go (Some u) q h = one_back l (max (size n) (p + 1) - p) (omega arith) (q ∙ h)
      go None q h = one_back l (max (size n) p - p) (omega arith) h

  pub number_back : decimal_in w d ≡ Some t → (number_of point t ≡ Ok (value.Decimal d)) × (length t ≡ w)
  unfolding decimal_in Reads
  number_back e = go (ltb (nat_abs d.units) limit) refl e
    where
      go : (b : Bool) → ltb (nat_abs d.units) limit ≡ b
          → cond b (units_in w (is_minus d.units) d.places (nat_abs d.units)) None ≡ Some t → Reads
      go true q h = units_back (ltb-true (nat_abs d.units) limit q) h
      go false q h = let z : ◌≡◌ {A = ℕ} 0 1 = cc in absurd (omega arith)

-- a decimal that was written reads back as itself
pub decimal_back : (w : ℕ) (d : Decimal) (t : List ℕ) → decimal_in w d ≡ Some t → number_of true t ≡ Ok (value.Decimal d)
decimal_back w d t e = (number_back true w d t (λ h. refl) e).0
