-- What each step of writing a number leaves in the columns.
use Prim.Native.Nat.{ℕ, zero, suc, ◌+◌, ◌-◌, ◌/◌, ◌^◌, ◌≤◌, ◌<◌, max}
use native.Mathlib.Omega.{arith}
use native.Mathlib.Numerals.{add-one, one-add}
use mathlib.Core.Path.{◌≡◌, refl, sym, ap, ap₂, ◌∙◌}
use native.Mathlib.Nat.{sub-zero, zero-add, add-zero}
use borrow.Author.Tests.{le-leb, lt-leb, le-ltb, lt-ltb}
use mathlib.Core.List.{List, [], ◌∷◌, ◌++◌}
use mathlib.Core.Bool.{Bool, true, false}
use lib.ListN.{length, take, drop, set, get_or, replicate, length-set, length-append, length-replicate, drop_of_length-le}
use lib.Seq.{length-take-le, take_at, drop_at, length_front, drop-cons, set_at}
use borrow.Rule.Slice.PartMut.{put_mid}
use lib.IntN.{nat_abs}
use Rattle.base_digits.specs.digits.Figures.{limit}
use Rattle.base_digits.specs.digits.Digits.{digits, size}
use Rattle.base_value.specs.declared.Decimal.{Decimal}
use Rattle.base_digits.specs.digits.Columns.{right_adjusted, fits, written}
use Rattle.base_digits.proofs.digits.Spell.{digits-length}
use Rattle.base_digits.proofs.digits.Answers.{or-first, or-second}
use Rattle.base_digits.proofs.digits.Parts.{rest_length, put_rest, put_length, placed}
use Rattle.value_number.specs.number_entry.Spelling.{sign, sign_columns, point_columns, pointed, plain, plain_in, spelled, units_in, decimal_in}
use Rattle.base_digits.specs.signs.Signs.{is_minus}
use Rattle.std.specs.Prelude.{Option, None, Some}

-- the columns with t from place k + 1 on and a point before it
module _ (k : ℕ) (s t : List ℕ) (inside : k < length s) (same : length t ≡ length (take (length s - (k + 1)) (drop (k + 1) s))) where
  abbrev laid : List ℕ
  laid = put_mid (k + 1) (length s - (k + 1)) s t

  pub laid-length : length laid ≡ length s
  laid-length = put_length (k + 1) s t same

  pub pointed-length : length (set laid k 46) ≡ length s
  pointed-length = length-set laid k 46 ∙ laid-length

  pub front_length : length (take k (set laid k 46)) ≡ k
  front_length = length-take-le k (set laid k 46) (rw pointed-length (omega arith))

  behind : drop k (set laid k 46) ≡ 46 ∷ t
  behind =
      placed k 46 laid (rw laid-length inside)
      ∙ ap (λ (l : List ℕ). 46 ∷ drop (suc k) l) (put_rest (k + 1) s t)
      ∙ ap (λ (l : List ℕ). 46 ∷ l) (drop_at (take (k + 1) s) t (suc k) (length-take-le (k + 1) s (omega arith) ∙ add-one k))

  pub pointed-written : (n rest : ℕ) (front : List ℕ) → t ≡ digits (length (take (length s - (k + 1)) (drop (k + 1) s))) n
      → rest ≡ n / 10 ^ length (take (length s - (k + 1)) (drop (k + 1) s)) → front ≡ digits (length (take k (set laid k 46))) rest
      → front ++ drop k (set laid k 46) ≡ pointed k (length s - (k + 1)) n
  pointed-written n rest front a b c =
      ap₂ (λ (x y : List ℕ). x ++ y)
      (c ∙ ap₂ digits front_length (b ∙ ap (λ m. n / 10 ^ m) (rest_length (k + 1) s)))
      (behind ∙ ap (λ (l : List ℕ). 46 ∷ l) (a ∙ ap (λ m. digits m n) (rest_length (k + 1) s)))

  pub pointed_same : (front : List ℕ) → length front ≡ length (take k (set laid k 46)) → length (front ++ drop k (set laid k 46)) ≡ length s
  pointed_same front h = length_front (set laid k 46) front k h ∙ pointed-length

-- the point's columns
pub point_some : (p : ℕ) → (p ≡ 0 → ⊥) → point_columns p ≡ p + 1
point_some zero h = absurd (h refl)
point_some (suc p) h = sym (add-one (suc p))

module _ (w p n : ℕ) where
  pub plain-whole : p ≡ 0 → plain_in w p n ≡ Some (digits w n)
  unfolding plain_in plain
  plain-whole h = rw (h, le-leb 0 w (omega arith)) (ap (λ k. Some (digits k n)) (sub-zero w))

  module _ (point : p ≡ 0 → ⊥) where
    columns_are : point_columns p ≡ p + 1
    columns_are = point_some p point

    pub plain_short : w ≤ p → plain_in w p n ≡ None
    unfolding plain_in
    plain_short h = rw (lt-leb (point_columns p) w (rw columns_are (omega arith)))

    plain-is : (k : ℕ) → plain k p n ≡ pointed k p n
    unfolding plain
    plain-is k = by p point
      where
        by : (p : ℕ) → (p ≡ 0 → ⊥) → plain k p n ≡ pointed k p n
        by zero h = absurd (h refl)
        by (suc p) h = refl

    pub plain-pointed : p < w → plain_in w p n ≡ Some (pointed (w - (p + 1)) (w - (w - (p + 1) + 1)) n)
    unfolding plain_in
    plain-pointed h =
        rw (columns_are, le-leb (p + 1) w (omega arith), plain-is (w - (p + 1)))
        (ap (λ k. Some (pointed (w - (p + 1)) k n)) (omega arith))

  pub plain_exact : (k : ℕ) → w ≡ k + point_columns p → plain_in w p n ≡ Some (plain k p n)
  unfolding plain_in
  plain_exact k h =
      rw (le-leb (point_columns p) w (omega arith)) (ap (λ m. Some (plain m p n)) (omega arith))

-- the sign before the number
sign-first : (s : List ℕ) → 1 ≤ length s → take 1 (set s 0 45) ≡ 45 ∷ []
sign-first [] h = absurd (omega arith)
sign-first (b ∷ s) h = refl

module _ (s t old : List ℕ) (k p n : ℕ) where
  pub signed-written : (minus : Bool) → minus ≡ true → length s ≡ sign_columns minus + (k + point_columns p)
      → t ≡ written (plain_in (length (take (length (set s 0 45) - 1) (drop 1 (set s 0 45)))) p n) old
      → put_mid 1 (length (set s 0 45) - 1) (set s 0 45) t ≡ spelled minus k p n
  unfolding spelled sign
  signed-written minus q h e =
      put_rest 1 (set s 0 45) t
      ∙ ap₂ (λ (x y : List ℕ). x ++ y) (sign-first s (omega (arith, room))) (e ∙ ap (λ o. written o old) (plain_exact _ p n k (rest_length 1 (set s 0 45) ∙ rw length-set (omega (arith, room)))))
      ∙ ap (λ m. sign m ++ plain k p n) (sym q)
    where
      room : length s ≡ 1 + (k + point_columns p)
      room = h ∙ ap (λ m. sign_columns m + (k + point_columns p)) q

  pub unsigned_written : (minus : Bool) → minus ≡ false → length s ≡ sign_columns minus + (k + point_columns p)
      → t ≡ written (plain_in (length s) p n) old → t ≡ spelled minus k p n
  unfolding spelled sign
  unsigned_written minus q h e =
      e ∙ ap (λ o. written o old) (plain_exact (length s) p n k (h ∙ ap (λ m. sign_columns m + (k + point_columns p)) q ∙ zero-add (k + point_columns p)))
      ∙ ap (λ m. sign m ++ plain k p n) (sym q)

-- how many columns a spelling takes
plain-length : (k p n : ℕ) → length (plain k p n) ≡ k + point_columns p
unfolding plain
plain-length k zero n = digits-length k n ∙ sym (add-zero k)
plain-length k (suc p) n =
    length-append (digits k (n / 10 ^ suc p)) (46 ∷ digits (suc p) n)
    ∙ ap₂ (λ a b. a + suc b) (digits-length k (n / 10 ^ suc p)) (digits-length (suc p) n)

pub spelled-length : (minus : Bool) (k p n : ℕ) → length (spelled minus k p n) ≡ sign_columns minus + (k + point_columns p)
unfolding spelled sign
spelled-length true k p n = ap suc (plain-length k p n) ∙ sym (one-add (k + point_columns p))
spelled-length false k p n = plain-length k p n ∙ sym (zero-add (k + point_columns p))

module _ (w : ℕ) (minus : Bool) (k p n : ℕ) where
  pub adjusted_none : w < sign_columns minus + (k + point_columns p) → right_adjusted w (spelled minus k p n) ≡ None
  unfolding right_adjusted
  adjusted_none h = rw (spelled-length minus k p n, lt-leb (sign_columns minus + (k + point_columns p)) w h)

  pub adjusted_some : (c : ℕ) → c ≡ sign_columns minus + (k + point_columns p) → c ≤ w
      → right_adjusted w (spelled minus k p n) ≡ Some (replicate (w - c) 32 ++ spelled minus k p n)
  unfolding right_adjusted
  adjusted_some c e h = rw (spelled-length minus k p n, ← e, le-leb c w h)

-- blanks before the spelling
pub adjusted_written : (s blanks t : List ℕ) (first : ℕ) → first ≤ length s → blanks ≡ replicate (length (take first s)) 32
    → put_mid first (length (blanks ++ drop first s) - first) (blanks ++ drop first s) t ≡ replicate first 32 ++ t
adjusted_written s blanks t first h e =
    put_rest first (blanks ++ drop first s) t
    ∙ ap (λ (l : List ℕ). l ++ t) (take_at blanks (drop first s) first (ap length all ∙ length-replicate first 32) ∙ all)
  where
    all : blanks ≡ replicate first 32
    all = e ∙ ap (λ m. replicate m 32) (length-take-le first s h)

-- more places than columns
pub units_none : (w : ℕ) (minus : Bool) (p n : ℕ) → w < p → units_in w minus p n ≡ None
unfolding units_in
units_none w minus p n h =
    rw (adjusted_none w minus (max (size n) (p + 1) - p) p n (omega (arith, wide)), adjusted_none w minus (max (size n) p - p) p n (omega (arith, wide)))
  where
    wide : point_columns p ≡ p + 1
    wide = point_some p (λ q. omega arith)

module _ (w : ℕ) (d : Decimal) (n : ℕ) (e : n ≡ nat_abs d.units) where
  pub decimal_large : limit ≤ n → decimal_in w d ≡ None
  unfolding decimal_in
  decimal_large h = rw (← e, le-ltb n limit h)

  pub decimal-is : n < limit → (minus : Bool) → minus ≡ is_minus d.units → decimal_in w d ≡ units_in w minus d.places n
  unfolding decimal_in
  decimal-is h minus q = rw (← e, ← q, lt-ltb n limit h)

-- the two spellings that are tried, one with a zero before a leading point
abbrev pub full_in : ℕ → Bool → ℕ → ℕ → Option (List ℕ)
full_in w minus p n = right_adjusted w (spelled minus (max (size n) (p + 1) - p) p n)

abbrev pub least_in : ℕ → Bool → ℕ → ℕ → Option (List ℕ)
least_in w minus p n = right_adjusted w (spelled minus (max (size n) p - p) p n)

module _ (minus : Bool) (p n : ℕ) (old mid : List ℕ) where
  pub units_full : fits (full_in (length old) minus p n) ≡ true → mid ≡ written (full_in (length old) minus p n) old
      → (true ≡ fits (units_in (length old) minus p n)) × (mid ≡ written (units_in (length old) minus p n) old)
  unfolding units_in
  units_full f e = or-first (full_in (length old) minus p n) (least_in (length old) minus p n) old mid f e

  pub units_least : fits (full_in (length old) minus p n) ≡ false → mid ≡ written (full_in (length old) minus p n) old
      → (new : List ℕ) (r : Bool) → r ≡ fits (least_in (length mid) minus p n) → new ≡ written (least_in (length mid) minus p n) mid
      → (r ≡ fits (units_in (length old) minus p n)) × (new ≡ written (units_in (length old) minus p n) old)
  unfolding units_in
  units_least f e new r g h = or-second (full_in (length old) minus p n) (λ w. least_in w minus p n) old mid new r f e g h

-- the letter in the last column, behind what is written before it
pub put_letter : (s t : List ℕ) (k l : ℕ) → length t ≡ k → length s ≡ k + 1 → set (t ++ drop k s) k l ≡ t ++ (l ∷ [])
put_letter s t k l p q =
    ap (λ (r : List ℕ). set (t ++ r) k l) (drop-cons s k 0 (omega arith) ∙ ap (λ (r : List ℕ). get_or s k 0 ∷ r) (drop_of_length-le s {i = suc k} (omega arith)))
    ∙ set_at t (get_or s k 0) [] l k p
