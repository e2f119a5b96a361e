-- A number has room in its columns exactly when it takes no more of them.
use Prim.Native.Nat.{ℕ, zero, suc, ◌+◌, ◌-◌, ◌*◌, ◌/◌, ◌^◌, ◌≤◌, ◌<◌, max, suc-le-suc}
use native.Mathlib.Omega.{arith}
use native.Mathlib.Nat.{pow-suc, one-le-pow}
use native.Mathlib.Decide.{dec_le, dec_lt}
use mathlib.Core.Path.{◌≡◌, refl, sym, ap, ◌∙◌}
use lib.Dec.{leb}
use lib.IntN.{nat_abs}
use borrow.Author.Tests.{le-leb, lt-leb, le-ltb}
use Rattle.base_digits.specs.digits.Figures.{limit}
use Rattle.base_digits.specs.digits.Digits.{size_up_to, size}
use Rattle.base_digits.specs.digits.Columns.{fits}
use Rattle.base_digits.proofs.digits.Numbers.{size-some}
use Rattle.base_value.specs.declared.Decimal.{Decimal}
use Rattle.base_digits.specs.signs.Signs.{is_minus}
use Rattle.value_number.specs.number_entry.Spelling.{sign_columns, point_columns, units_in, decimal_in}
use Rattle.value_number.proofs.number_entry.Writing.{adjusted_none, adjusted_some, decimal_large, decimal-is}
use Rattle.card_laws.specs.exactly.Words.{number_columns}

-- a number from 10 to the k on has more than k digits
many_digits : (f k n : ℕ) → k < f → 10 ^ k ≤ n → suc k ≤ size_up_to f n
unfolding size_up_to
many_digits zero k n h l = absurd (omega arith)
many_digits (suc f) zero n h l = size-some f n
many_digits (suc f) (suc k) n h l =
    let p : 10 ^ suc k ≡ 10 ^ k * 10 = pow-suc 10 k in
    let m : 10 ^ k ≤ n / 10 = omega arith in
    rw (le-ltb n 10 (omega (arith, one-le-pow k 10 (omega arith)))) (suc-le-suc (many_digits f k (n / 10) (omega arith) m))

point_least : (p : ℕ) → p ≤ point_columns p
point_least zero = omega arith
point_least (suc p) = omega arith

module _ (w : ℕ) (d : Decimal) where
  -- a number that is not told apart has no room in 18 columns
  large : limit ≤ nat_abs d.units → w ≤ 18 → w < number_columns d
  large h narrow = omega (arith, many_digits 20 18 (nat_abs d.units) (omega arith) h, point_least d.places)

  -- of the two spellings that are tried the one without a zero before the point takes the fewest columns
  two_tried : fits (units_in w (is_minus d.units) d.places (nat_abs d.units)) ≡ leb (number_columns d) w
  unfolding units_in
  two_tried =
      let m = is_minus d.units in
      let p = d.places in
      let a = nat_abs d.units in
      let full = max (size a) (p + 1) - p in
      let least = max (size a) p - p in
      elim (dec_le (sign_columns m + (full + point_columns p)) w) [
        | yes h ↦
            rw (adjusted_some w m full p a (sign_columns m + (full + point_columns p)) refl h)
            (sym (le-leb (number_columns d) w (omega arith)))
        | no h ↦ elim (dec_le (number_columns d) w) [
          | yes l ↦
              rw (adjusted_none w m full p a (omega arith), adjusted_some w m least p a (number_columns d) refl l)
              (sym (le-leb (number_columns d) w l))
          | no l ↦
              rw (adjusted_none w m full p a (omega arith), adjusted_none w m least p a (omega arith))
              (sym (lt-leb (number_columns d) w (omega arith)))
        ]
      ]

  pub number-room : w ≤ 18 → fits (decimal_in w d) ≡ leb (number_columns d) w
  number-room narrow = elim (dec_lt (nat_abs d.units) limit) [
    | yes h ↦ ap fits (decimal-is w d (nat_abs d.units) refl h (is_minus d.units) refl) ∙ two_tried
    | no h ↦
        let l : limit ≤ nat_abs d.units = omega arith in
        ap fits (decimal_large w d (nat_abs d.units) refl l) ∙ sym (lt-leb (number_columns d) w (large l narrow))
  ]
