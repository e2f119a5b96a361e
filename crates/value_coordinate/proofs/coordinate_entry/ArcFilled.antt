-- Digits that fill their columns are read as their number.
use Prim.Native.Nat.{ℕ, ◌%◌, ◌^◌, ◌<◌, ◌≤◌}
use native.Mathlib.Omega.{arith}
use native.Mathlib.Nat.{mod-lt}
use mathlib.Core.Path.{◌≡◌, refl, sym, ap, ap₂, ◌∙◌}
use mathlib.Core.Bool.{false}
use lib.ListN.{length, drop}
use borrow.Author.Tests.{ne_eqb}
use Rattle.base_digits.specs.digits.Figures.{unpadded, value_from, limit, capped, run_of}
use Rattle.base_digits.specs.digits.Digits.{digits}
use Rattle.base_digits.proofs.digits.Numbers.{digits_alone, digits_value, no_blanks}
use Rattle.base_digits.proofs.digits.Spell.{digits-length}
use Rattle.value_number.specs.number.Reading.{counted_of, figures_of}
use Rattle.value_number.proofs.number.Parsing.{figures_whole}
use Rattle.value_coordinate.specs.angle.Angles.{padded_of}
use Rattle.std.specs.Prelude.{Some}
use Rattle.value_number.specs.number.Figures.{figures}

module _ (k n : ℕ) (some-digit : 0 < k) (few : 10 ^ k ≤ limit) (positive : 0 < 10 ^ k) where
  -- the last k digits of n are read as a number
  pub figures_digits : figures_of false (digits k n) ≡ Some (figures (n % 10 ^ k) 0)
  figures_digits =
      sym (figures_whole (digits k n) (run_of 0 (digits k n)) refl false (ap length (digits_alone k n)))
      ∙ ap₂ (λ c v. counted_of c (capped v) 0) (ap length (digits_alone k n) ∙ digits-length k n) (ap (value_from 0) (digits_alone k n) ∙ digits_value 0 k n)
      ∙ rw (ne_eqb k 0 (λ q. omega arith))
      (let h : n % 10 ^ k < 10 ^ k = mod-lt n positive in ap (λ v. Some (figures v 0)) (omega arith))

  pub padded-digits : padded_of (digits k n) ≡ Some (figures (n % 10 ^ k) 0)
  unfolding padded_of unpadded
  padded-digits =
      ap (λ j. figures_of false (drop j (digits k n))) (no_blanks (digits k n) (ap length (digits_alone k n)) (rw (digits-length k n) some-digit))
      ∙ figures_digits
