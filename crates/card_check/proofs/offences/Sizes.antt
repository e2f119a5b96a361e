-- The offence of a whole number by its size, and of a decimal by its shape.
use Prim.Native.Nat.{ℕ, ◌-◌, ◌≤◌, ◌<◌}
use native.Mathlib.Omega.{arith}
use mathlib.Core.Path.{◌≡◌, refl, ap, subst, ◌∙◌}
use mathlib.Core.List.{List}
use mathlib.Core.Bool.{Bool, true, false, cond}
use lib.Dec.{T, leb→le}
use lib.IntN.{ℤ, pos, negsuc}
use Rattle.base_value.specs.declared.Value.TheVariants as value
use Rattle.value_field.specs.spelling.Reading.{whole_reading}
use Rattle.value_field.proofs.spelling.OneKind.{number_kind}
use Rattle.value_number.specs.number.Reading.{number_of as strict_of}
use Rattle.value_number.specs.packed.Shapes.{sized, size_of}
use Rattle.format_layout.specs.declared.Field.{Field}
use Rattle.format_layout.specs.declared.Kind.{Kind}
use Rattle.format_layout.specs.declared.Kind.TheVariants.{Decimal}
use Rattle.format_layout.specs.Columns.{wide_as}
use Rattle.format_layout.specs.ranges.Ranges.{in_range}
use Rattle.card_field.specs.judging.Fields.{value_of, held_of, number_of}
use Rattle.card_check.specs.packed.Offences.{offence_in}
use Rattle.std.specs.Prelude.{Ok, Err}

-- the offence of a value is that of its range
of_value : (f : Field) (z : ℤ) → cond (in_range f.range z) 0 10 ≡ number_of (cond (in_range f.range z) (Ok (value.Whole z)) (Err 10))
of_value f z = go (in_range f.range z)
  where
    go : (b : Bool) → cond b 0 10 ≡ number_of (cond b (Ok (value.Whole z)) (Err 10))
    go true = refl
    go false = refl

-- a number's size is none of those that are told apart from it
no_size : (size : ℕ) (z : ℤ) → size ≡ sized z → size < 3 → ⊥
no_size size (pos m) e h = omega arith
no_size size (negsuc m) e h = omega arith

module _ (f : Field) (size : ℕ) (s : List ℕ) (is : size ≡ size_of (strict_of false s)) where
  pub size_number : 4 ≤ size → cond (in_range f.range (pos (size - 4))) 0 10 ≡ offence_in f (whole_reading (strict_of false s))
  unfolding offence_in held_of value_of whole_reading
  size_number h =
      number_kind false s (λ r. size ≡ size_of r → cond (in_range f.range (pos (size - 4))) 0 10 ≡ offence_in f (whole_reading r))
      (λ e. absurd (omega arith))
      (λ d e. ap (λ (z : ℤ). cond (in_range f.range z) 0 10) (go d.units e) ∙ of_value f d.units)
      (λ e. absurd (omega arith))
      (λ e. absurd (omega arith))
      is
    where
      go : (z : ℤ) → size ≡ sized z → pos (size - 4) ≡ z
      go (pos m) q = ap pos (omega arith)
      go (negsuc m) q = absurd (omega arith)

  pub size_blank : size ≡ 0 → 11 ≡ offence_in f (whole_reading (strict_of false s))
  unfolding offence_in held_of value_of whole_reading
  size_blank h =
      number_kind false s (λ r. size ≡ size_of r → 11 ≡ offence_in f (whole_reading r))
      (λ e. refl)
      (λ d e. absurd (no_size size d.units e (omega arith)))
      (λ e. absurd (omega arith))
      (λ e. absurd (omega arith))
      is

  pub size_odd : size ≡ 1 → 9 ≡ offence_in f (whole_reading (strict_of false s))
  unfolding offence_in held_of value_of whole_reading
  size_odd h =
      number_kind false s (λ r. size ≡ size_of r → 9 ≡ offence_in f (whole_reading r))
      (λ e. absurd (omega arith))
      (λ d e. absurd (no_size size d.units e (omega arith)))
      (λ e. refl)
      (λ e. absurd (omega arith))
      is

  pub size_large : size ≡ 2 → 10 ≡ offence_in f (whole_reading (strict_of false s))
  unfolding offence_in held_of value_of whole_reading
  size_large h =
      number_kind false s (λ r. size ≡ size_of r → 10 ≡ offence_in f (whole_reading r))
      (λ e. absurd (omega arith))
      (λ d e. absurd (no_size size d.units e (omega arith)))
      (λ e. absurd (omega arith))
      (λ e. refl)
      is

  -- all numbers below zero are in the same ranges
  pub size_below : size ≡ 3 → cond (in_range f.range (negsuc 0)) 0 10 ≡ offence_in f (whole_reading (strict_of false s))
  unfolding offence_in held_of value_of whole_reading in_range
  size_below h =
      number_kind false s (λ r. size ≡ size_of r → cond (in_range f.range (negsuc 0)) 0 10 ≡ offence_in f (whole_reading r))
      (λ e. absurd (omega arith))
      (λ d e. go d.units e)
      (λ e. absurd (omega arith))
      (λ e. absurd (omega arith))
      is
    where
      go : (z : ℤ) → size ≡ sized z → cond (in_range f.range (negsuc 0)) 0 10 ≡ number_of (cond (in_range f.range z) (Ok (value.Whole z)) (Err 10))
      go (pos m) q = absurd (omega arith)
      go (negsuc m) q = of_value f (negsuc m)

-- a decimal's columns are few
pub few : (k : Kind) (n : ℕ) → k ≡ Decimal → T (wide_as k n) → n ≤ 18
few k n e t = leb→le n 18 (subst (λ (x : Kind). T (wide_as x n)) e t)
