-- A range and a signed number: whether it is a size picks the case.
use mathlib.Core.Path.{◌≡◌, refl, ap}
use Prim.Native.Nat.{ℕ}
use native.Mathlib.Omega.{arith}
use lib.IntN.{ℤ, pos, negsuc, nat_abs}
use mir.Syntax.{w64}
use mir.Val.{SFits}
use Rattle.std.specs.Int.{FitsUnsignedBits}
use Rattle.format_layout.specs.declared.Range.{Range}
use Rattle.format_layout.specs.ranges.Ranges.{allows, in_range}
use Rattle.format_layout.specs.Layouts.{is_any}

pub no_size : (r : Range) (z : ℤ) → SFits w64 z → (FitsUnsignedBits 64 z → ⊥) → is_any r ≡ in_range r z
unfolding in_range
no_size r (pos n) h none = absurd (none (omega (arith, h.sfits)))
no_size r (negsuc n) h none = refl

pub a_size : (r : Range) (z : ℤ) (n : ℕ) → FitsUnsignedBits 64 z → n ≡ nat_abs z → allows r n ≡ in_range r z
unfolding in_range
a_size r (pos k) n f e = ap (allows r) e
a_size r (negsuc k) n f e = absurd f
