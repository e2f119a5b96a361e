-- Whether a whole number lies in a range.
use Rattle.std.specs.Prelude.{ℕ, Bool, true, ◌&&◌, ◌||◌, eqb, leb, ℤ, pos, negsuc}
use Rattle.format_layout.specs.declared.Range.{Range}
use Rattle.format_layout.specs.declared.Range.TheVariants.{Any, AtLeast, Between, OneOf}
use Rattle.format_layout.specs.Layouts.{is_any}

-- a number from 0 up lies in a range
abbrev pub allows : Range → ℕ → Bool
allows Any n = true
allows (AtLeast a) n = leb a n
allows (Between a b) n = leb a n && leb n b
allows (OneOf a b c) n = eqb n a || eqb n b || eqb n c

-- a whole number lies in a range: below 0 only where any number does
unfoldable pub in_range : Range → ℤ → Bool
in_range r (pos n) = allows r n
in_range r (negsuc n) = is_any r
