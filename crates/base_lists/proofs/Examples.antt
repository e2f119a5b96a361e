-- The definitions at work on small lists.
-- Assumes nothing.
use mathlib.Core.Path.{◌≡◌, refl}
use mathlib.Core.Bool.{Bool}
use mathlib.Core.List.{[], ◌∷◌}
use Prim.Native.Nat.{ℕ, ◌%◌}
use lib.Dec.{eqb}
use Rattle.base_lists.specs.Count.{count, first, first_from}
use Rattle.base_lists.specs.Laid.{fitting, laid, stored}
use Rattle.base_lists.specs.Parts.{part, kept, up_to}

-- the test of the examples: 2, 7, 12, ..
abbrev pub twos : ℕ → Bool
twos i = eqb (i % 5) 2

-- 2, 7 and 12 are below 13
pub three_of_them : count twos 13 ≡ 3
unfolding count
three_of_them = refl

pub the_first : first twos 13 ≡ 2
unfolding first first_from
the_first = refl

-- below 2 there is none
pub no_first : first twos 2 ≡ 2
unfolding first first_from
no_first = refl

pub those : kept twos (up_to 13) ≡ 2 ∷ 7 ∷ 12 ∷ []
unfolding kept up_to
those = refl

-- the second run of three, and the last one, which is short
pub second_run : part 3 (up_to 7) 1 ≡ 3 ∷ 4 ∷ 5 ∷ []
unfolding part up_to
second_run = refl

pub short_run : part 3 (up_to 7) 2 ≡ 6 ∷ []
unfolding part up_to
short_run = refl

-- three entries of two numbers, and room for two of them and a number
pub two_that_fit : laid {A = ℕ} 2 (9 ∷ 9 ∷ 9 ∷ 9 ∷ 9 ∷ []) (1 ∷ 2 ∷ 3 ∷ 4 ∷ 5 ∷ 6 ∷ []) ≡ 1 ∷ 2 ∷ 3 ∷ 4 ∷ 9 ∷ []
unfolding laid fitting
two_that_fit = refl

-- an entry that fits, and one that does not
pub it_fits : stored {A = ℕ} (9 ∷ 9 ∷ 9 ∷ []) 1 (1 ∷ 2 ∷ []) ≡ 9 ∷ 1 ∷ 2 ∷ []
unfolding stored
it_fits = refl

pub no_room : stored {A = ℕ} (9 ∷ 9 ∷ 9 ∷ []) 2 (1 ∷ 2 ∷ []) ≡ 9 ∷ 9 ∷ 9 ∷ []
unfolding stored
no_room = refl
