-- What each way through an offer finds.
use Prim.Native.Nat.{ℕ}
use mathlib.Core.Path.{◌≡◌, refl, ap, ◌∙◌}
use mathlib.Core.Bool.{true, false}
use mathlib.Core.List.{List}
use lib.IntN.{ℤ, nat_abs}
use Rattle.base_digits.specs.signs.Signs.{is_minus}
use Rattle.tie_lookup.specs.declared.questions.Key.{Key}
use Rattle.p294.specs.offered.Offers.{part_of, year_of, key_of}

pub year_minus : (z : ℤ) → is_minus z ≡ true → year_of z ≡ 0
unfolding year_of
year_minus z h = rw h refl

pub year_plus : (z : ℤ) → is_minus z ≡ false → year_of z ≡ part_of (nat_abs z)
unfolding year_of
year_plus z h = rw h refl

-- the same numbers offer the same key
pub same_key : (k : ℕ) (a b y z : ℤ) → y ≡ a → z ≡ b → key_of k y z ≡ key_of k a b
same_key k a b y z e f = rw (e, f) refl

-- the same key and text, asked the same
pub asked : {A : Type 0} (f : Key → List ℕ → A) (k l : Key) (s t : List ℕ) → k ≡ l → s ≡ t → f k s ≡ f l t
asked f k l s t p q = ap (λ x. f x s) p ∙ ap (f l) q
