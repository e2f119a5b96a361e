-- Laws of `alike`: it is true of two lists exactly when they are equal.
-- Assumes nothing.
use mathlib.Core.Path.{◌≡◌, refl, sym, ◌∙◌}
use mathlib.Core.Bool.{Bool, true, false}
use mathlib.Core.List.{List, [], ◌∷◌}
use Prim.Native.Nat.{ℕ}
use Rattle.std.specs.Str.{bytes_eq}
use Rattle.std.proofs.lemmas.Slice.Eq.{bytes_eq-Decides}
use Rattle.base_lists.specs.Parts.{alike}

-- `==` on two texts compares as `alike` does
pub alike_is : (s t : List ℕ) → bytes_eq s t ≡ alike s t
unfolding alike
alike_is [] [] = refl
alike_is [] (y ∷ t) = refl
alike_is (x ∷ s) [] = refl
alike_is (x ∷ s) (y ∷ t) = rw (alike_is s t)

-- lists that are alike are equal
pub alike_equal : (s t : List ℕ) → alike s t ≡ true → s ≡ t
alike_equal s t e = (bytes_eq-Decides s t).0 (alike_is s t ∙ e)

-- equal lists are alike
pub equal_alike : (s t : List ℕ) → s ≡ t → alike s t ≡ true
equal_alike s t e = sym (alike_is s t) ∙ (bytes_eq-Decides s t).1 e

-- lists that are not equal are not alike
pub unequal_alike : (s t : List ℕ) → (s ≡ t → ⊥) → alike s t ≡ false
unequal_alike s t h = go (alike s t) refl
  where
    go : (b : Bool) → alike s t ≡ b → alike s t ≡ false
    go true e = absurd (h (alike_equal s t e))
    go false e = e
