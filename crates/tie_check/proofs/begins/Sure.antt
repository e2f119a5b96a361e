-- A card of which the screen is sure has no misplaced number.
use Prim.Native.Nat.{ℕ, ◌+◌}
use mathlib.Core.Path.{◌≡◌, refl, sym}
use mathlib.Core.Bool.{false, true}
use mathlib.Core.List.{List, [], ◌∷◌}
use lib.ListN.{length}
use Rattle.format_layout.specs.declared.Field.{Field}
use Rattle.format_layout.specs.declared.Form.TheVariants.{Angles}
use Rattle.format_layout.specs.Layouts.{fields_of}
use Rattle.card_screen.specs.Roles.{sure}
use Rattle.card_screen.proofs.Cards.{Clean, clean}
use Rattle.tie_check.specs.packed.Begins.{any_left}

clean_none : (k : ℕ) (s : List ℕ) (c : ℕ) (fs : List Field) → Clean k s c fs → any_left s fs ≡ false
unfolding any_left
clean_none k s c [] h = refl
clean_none k s c (f ∷ fs) h = rw (h.1 Angles).1 (clean_none k s (f.last + 1) fs h.2)

pub sure-none : (k : ℕ) (s : List ℕ) → length s ≡ 80 → sure k s ≡ true → false ≡ any_left s (fields_of k)
sure-none k s size h = sym (clean_none k s 6 (fields_of k) (clean k s size h))
