-- Texts compared by `==` and `starts_with`, as `alike` compares them.
use Prim.Native.Nat.{ℕ}
use mathlib.Core.Path.{◌≡◌, sym}
use mathlib.Core.List.{List}
use Rattle.std.specs.Str.{bytes_eq}
use Rattle.std.proofs.lemmas.Slice.Eq.{bytes_eq-Decides}
use Rattle.std.proofs.lemmas.Bool.Decides.{same_from_decides}
use Rattle.base_lists.specs.Parts.{alike}
use Rattle.base_lists.proofs.Comparing.{alike_equal, equal_alike}

pub equals_as : (s t : List ℕ) → bytes_eq s t ≡ alike s t
equals_as s t = same_from_decides (bytes_eq s t) (alike s t) (bytes_eq-Decides s t) (alike_equal s t, equal_alike s t)

-- the other way about, as a text that begins with another is compared
pub starts_as : (s t : List ℕ) → bytes_eq t s ≡ alike s t
starts_as s t =
    same_from_decides (bytes_eq t s) (alike s t) (bytes_eq-Decides t s) (λ e. sym (alike_equal s t e), λ e. equal_alike s t (sym e))
