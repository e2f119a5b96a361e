-- The entries of a column are those of its kinds.
use Prim.Native.Nat.{ℕ, ◌+◌}
use mathlib.Core.Path.{◌≡◌, refl, sym}
use mathlib.Core.Bool.{Bool, true, false}
use mathlib.Core.List.{List, map}
use Rattle.base_lists.specs.Parts.{keep, kept, up_to}
use Rattle.header_check.specs.forms.Cards.{card_at}
use Rattle.tie_rules.specs.Keys.{vessel_of}
use Rattle.tie_rules.specs.Faults.{misplaced, broken_on, broken}
use Rattle.tie_check.specs.packed.Kinds.{broken_for}
use Rattle.tie_check.specs.packed.Stored.{entries_for}
use Rattle.tie_check.specs.packed.Listed.{column_entries}

map-keep : {A B : Type 0} (f : A → B) (b : Bool) (x : A) (l : List A) → map f (keep b x l) ≡ keep b (f x) (map f l)
map-keep f true x l = refl
map-keep f false x l = refl

pub of_column : (h : List ℕ) (c column : ℕ)
    → entries_for (broken_for h (card_at h c) column) (misplaced (card_at h c) column) (c + 1) column (vessel_of (card_at h c)) ≡ column_entries h c column
unfolding entries_for broken_for column_entries broken broken_on kept up_to
of_column h c column = sym (rw (map-keep, map-keep, map-keep, map-keep, map-keep, map-keep))
