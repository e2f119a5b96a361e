-- Entries of one size stored one after the other in a lent list, as far as they fit.
use Rattle.std.specs.Prelude.{ℕ, suc, ◌*◌, ◌≡◌, Bool, List, [], ◌∷◌, ◌++◌, length}
use Rattle.base_lists.specs.Laid.{stored}
use Rattle.base_lists.specs.Parts.{keep}
use Rattle.tie_rules.specs.Faults.{entry_size}
use Rattle.tie_check.specs.declared.entries.Broken.{Broken}

-- all of them as one list
unfoldable pub joined : List (List ℕ) → List ℕ
joined [] = []
joined (e ∷ es) = e ++ joined es

-- a list with entries stored from the one with a number on
unfoldable pub stored_all : List ℕ → ℕ → List (List ℕ) → List ℕ
stored_all l k [] = l
stored_all l k (e ∷ es) = stored_all (stored l (entry_size * k) e) (suc k) es

-- each has that size
abbrev pub Sized : List (List ℕ) → Type 0
Sized [] = Unit {0}
Sized (e ∷ es) = (length e ≡ entry_size) × Sized es

-- the entries of a column, kind by kind
unfoldable pub entries_for : Broken → Bool → ℕ → ℕ → ℕ → List (List ℕ)
entries_for b misplaced card column vessel =
    keep b.undefined (card ∷ column ∷ 1 ∷ vessel ∷ []) (keep b.redefined (card ∷ column ∷ 2 ∷ vessel ∷ [])
    (keep b.ambiguous (card ∷ column ∷ 3 ∷ vessel ∷ []) (keep b.contradicted (card ∷ column ∷ 4 ∷ vessel ∷ [])
    (keep b.miscounted (card ∷ column ∷ 5 ∷ vessel ∷ []) (keep misplaced (card ∷ column ∷ 6 ∷ vessel ∷ []) [])))))
