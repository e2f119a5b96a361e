-- Compacting: of headers that are the same line only the last is kept.
use Rattle.std.specs.Prelude.{ℕ, ◌-◌, Bool, false, not, ◌||◌, List, [], ◌∷◌, ◌++◌, length, drop, replicate}
use Rattle.base_lists.specs.Parts.{keep}
use Rattle.volume_form.specs.Rows.{Row}
use Rattle.volume_rules.specs.Volume.{volume_of}

module _ {ℓ} {A : Type ℓ} (same : A → A → Bool) where
  -- a later one is the same line
  unfoldable pub superseded : A → List A → Bool
  superseded h [] = false
  superseded h (g ∷ hs) = same h g || superseded h hs

  unfoldable pub latest : List A → List A
  latest [] = []
  latest (h ∷ hs) = keep (not (superseded h hs)) h (latest hs)

-- a buffer that begins with the volume of hs, of n bytes, once it is compacted
unfoldable pub compacted : (List ℕ → List ℕ → Bool) → Row → List (List ℕ) → List ℕ → List ℕ
compacted same f hs buffer =
    volume_of f (latest same hs)
    ++ (replicate (length (volume_of f hs) - length (volume_of f (latest same hs))) 32 ++ drop (length (volume_of f hs)) buffer)
