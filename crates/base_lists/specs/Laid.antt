-- Entries of one size, written into a list from its front: as many whole ones as fit, the rest unchanged.
-- Assumes nothing.
use Rattle.std.specs.Prelude.{cond, List, ◌++◌, ℕ, ◌+◌, ◌*◌, ◌/◌, min, leb, length, take, drop}

module _ {ℓ} {A : Type ℓ} where
  -- how much of w is written into l: all of it, or as many whole entries as l has room for
  unfoldable pub fitting : ℕ → List A → List A → ℕ
  fitting size l w = min (length w) (length l / size * size)

  -- l after w was written into it, as many whole entries as fit
  unfoldable pub laid : ℕ → List A → List A → List A
  laid size l w = take (fitting size l w) w ++ drop (fitting size l w) l

  -- l with the entry e at `at`, if it fits whole; else l
  unfoldable pub stored : List A → ℕ → List A → List A
  stored l at e = cond (leb (at + length e) (length l)) (take at l ++ e ++ drop (at + length e) l) l
