-- What it is for two cards of corrections to have the same pairs in another order.
use Rattle.std.specs.Prelude.{ℕ, ◌+◌, ◌*◌, ◌<◌, ◌≡◌, List}
use Rattle.base_lists.specs.Count.{Rearranged}
use Rattle.tie_rules.specs.Keys.{between}
use Rattle.survey_compass.specs.Directions.{pairs}

-- the fixed correction stays; the columns of the pair i are those of the pair `to i` of the other card
pub record Reordered (s t : List ℕ) : Type 0 where
  pub order : Rearranged pairs
  pub fixed : between 15 20 t ≡ between 15 20 s
  pub direction : (i : ℕ) → i < pairs
      → between (21 + 7 * order.to i) (23 + 7 * order.to i) t ≡ between (21 + 7 * i) (23 + 7 * i) s
  pub correction : (i : ℕ) → i < pairs
      → between (24 + 7 * order.to i) (27 + 7 * order.to i) t ≡ between (24 + 7 * i) (27 + 7 * i) s
