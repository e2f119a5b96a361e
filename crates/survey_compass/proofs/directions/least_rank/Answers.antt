-- `survey_compass::directions::least_rank` meets its contract.
use mathlib.Core.Path.{◌≡◌, ◌∙◌, refl}
use mathlib.Core.List.{List, map}
use Prim.Native.Nat.{ℕ, min}
use Rattle.std.specs.List.{fold, range_with_len}
use Rattle.std.proofs.Common.{rules}
use Rattle.std.proofs.lemmas.Iterator.{YieldsList-from_range, YieldsList-from_map}
use Rattle.std.proofs.lemmas.Iterator.Consumers.{fold_from_yields_List}
use Rattle.survey_compass.specs.Directions.{unlisted, rank_at, least_to, least_rank}
use Rattle.survey_compass.proofs.directions.least_rank.Goals as goal

least_folded : (s : List ℕ) (asked : ℕ) → fold min unlisted (map (rank_at s asked) (range_with_len 0 8)) ≡ least_rank s asked
unfolding least_rank least_to
least_folded s asked = refl

pub returns : goal.returns
returns c =
    let a = c.args in
    fold_from_yields_List _ min unlisted _ c.fold.ensures.ran
    (YieldsList-from_map _ (rank_at a.card.now a.asked) (YieldsList-from_range 0 8 8 (cc) refl) c.map.ensures.closure (λ x r q k. search rules))
    (λ a x b q k. search rules)
    ∙ least_folded a.card.now a.asked
