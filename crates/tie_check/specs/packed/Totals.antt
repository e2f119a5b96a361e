-- What is counted of the gathered definitions: the waypoints of each vessel and the points of the variation grid.
use Rattle.std.specs.Prelude.{ℕ, zero, suc, ◌+◌, List, eqb, get_or, set, replicate}
use Rattle.base_lists.specs.Count.{count}
use Rattle.format_layout.specs.Names.{H0101}
use Rattle.header_check.specs.forms.Cards.{card_at, cards_in, layout_of}
use Rattle.tie_rules.specs.packed.Numbers.{vessel_in}
use Rattle.tie_store.specs.Store.{count_in}
use Rattle.tie_check.specs.declared.totals.Totals.{Totals}
use Rattle.tie_check.specs.packed.Gathered.{gathered}

-- a list of counts with one more at a place
unfoldable pub counted_up : List ℕ → ℕ → List ℕ
counted_up counts i = set counts i (get_or counts i 0 + 1)

-- the waypoints of each vessel among the first n numbers, those of all other numbers behind them
unfoldable pub waypoints_to : List ℕ → ℕ → List ℕ
waypoints_to numbers zero = replicate 11 0
waypoints_to numbers (suc n) = counted_up (waypoints_to numbers n) (vessel_in (get_or numbers n 0))

-- the cards with a point of the variation grid among the first ones
unfoldable pub points_to : List ℕ → ℕ → ℕ
points_to h n = count (λ c. eqb (layout_of (card_at h c)) H0101) n

-- those of a header
unfoldable pub totals_of : List ℕ → Totals
totals_of h = record {
  waypoints = waypoints_to (gathered h).keys (count_in (gathered h).links);
  points = points_to h (cards_in h);
}
