-- How often a key is defined in a header, and where.
use Rattle.std.specs.Prelude.{ℕ, ◌+◌, ◌*◌, ◌/◌, ◌%◌, List, [], ◌∷◌, Bool, cond, ◌&&◌, eqb, take}
use Rattle.base_lists.specs.Count.{count, first}
use Rattle.base_lists.specs.Parts.{alike}
use Rattle.header_check.specs.forms.Cards.{card_at, cards_in, layout_of}
use Rattle.tie_rules.specs.Ties.{defines}
use Rattle.format_layout.specs.Names.{H0101}
use Rattle.tie_rules.specs.Keys.{class_at, key_at, holds_key, defines_key, vessel_of, contradict}

-- the places of a header, 80 to a card, numbered from 0: the card, from 0, and the column, from 1
unfoldable pub places : List ℕ → ℕ
places h = 80 * cards_in h

unfoldable pub card_of : List ℕ → ℕ → List ℕ
card_of h p = card_at h (p / 80)

unfoldable pub column_of : ℕ → ℕ
column_of p = p % 80 + 1

-- a key is defined at a place
unfoldable pub defined_at : List ℕ → ℕ → List ℕ → ℕ → Bool
defined_at h class key p = defines_key (card_of h p) class key (column_of p)

-- the number of a key's definitions
unfoldable pub definitions_of : List ℕ → ℕ → List ℕ → ℕ
definitions_of h class key = count (defined_at h class key) (places h)

-- the card and the column of its only definition, both 0 where there is not exactly one
unfoldable pub place_of : List ℕ → ℕ → List ℕ → List ℕ
place_of h class key =
    cond (eqb (definitions_of h class key) 1)
    ((first (defined_at h class key) (places h) / 80 + 1) ∷ column_of (first (defined_at h class key) (places h)) ∷ []) (0 ∷ 0 ∷ [])

-- the number of its definitions on cards with another vessel digit
unfoldable pub contradictions_of : List ℕ → ℕ → List ℕ → ℕ → ℕ
contradictions_of h class key vessel = count (λ p. defined_at h class key p && contradict vessel (vessel_of (card_of h p))) (places h)

-- a waypoint of a vessel is defined at a place
unfoldable pub waypoint_at : List ℕ → List ℕ → ℕ → Bool
waypoint_at h vessel p =
    holds_key defines (card_of h p) (column_of p) &&
    (eqb (class_at defines (card_of h p) (column_of p)) 7 && alike (take 1 (key_at defines (card_of h p) (column_of p))) vessel)

-- the number of a vessel's waypoint definitions, equal ones each counted
unfoldable pub waypoints_of : List ℕ → List ℕ → ℕ
waypoints_of h vessel = count (waypoint_at h vessel) (places h)

-- the number of cards with points of the variation grid
unfoldable pub points_of : List ℕ → ℕ
points_of h = count (λ c. eqb (layout_of (card_at h c)) H0101) (cards_in h)
