-- What is asked of the gathered definitions, and which kinds of fault a column has by what is told.
use Rattle.std.specs.Prelude.{ℕ, ◌*◌, ◌≤◌, ◌<◌, ◌≡◌, List, [], ◌∷◌, Bool, false, cond, ◌&&◌, not, eqb, ltb, get_or}
use Rattle.header_check.specs.forms.Cards.{card_at, cards_in}
use Rattle.header_check.specs.packed.Noted.{is_flagged, Noted}
use Rattle.base_lists.specs.Parts.{alike}
use Rattle.tie_rules.specs.Keys.{whole_in, contradict}
use Rattle.tie_rules.specs.Faults.{differs}
use Rattle.tie_rules.specs.packed.Numbers.{vessel_in}
use Rattle.tie_rules.specs.packed.Rows.{column_in, definition_in, reference_in, own_in, counted_in, only_defines, found_in}
use Rattle.tie_store.specs.declared.Told.{Told}
use Rattle.tie_store.specs.Store.{nothing_told, told_of}
use Rattle.tie_check.specs.declared.entries.Broken.{Broken}
use Rattle.tie_check.specs.declared.totals.Totals.{Totals}
use Rattle.tie_check.specs.packed.Numbers.{vessel_told, card_told, number_on, passing}
use Rattle.tie_check.specs.packed.Kinds.{none_of}

abbrev pub is_number : ℕ → ℕ → ℕ → Bool
is_number k n tag = eqb n k

abbrev pub is_apart : ℕ → ℕ → ℕ → ℕ → Bool
is_apart k vessel n tag = eqb n k && contradict vessel (vessel_told tag)

abbrev pub is_on : ℕ → ℕ → ℕ → ℕ → Bool
is_on k c n tag = eqb n k && eqb (card_told tag) c

abbrev pub is_waypoint : ℕ → ℕ → ℕ → Bool
is_waypoint d n tag = eqb (vessel_in n) d

-- how often a key is defined; 0 is no key
unfoldable pub times_of : List ℕ → ℕ → ℕ
times_of h k = cond (eqb k 0) 0 (passing (is_number k) h (80 * cards_in h))

-- it is defined once, and once on a card with another vessel digit
unfoldable pub only_apart : List ℕ → ℕ → ℕ → Bool
only_apart h k vessel =
    cond (eqb k 0) false
    (eqb (passing (is_number k) h (80 * cards_in h)) 1 && eqb (passing (is_apart k vessel) h (80 * cards_in h)) 1)

-- the notes of the cards, with a flag wherever a card has a key that is defined twice
pub record Flagged (h cards : List ℕ) : Type 0 where
  pub noted : Noted h (cards_in h) cards
  pub once : (c : ℕ) → c < cards_in h → is_flagged (get_or cards c 0) ≡ false → (column : ℕ) → column ≤ 80
      → times_of h (number_on (card_at h c) column) ≤ 1

-- a vessel digit contradicts: the vessel that the card states, or the one that is told of the key referred to
unfoldable pub contradicted_by : List ℕ → ℕ → ℕ → ℕ → Bool
contradicted_by s row vessel tag =
    cond (own_in row) (not (alike (whole_in (column_in row) (column_in row) s) (vessel ∷ []))) (contradict vessel (vessel_told tag))

-- the count of a vessel, of none where none is stated
unfoldable pub vessel_count : List ℕ → List ℕ → ℕ
vessel_count waypoints [] = 0
vessel_count waypoints (d ∷ ds) = get_or waypoints d 0

-- a stated count differs from the waypoints of the vessel, or from the points
unfoldable pub miscounted_by : List ℕ → ℕ → Totals → Bool
miscounted_by s row totals =
    cond (counted_in row)
    (cond (eqb (column_in row) 79) (differs (whole_in 79 80 s) (vessel_count totals.waypoints (whole_in 30 30 s)))
    (differs (whole_in 16 19 s) totals.points))
    false

-- the kinds of fault of a row's column: of the key it refers to, by what is told of that key and of the one it defines
unfoldable pub broken_by : List ℕ → ℕ → ℕ → ℕ → Told → Told → Totals → Broken
broken_by s row vessel reference referred defined totals = record {
  undefined = not (eqb reference 0) && eqb referred.times 0;
  redefined = ltb 1 defined.times;
  ambiguous = ltb 1 referred.times;
  contradicted = contradicted_by s row vessel referred.tag;
  miscounted = miscounted_by s row totals;
}

-- what is told of the key that a row's column defines: nothing on a card without a key that is defined twice
unfoldable pub told_defined : List ℕ → List ℕ → Bool → List ℕ → ℕ → Told
told_defined keys links once s row = cond once nothing_told (told_of keys links (found_in (definition_in row) s))

-- the same by the store; on such a card a column that only defines has none
unfoldable pub faults_by : List ℕ → List ℕ → Totals → Bool → List ℕ → ℕ → ℕ → Broken
faults_by keys links totals once s vessel row =
    cond (once && only_defines row) none_of
    (broken_by s row vessel (found_in (reference_in row) s) (told_of keys links (found_in (reference_in row) s))
    (told_defined keys links once s row) totals)
