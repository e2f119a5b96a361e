-- The five kinds of broken tie, the sixth of a misplaced number, and the list of all of them: by card, column, kind.
use Rattle.std.specs.Prelude.{ℕ, ◌+◌, ◌*◌, ◌/◌, ◌%◌, Bool, false, cond, ◌&&◌, ◌||◌, not, eqb, ltb}
use mathlib.Core.List.{List, [], ◌∷◌, flat_map}
use Rattle.base_lists.specs.Parts.{alike, kept, up_to}
use Rattle.format_layout.specs.declared.Field.{Field}
use Rattle.format_layout.specs.declared.Form.TheVariants.{Angles}
use Rattle.format_layout.specs.Layouts.{fields_of}
use Rattle.card_field.specs.judging.Fields.{misplaced_on}
use Rattle.header_check.specs.forms.Cards.{card_at, cards_in, layout_of}
use Rattle.tie_rules.specs.Ties.{defines, refers, states_own}
use Rattle.format_layout.specs.Names.{H00X8, H0100}
use Rattle.tie_rules.specs.Keys.{is_none, whole_in, class_at, key_at, holds_key, vessel_of}
use Rattle.tie_rules.specs.Definitions.{definitions_of, contradictions_of, waypoints_of, points_of}

-- how often the key that a column refers to is defined
unfoldable pub definitions_at : List ℕ → List ℕ → ℕ → ℕ
definitions_at h s column = definitions_of h (class_at refers s column) (key_at refers s column)

-- 1: a reference whose key has no definition
unfoldable pub undefined : List ℕ → List ℕ → ℕ → Bool
undefined h s column = holds_key refers s column && eqb (definitions_at h s column) 0

-- 2: a definition whose key is defined in another place too
unfoldable pub redefined : List ℕ → List ℕ → ℕ → Bool
redefined h s column =
    holds_key defines s column && ltb 1 (definitions_of h (class_at defines s column) (key_at defines s column))

-- 3: a reference whose key has several definitions
unfoldable pub ambiguous : List ℕ → List ℕ → ℕ → Bool
ambiguous h s column = holds_key refers s column && ltb 1 (definitions_at h s column)

-- 4: a vessel digit that contradicts: the card's own vessel there, and elsewhere the card of the only definition
unfoldable pub contradicted : List ℕ → List ℕ → ℕ → Bool
contradicted h s column =
    cond (states_own (layout_of s) column) (not (alike (whole_in column column s) (vessel_of s ∷ [])))
    (holds_key refers s column &&
    (eqb (definitions_at h s column) 1 &&
    eqb (contradictions_of h (class_at refers s column) (key_at refers s column) (vessel_of s)) 1))

-- a count that is stated and differs
unfoldable pub differs : List ℕ → ℕ → Bool
differs stated found = not (is_none stated) && not (alike stated (found ∷ []))

-- 5: a stated count: of the vessel's waypoints on H00@8, of the points of the grid on H0100
unfoldable pub miscounted : List ℕ → List ℕ → ℕ → Bool
miscounted h s column =
    cond (eqb (layout_of s) H00X8 && eqb column 79) (differs (whole_in 79 80 s) (waypoints_of h (whole_in 30 30 s)))
    (eqb (layout_of s) H0100 && eqb column 16 && differs (whole_in 16 19 s) (points_of h))

-- a field that begins in a column has a misplaced number: the form, which says how coordinates are spelled, plays no part
unfoldable pub misplaced_among : List Field → List ℕ → ℕ → Bool
misplaced_among [] s column = false
misplaced_among (f ∷ fs) s column = (eqb f.first column && misplaced_on s f Angles) || misplaced_among fs s column

-- 6: a whole number or a decimal that is misplaced, tied or not
unfoldable pub misplaced : List ℕ → ℕ → Bool
misplaced s column = misplaced_among (fields_of (layout_of s)) s column

-- how many kinds there are
abbrev pub kinds : ℕ
kinds = 6

-- a column of a card of the header has a fault of a kind
unfoldable pub broken_on : List ℕ → List ℕ → ℕ → ℕ → Bool
broken_on h s column kind =
    cond (eqb kind 1) (undefined h s column)
    (cond (eqb kind 2) (redefined h s column)
    (cond (eqb kind 3) (ambiguous h s column)
    (cond (eqb kind 4) (contradicted h s column)
    (cond (eqb kind 5) (miscounted h s column) (eqb kind 6 && misplaced s column)))))

-- the same of the card at a place, counted from 0
unfoldable pub broken : List ℕ → ℕ → ℕ → ℕ → Bool
broken h card column kind = broken_on h (card_at h card) column kind

-- the triples of a card: column, then kind
abbrev pub on_card : ℕ
on_card = kinds * 80

-- all triples of a header in order, numbered from 0: card, from 0, then column, then kind
unfoldable pub triples : List ℕ → ℕ
triples h = on_card * cards_in h

unfoldable pub broken_at : List ℕ → ℕ → Bool
broken_at h t = broken h (t / on_card) (t / kinds % 80 + 1) (t % kinds + 1)

-- the numbers of the broken triples, in order
unfoldable pub faults : List ℕ → List ℕ
faults h = kept (broken_at h) (up_to (triples h))

-- how many numbers an entry has
abbrev pub entry_size : ℕ
entry_size = 4

-- the entry of a fault: the card counted from 1, column, kind, the vessel digit in the card's code
abbrev pub entry_for : List ℕ → ℕ → ℕ → ℕ → List ℕ
entry_for h card column kind = (card + 1) ∷ column ∷ kind ∷ vessel_of (card_at h card) ∷ []

-- the same of a triple
unfoldable pub entry_of : List ℕ → ℕ → List ℕ
entry_of h t = entry_for h (t / on_card) (t / kinds % 80 + 1) (t % kinds + 1)

-- the entries of all faults, one after the other
unfoldable pub entries : List ℕ → List ℕ
entries h = flat_map (entry_of h) (faults h)
