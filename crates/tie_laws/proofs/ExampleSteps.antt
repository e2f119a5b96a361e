-- The working of the example: what it defines, and the faults of each card from the sites of its layout.
use Prim.Native.Nat.{ℕ}
use mathlib.Core.Path.{◌≡◌, refl, ◌∙◌}
use mathlib.Core.Bool.{◌&&◌}
use mathlib.Core.List.{List, [], ◌∷◌, map}
use lib.ListN.{length}
use Rattle.base_lists.specs.Count.{count}
use Rattle.base_lists.specs.Parts.{alike, part, kept, up_to}
use Rattle.base_digits.specs.digits.Figures.{blanks, unpadded, leading, behind, value_from}
use Rattle.base_digits.specs.signs.Signs.{signed_of}
use Rattle.value_number.specs.number.Reading.{point_of, figures_of, held_of, sign_of, number_of}
use Rattle.value_text.specs.text.Texts.{text_end, text_of}
use Rattle.value_field.specs.spelling.Reading.{number_in, pushed_left, whole_reading, reading_of, misplaced_in}
use Rattle.format_layout.specs.Shape.{bytes}
use Rattle.format_layout.specs.Table.{layouts, passed_codes}
use Rattle.format_layout.specs.Layouts.{layout_at, fields_of}
use Rattle.card_field.specs.needing.Needs.{columns_of}
use Rattle.card_field.specs.judging.Fields.{spelling_of, misplaced_on}
use Rattle.format_code.specs.Codes.{byte_fits, fits_at, fits, codes, place_in, code_at, code_of}
use Rattle.header_check.specs.forms.Cards.{card_at, cards_in, byte_in, layout_of}
use Rattle.tie_rules.specs.Ties.{ties, line_in, line_for, has_vessel, states_own, states_count}
use Rattle.tie_rules.specs.Keys.{is_none, between, whole_key, whole_in, paired, key_in, class_at, key_at, holds_key, vessel_of, contradict}
use Rattle.tie_rules.specs.Definitions.{places, card_of, column_of, definitions_of, contradictions_of}
use Rattle.tie_rules.specs.Faults.{definitions_at, undefined, redefined, ambiguous, contradicted, differs, miscounted, misplaced_among, misplaced}
use Rattle.tie_rules.specs.Faults.{broken_on}
use Rattle.tie_laws.proofs.Complete.{list_of}
use Rattle.tie_laws.proofs.Sites.{has_line, number_among, is_site}
use Rattle.tie_laws.proofs.CardByCard.{site, sites_of, entries_from, entries_along, sites_on, listed_along}
use Rattle.tie_laws.proofs.Collected.{Definition, collected, is_of, times_among, against_among}
use Rattle.tie_laws.proofs.ExampleCards.{example_cards, example}

abbrev definition : ℕ → List ℕ → ℕ → Definition
definition class key vessel = record { class = class; key = key; vessel = vessel }

-- what it defines: a vessel line, a streamer, nodes and serials
abbrev defined : List Definition
defined =
    definition 6 (1 ∷ []) 1 ∷ definition 2 (1 ∷ []) 1 ∷
    definition 3 (214 ∷ []) 1 ∷ definition 4 (bytes "A17") 1 ∷ definition 3 (214 ∷ []) 1 ∷ definition 4 (bytes "A18") 1 ∷
    definition 3 (215 ∷ []) 2 ∷ []

all_defined : collected example ≡ defined
unfolding count alike part kept up_to blanks unpadded leading behind value_from signed_of point_of figures_of held_of sign_of
    number_of text_end text_of number_in whole_reading reading_of layouts passed_codes byte_fits fits_at fits codes place_in code_at code_of card_at
    cards_in byte_in layout_of ties line_in line_for has_vessel is_none between whole_key whole_in paired key_in class_at key_at holds_key
    vessel_of places card_of column_of collected example
all_defined = refl

-- how often a key is defined
defined_times : (class : ℕ) (key : List ℕ) → definitions_of example class key ≡ length (kept (is_of class key) defined)
defined_times = times_among example defined all_defined

against_times : (class : ℕ) (key : List ℕ) (vessel : ℕ)
    → contradictions_of example class key vessel ≡ length (kept (λ d. is_of class key d && contradict vessel d.vessel) defined)
against_times = against_among example defined all_defined

pub one_streamer : definitions_of example 2 (1 ∷ []) ≡ 1
unfolding kept is_of alike
one_streamer = defined_times 2 (1 ∷ [])

pub one_line : definitions_of example 6 (1 ∷ []) ≡ 1
unfolding kept is_of alike
one_line = defined_times 6 (1 ∷ [])

pub two_nodes : definitions_of example 3 (214 ∷ []) ≡ 2
unfolding kept is_of alike
two_nodes = defined_times 3 (214 ∷ [])

pub one_node : definitions_of example 3 (215 ∷ []) ≡ 1
unfolding kept is_of alike
one_node = defined_times 3 (215 ∷ [])

pub serial_17 : definitions_of example 4 (bytes "A17") ≡ 1
unfolding kept is_of alike
serial_17 = defined_times 4 (bytes "A17")

pub serial_18 : definitions_of example 4 (bytes "A18") ≡ 1
unfolding kept is_of alike
serial_18 = defined_times 4 (bytes "A18")

pub no_serial : definitions_of example 4 (bytes "A19") ≡ 0
unfolding kept is_of alike
no_serial = defined_times 4 (bytes "A19")

-- the streamer's card has the vessel 1
not_against : contradictions_of example 2 (1 ∷ []) 1 ≡ 0
unfolding kept is_of alike contradict
not_against = against_times 2 (1 ∷ []) 1

against : contradictions_of example 2 (1 ∷ []) 2 ≡ 1
unfolding kept is_of alike contradict
against = against_times 2 (1 ∷ []) 2

-- its cards, and the sites of their layouts: on H0000 to H0007 only numbers can be misplaced
cards-there : map (card_at example) (up_to 13) ≡ example_cards
unfolding part up_to card_at example
cards-there = refl

abbrev pub line_sites : List ℕ
line_sites =
    site 30 2 ∷ site 30 4 ∷ site 30 6 ∷ site 32 6 ∷ site 59 6 ∷ site 66 6 ∷ site 70 6 ∷ site 77 6 ∷ site 79 5 ∷ site 79 6 ∷ []

abbrev pub streamer_sites : List ℕ
streamer_sites =
    site 7 2 ∷ site 7 6 ∷ site 11 6 ∷ site 19 6 ∷ site 27 6 ∷ site 35 6 ∷ site 43 6 ∷ site 51 6 ∷ site 58 6 ∷ site 66 6 ∷ []

abbrev pub node_sites : List ℕ
node_sites =
    site 7 1 ∷ site 7 3 ∷ site 7 4 ∷ site 7 6 ∷ site 11 2 ∷ site 11 6 ∷ site 16 2 ∷ site 25 6 ∷ site 34 6 ∷ site 36 2 ∷
    site 36 6 ∷ site 41 2 ∷ site 50 6 ∷ site 59 6 ∷ []

abbrev compass_sites : List ℕ
compass_sites =
    site 7 1 ∷ site 7 3 ∷ site 7 4 ∷ site 15 6 ∷
    site 21 6 ∷ site 24 6 ∷ site 28 6 ∷ site 31 6 ∷ site 35 6 ∷ site 38 6 ∷ site 42 6 ∷ site 45 6 ∷
    site 49 6 ∷ site 52 6 ∷ site 56 6 ∷ site 59 6 ∷ site 63 6 ∷ site 66 6 ∷ site 70 6 ∷ site 73 6 ∷ []

abbrev sites : List (List ℕ)
sites =
    (site 46 6 ∷ []) ∷ [] ∷ [] ∷ (site 78 6 ∷ []) ∷ [] ∷ [] ∷ [] ∷ [] ∷ line_sites ∷ streamer_sites ∷ node_sites ∷ node_sites ∷ compass_sites ∷ []

their_sites : sites_on example_cards ≡ sites
unfolding kept up_to layouts passed_codes byte_fits fits_at fits codes place_in code_at code_of layout_of ties line_in line_for has_line
    states_own states_count layout_at fields_of spelling_of number_among is_site sites_of sites_on
their_sites = refl

abbrev four : List (List ℕ)
four = (11 ∷ 11 ∷ 2 ∷ 1 ∷ []) ∷ (11 ∷ 36 ∷ 2 ∷ 1 ∷ []) ∷ (12 ∷ 7 ∷ 4 ∷ 2 ∷ []) ∷ (13 ∷ 7 ∷ 1 ∷ 1 ∷ []) ∷ []

their_entries : entries_along example (up_to 13) example_cards sites ≡ four
unfolding alike kept up_to blanks unpadded leading behind value_from signed_of point_of figures_of held_of sign_of number_of text_end text_of
    whole_reading reading_of layouts passed_codes byte_fits fits_at fits codes place_in code_at code_of byte_in layout_of ties line_in
    line_for has_vessel is_none between whole_key whole_in paired key_in class_at key_at holds_key vessel_of definitions_at undefined
    redefined ambiguous states_own contradicted differs miscounted layout_at fields_of spelling_of columns_of number_in pushed_left
    misplaced_in misplaced_on misplaced_among misplaced broken_on entries_from entries_along
their_entries = rw (one_line, one_streamer, two_nodes, one_node, serial_17, serial_18, no_serial, not_against, against)

pub thirteen : cards_in example ≡ 13
unfolding cards_in example
thirteen = refl

pub by_cards : list_of example ≡ four
by_cards = listed_along example 13 example_cards sites thirteen cards-there their_sites ∙ their_entries
