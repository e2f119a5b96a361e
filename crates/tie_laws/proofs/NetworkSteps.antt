-- The working of the network's example: what it defines, and the faults of each card from the sites of its layout.
use Prim.Native.Nat.{ℕ}
use mathlib.Core.Path.{◌≡◌, refl, ap, ◌∙◌}
use mathlib.Core.Bool.{◌&&◌}
use mathlib.Core.List.{List, [], ◌∷◌, ◌++◌, map}
use lib.ListN.{length}
use Rattle.base_lists.specs.Count.{count}
use Rattle.base_lists.specs.Parts.{alike, part, kept, up_to}
use Rattle.base_digits.specs.digits.Figures.{blanks, unpadded, leading, behind, value_from}
use Rattle.base_digits.specs.signs.Signs.{signed_of}
use Rattle.value_number.specs.number.Reading.{point_of, figures_of, held_of, sign_of, number_of}
use Rattle.value_text.specs.text.Texts.{text_end, text_of}
use Rattle.value_field.specs.spelling.Reading.{number_in, pushed_left, whole_reading, reading_of, misplaced_in}
use Rattle.format_layout.specs.Shape.{bytes}
use Rattle.format_layout.specs.Table.{layouts, passed_codes}
use Rattle.format_layout.specs.Layouts.{layout_at, fields_of}
use Rattle.card_field.specs.needing.Needs.{columns_of}
use Rattle.card_field.specs.judging.Fields.{spelling_of, misplaced_on}
use Rattle.format_code.specs.Codes.{byte_fits, fits_at, fits, codes, place_in, code_at, code_of}
use Rattle.header_check.specs.forms.Cards.{card_at, cards_in, byte_in, layout_of}
use Rattle.tie_rules.specs.Ties.{ties, line_in, line_for, has_vessel, states_own, states_count}
use Rattle.tie_rules.specs.Keys.{is_none, between, whole_key, whole_in, paired, in_part, key_in, class_at, key_at, holds_key, vessel_of, contradict}
use Rattle.tie_rules.specs.Definitions.{places, card_of, column_of, definitions_of, contradictions_of}
use Rattle.tie_rules.specs.Faults.{definitions_at, undefined, redefined, ambiguous, contradicted, differs, miscounted, misplaced_among, misplaced}
use Rattle.tie_rules.specs.Faults.{broken_on}
use Rattle.tie_laws.proofs.Complete.{list_of}
use Rattle.tie_laws.proofs.Sites.{has_line, number_among, is_site}
use Rattle.tie_laws.proofs.CardByCard.{site, sites_of, entries_from, entries_along, sites_on, listed_along}
use Rattle.tie_laws.proofs.Collected.{Definition, collected, is_of, times_among, against_among}
use Rattle.tie_laws.proofs.ExampleCards.{card}
use Rattle.tie_laws.proofs.ExampleSteps.{line_sites, streamer_sites, node_sites}
use Rattle.tie_laws.proofs.NetworkCards.{
  first_line,
  second_line,
  streamer_card,
  compass_card,
  platform_card,
  relay_card,
  tail_card,
  other_tail_card,
  transducer_card,
  range_card,
  other_range_card,
  bearing_card,
  parameters_of,
  network_cards,
  network,
}

abbrev definition : ℕ → List ℕ → ℕ → Definition
definition class key vessel = record { class = class; key = key; vessel = vessel }

-- what it defines: vessel lines, a streamer, nodes, a serial and observations; 10 where a code has no vessel digit
abbrev defined : List Definition
defined =
    definition 6 (1 ∷ []) 1 ∷ definition 6 (2 ∷ []) 2 ∷ definition 2 (201 ∷ []) 1 ∷
    definition 3 (31 ∷ []) 1 ∷ definition 4 (bytes "A17") 1 ∷ definition 3 (1 ∷ []) 10 ∷ definition 3 (2 ∷ []) 0 ∷
    definition 3 (31 ∷ []) 1 ∷ definition 3 (4 ∷ []) 2 ∷ definition 3 (5 ∷ []) 1 ∷
    definition 10 (101 ∷ []) 10 ∷ definition 10 (102 ∷ []) 10 ∷ definition 10 (103 ∷ []) 10 ∷ []

all_defined : collected network ≡ defined
unfolding count alike part kept up_to blanks unpadded leading behind value_from signed_of point_of figures_of held_of sign_of
    number_of text_end text_of number_in whole_reading reading_of layouts passed_codes byte_fits fits_at fits codes place_in code_at code_of
    card_at cards_in byte_in layout_of ties line_in line_for has_vessel is_none between whole_key whole_in paired in_part key_in class_at key_at
    holds_key vessel_of places card_of column_of collected network
all_defined = refl

-- how often a key is defined, and how often on cards of another vessel
times : (class : ℕ) (key : List ℕ) → definitions_of network class key ≡ length (kept (is_of class key) defined)
times = times_among network defined all_defined

others : (class : ℕ) (key : List ℕ) (vessel : ℕ)
    → contradictions_of network class key vessel ≡ length (kept (λ d. is_of class key d && contradict vessel d.vessel) defined)
others = against_among network defined all_defined

-- its cards, and the sites of their layouts; those of the first twelve are as in the example of the paper
cards-there : map (card_at network) (up_to 23) ≡ network_cards
unfolding part up_to card_at network
cards-there = refl

-- a node at a fixed place, on a streamer or a relay, and a transducer
abbrev fixed_sites : List ℕ
fixed_sites = site 7 2 ∷ site 7 6 ∷ site 29 6 ∷ site 57 6 ∷ site 65 6 ∷ site 67 6 ∷ []

abbrev aboard_sites : List ℕ
aboard_sites = site 7 2 ∷ site 7 6 ∷ site 29 1 ∷ site 29 3 ∷ site 29 4 ∷ site 29 6 ∷ site 33 6 ∷ site 41 6 ∷ site 49 6 ∷ []

abbrev transducer_sites : List ℕ
transducer_sites =
    site 7 6 ∷ site 9 2 ∷ site 9 6 ∷ site 14 6 ∷ site 22 6 ∷ site 30 6 ∷ site 37 6 ∷ site 43 6 ∷ site 49 6 ∷ site 55 6 ∷
    site 63 6 ∷ site 71 6 ∷ site 73 6 ∷ []

-- an observation, and its parameters
abbrev observed_sites : List ℕ
observed_sites =
    site 7 2 ∷ site 7 6 ∷ site 29 1 ∷ site 29 3 ∷ site 29 4 ∷ site 29 6 ∷ site 34 1 ∷ site 34 3 ∷ site 34 4 ∷ site 34 6 ∷
    site 39 1 ∷ site 39 3 ∷ site 39 4 ∷ site 39 6 ∷ site 44 6 ∷ site 47 6 ∷ []

abbrev parameter_sites : List ℕ
parameter_sites =
    site 7 1 ∷ site 7 3 ∷ site 7 4 ∷ site 7 6 ∷ site 12 6 ∷ site 25 6 ∷ site 38 6 ∷ site 40 6 ∷ site 42 6 ∷ site 55 6 ∷
    site 66 6 ∷ site 75 6 ∷ site 80 6 ∷ []

abbrev sites : List (List ℕ)
sites =
    (site 46 6 ∷ []) ∷ [] ∷ [] ∷ (site 78 6 ∷ []) ∷ [] ∷ [] ∷ [] ∷ [] ∷ line_sites ∷ line_sites ∷ streamer_sites ∷ node_sites ∷
    fixed_sites ∷ aboard_sites ∷ aboard_sites ∷ aboard_sites ∷ transducer_sites ∷
    observed_sites ∷ observed_sites ∷ observed_sites ∷ parameter_sites ∷ parameter_sites ∷ parameter_sites ∷ []

their_sites : sites_on network_cards ≡ sites
unfolding kept up_to layouts passed_codes byte_fits fits_at fits codes place_in code_at code_of layout_of ties line_in line_for has_line
    states_own states_count layout_at fields_of spelling_of number_among is_site sites_of sites_on
their_sites = refl

-- what each run of cards puts before the entries of those behind it
abbrev on : ℕ → List ℕ → List ℕ → List (List ℕ) → List (List ℕ)
on c s t rest = entries_from network c s t ++ rest

in_turn : ((r : List (List ℕ)) → on 0 (card "H0000" "Line Name:" []) (site 46 6 ∷ []) (
    on 3 (card "H0003" "Media Specification:" []) (site 78 6 ∷ []) r) ≡ r)
    × ((r : List (List ℕ)) → on 8 first_line line_sites (on 9 second_line line_sites r) ≡ r)
    × ((r : List (List ℕ)) → on 10 streamer_card streamer_sites (on 11 compass_card node_sites r) ≡ (12 ∷ 11 ∷ 2 ∷ 1 ∷ []) ∷ r)
    × ((r : List (List ℕ)) → on 12 platform_card fixed_sites (on 13 relay_card aboard_sites (on 14 tail_card aboard_sites r))
    ≡ (15 ∷ 7 ∷ 2 ∷ 1 ∷ []) ∷ r)
    × ((r : List (List ℕ)) → on 15 other_tail_card aboard_sites (on 16 transducer_card transducer_sites r) ≡ (16 ∷ 29 ∷ 4 ∷ 2 ∷ []) ∷ r)
    × ((r : List (List ℕ)) → on 17 range_card observed_sites (on 18 other_range_card observed_sites r) ≡ (19 ∷ 34 ∷ 3 ∷ 10 ∷ []) ∷ r)
    × ((r : List (List ℕ)) → on 19 bearing_card observed_sites (on 20 (parameters_of " 101") parameter_sites r) ≡ r)
    × (on 21 (parameters_of " 102") parameter_sites (on 22 (parameters_of " 104") parameter_sites []) ≡ (23 ∷ 7 ∷ 1 ∷ 10 ∷ []) ∷ [])
unfolding alike kept blanks unpadded leading behind value_from signed_of point_of figures_of held_of sign_of number_of text_end text_of
    whole_reading reading_of layouts passed_codes byte_fits fits_at fits codes place_in code_at code_of byte_in layout_of ties line_in
    line_for has_vessel is_none between whole_key whole_in paired in_part key_in class_at key_at holds_key vessel_of definitions_at undefined
    redefined ambiguous states_own contradicted differs miscounted layout_at fields_of spelling_of columns_of number_in pushed_left
    misplaced_in misplaced_on misplaced_among misplaced broken_on entries_from is_of contradict
in_turn = (
  λ r. refl,
  λ r. rw (times 6 (1 ∷ []), times 6 (2 ∷ [])),
  λ r. rw (times 2 (201 ∷ []), times 3 (31 ∷ []), times 4 (65 ∷ 49 ∷ 55 ∷ []), others 2 (201 ∷ []) 1),
  λ r. rw (times 3 (1 ∷ []), times 3 (2 ∷ []), times 3 (31 ∷ []), times 2 (201 ∷ []), others 2 (201 ∷ []) 1),
  λ r. rw (times 3 (4 ∷ []), times 2 (201 ∷ []), others 2 (201 ∷ []) 2, times 3 (5 ∷ [])),
  λ r. rw (
    times 10 (101 ∷ []),
    times 10 (102 ∷ []),
    times 3 (1 ∷ []),
    times 3 (2 ∷ []),
    times 3 (5 ∷ []),
    times 3 (31 ∷ []),
    others 3 (1 ∷ []) 10,
    others 3 (2 ∷ []) 10,
    others 3 (5 ∷ []) 10,
  ),
  λ r. rw (
    times 10 (103 ∷ []),
    times 3 (4 ∷ []),
    times 3 (1 ∷ []),
    others 3 (4 ∷ []) 10,
    others 3 (1 ∷ []) 10,
    times 10 (101 ∷ []),
    others 10 (101 ∷ []) 10,
  ),
  rw (times 10 (102 ∷ []), others 10 (102 ∷ []) 10, times 10 (104 ∷ [])),
)

abbrev five : List (List ℕ)
five = (12 ∷ 11 ∷ 2 ∷ 1 ∷ []) ∷ (15 ∷ 7 ∷ 2 ∷ 1 ∷ []) ∷ (16 ∷ 29 ∷ 4 ∷ 2 ∷ []) ∷ (19 ∷ 34 ∷ 3 ∷ 10 ∷ []) ∷ (23 ∷ 7 ∷ 1 ∷ 10 ∷ []) ∷ []

their_entries : entries_along network (up_to 23) network_cards sites ≡ five
unfolding up_to kept entries_along entries_from
their_entries =
    in_turn.0 _
    ∙ in_turn.1 _
    ∙ in_turn.2 _
    ∙ ap (λ l. (12 ∷ 11 ∷ 2 ∷ 1 ∷ []) ∷ l) (in_turn.3 _
    ∙ ap (λ l. (15 ∷ 7 ∷ 2 ∷ 1 ∷ []) ∷ l) (in_turn.4 _
    ∙ ap (λ l. (16 ∷ 29 ∷ 4 ∷ 2 ∷ []) ∷ l) (in_turn.5 _
    ∙ ap (λ l. (19 ∷ 34 ∷ 3 ∷ 10 ∷ []) ∷ l) (in_turn.6 _ ∙ in_turn.7))))

twenty_three : cards_in network ≡ 23
unfolding cards_in network
twenty_three = refl

pub by_cards : list_of network ≡ five
by_cards = listed_along network 23 network_cards sites twenty_three cards-there their_sites ∙ their_entries
