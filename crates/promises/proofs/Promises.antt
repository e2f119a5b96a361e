-- What is promised of the product, in the order of its three demands: total, exact, complete. Each promise is a law about what the
-- functions answer and leave, for every input; the contracts in src/ say that they answer and leave just this. A reader has to
-- believe the definitions that are named here, each in the specs/ of its crate, and nothing else.
use Prim.Native.Nat.{ℕ, ◌+◌, ◌*◌, ◌-◌, ◌/◌, ◌%◌, ◌≤◌, ◌<◌, min, max}
use mathlib.Core.Path.{◌≡◌, ap}
use mathlib.Core.Bool.{Bool, true, false}
use mathlib.Core.Logic.{◌↔◌, ◌⊎◌}
use mathlib.Core.List.{List, [], ◌∷◌, ◌++◌, map, flat_map, Memᴰ}
use lib.ListN.{length, get_or, take, drop, replicate}
use Rattle.base_refusal.specs.declared.Refusal.{Refusal}
use Rattle.base_refusal.specs.Refusals.{refusal, no_refusal}
use Rattle.base_digits.specs.digits.Digits.{size}
use Rattle.value_number.specs.number_entry.Spelling.{units_in}
use Rattle.base_lists.specs.Count.{count}
use Rattle.base_lists.specs.Parts.{part}
use Rattle.base_value.specs.declared.Value.{Value}
use Rattle.base_value.specs.declared.Value.TheVariants.{Absent, Text}
use Rattle.base_value.specs.declared.Columns.{Columns}
use Rattle.value_field.specs.declared.spelling.Spelling.{Spelling}
use Rattle.value_field.specs.spelling.Reading.{reading_of}
use Rattle.format_layout.specs.declared.Field.{Field}
use Rattle.format_layout.specs.declared.Form.{Form}
use Rattle.format_layout.specs.Layouts.{field_of}
use Rattle.card_field.specs.seeking.Card.{sought_of}
use Rattle.card_field.specs.Reading.{field_reading, field_text, holds_text}
use Rattle.card_put.specs.Putting.{putting_of, putting_text_of}
use Rattle.card_put.specs.opening.Opening.{opened_of, opened_card}
use Rattle.card_check.specs.Judging.{is_coordinate, verdict_of}
use Rattle.card_laws.specs.exactly.Rows.{Exactly}
use Rattle.card_laws.specs.exactly.Tables.{read_rows, put_rows, put_text_rows, open_rows, judge_rows, card_of}
use Rattle.card_laws.specs.rewriting.Edges.{edges, found}
use Rattle.header_check.specs.forms.Cards.{card_at, cards_in, layout_of, unread}
use Rattle.header_check.specs.Refusing.{refusal_of}
use Rattle.tie_rules.specs.Ties.{Role, defines, refers, line_for}
use Rattle.tie_rules.specs.Keys.{class_at, key_at, holds_key, vessel_of}
use Rattle.tie_rules.specs.Readings.{key_read}
use Rattle.tie_rules.specs.Definitions.{definitions_of, place_of}
use Rattle.tie_rules.specs.Faults.{broken, faults, entry_size, entry_for, entries}
use Rattle.tie_check.specs.Answer.{answer_for, list_for}
use Rattle.tie_lookup.specs.declared.questions.Key.{Key}
use Rattle.tie_lookup.specs.declared.questions.Defined.TheVariants as defined
use Rattle.tie_lookup.specs.questions.Questions.{is_class, key_offered, defined_by, key_answer, asked_at}
use Rattle.media_ebcdic.specs.Translating.{Bytes, translated_for}
use Rattle.crew_answer.specs.Answer.{most_cards, program_refusal, answer_to}
use Rattle.crew_answer.specs.lines.Text.{bytes, newline}
use Rattle.media_diskette.specs.Lines.{disk_of, cards_from, trimmed, Cards, NoBlankEnds}
use Rattle.media_diskette.specs.Answers.{to_answer, from_answer, output_by}
use lib.IntN.{ℤ, pos, nat_abs, ◌+ℤ◌, ◌*ℤ◌}
use Rattle.base_value.specs.declared.Decimal.{Decimal}
use Rattle.base_value.specs.Sums.{nothing, exact_sum}
use Rattle.value_text.specs.text.Texts.{text_of}
use Rattle.survey_compass.specs.Serials.{card_for}
use Rattle.survey_compass.specs.Directions.{mark_at, apart, unlisted, least_rank, nearest}
use Rattle.survey_compass.specs.Corrections.{fixed_on, nearest_on, summed_on, turn, turned}
use Rattle.survey_compass.specs.Pairs.{Reordered}
use Rattle.survey_compass.specs.Headings.{heading_on, heading_of}
use Rattle.promises.specs.Header.{header_rows}
use Rattle.promises.specs.Media.{to_rows, from_rows}
use Rattle.promises.specs.Ebcdic.{ascii_in, ebcdic_in, translate_rows}
use Rattle.promises.specs.Heading.{heading_rows}
use Rattle.promises.specs.Words.{put_answer, put_card, text_answer, text_card, AlikeOutside, list_of, Before, Moved, Skipped, without, new_number, moved_down}
use Rattle.promises.proofs.Header as header
use Rattle.promises.proofs.Cards as cards
use Rattle.promises.proofs.Lists as lists
use Rattle.promises.proofs.Taken as taken
use Rattle.promises.proofs.Media as media
use Rattle.media_diskette.proofs.Back as diskette
use Rattle.promises.proofs.Ebcdic as tapes
use Rattle.promises.proofs.Heading as headings
use Rattle.survey_compass.proofs.Laws as compass
use Rattle.survey_compass.proofs.Reordered as pairs
use Rattle.card_laws.proofs.exactly.Fields as fields
use Rattle.card_laws.proofs.exactly.Entries as puts
use Rattle.card_laws.proofs.exactly.Cards as whole-cards
use Rattle.card_laws.proofs.rewriting.Edge as edge-cases
use Rattle.tie_laws.proofs.Readings as readings
use Rattle.tie_laws.proofs.Misplaced as misplaced
use Rattle.tie_laws.proofs.Complete as complete
use Rattle.tie_lookup.proofs.questions.Agreed as questions
use Rattle.tie_laws.proofs.ExampleCards.{example}
use Rattle.crew_answer.proofs.Example as worked-example
use Rattle.volume_form.specs.declared.Form.{Form as VolumeForm}
use Rattle.volume_form.specs.Spelled.{spelled}
use Rattle.volume_form.specs.Rows.{row_of}
use Rattle.volume_form.proofs.Cards.{good_row}
use Rattle.volume_rules.specs.Sound.{headers_of}
use Rattle.volume_rules.specs.Volume.{volume_of}
use Rattle.volume_form.specs.declared.Form.TheVariants as volume-form
use Rattle.volume_rules.specs.Judged.{volume_answer, Holds, form_in, header_answer}
use Rattle.volume_rules.specs.Converted.{holds}
use Rattle.volume_rules.specs.Latest.{latest, superseded}
use Rattle.volume_rules.specs.SameLine.{same_line}
use Rattle.volume_rules.proofs.Latest.{latest_twice}
use Rattle.promises.proofs.Forms as forms
use Rattle.promises.specs.Rewritten.{form_answer, form_left, kept_answer, kept_left}
use Rattle.promises.proofs.Converted as in-form
use Rattle.promises.proofs.Compacted as compact-volumes
use Rattle.volume_rules.proofs.Promises.{total}
use Rattle.volume_rules.proofs.Judging as volumes-judged
use Rattle.volume_check.specs.Lines.{line_place}
use Rattle.volume_check.specs.Answers.{lines_of, found_of, line_of}
use Rattle.volume_edit.specs.Written.{append_answer, empty_answer, left_by, convert_answer, compact_answer}
use Rattle.volume_edit.proofs.Kept as kept-volumes
use Rattle.promises.specs.Volumes.{volume_rows, line_rows, append_rows, empty_rows, convert_rows}
use Rattle.promises.proofs.Volumes as volumes
use Rattle.crew_answer.proofs.Limits as program
use Rattle.std.specs.Prelude.{Ok, Err, Some}
use Rattle.card_field.specs.Fields.{field_read}
use Rattle.card_check.specs.Verdicts.{offending}
use Rattle.card_field.specs.seeking.Found.{sought}

-- TOTAL. An operation has a table of refusals in the paper's order. It is refused exactly when a row of its table holds and none before
-- it does, with that row's number, card and column; it is done exactly when no row holds.

-- reading a field
pub reading : (s : List ℕ) (n form : ℕ)
    → Exactly (read_rows s n form) (λ r. field_reading s n form ≡ Err r) ((v : Value) × (b : Bool) × (field_reading s n form ≡ Ok (field_read v b)))
reading = fields.reading_exactly

-- putting a value, and a text
pub putting : (s : List ℕ) (n form : ℕ) (v : Value)
    → Exactly (put_rows s n form v) (λ r. put_answer s n form v ≡ Err r) (put_answer s n form v ≡ no_refusal)
putting = puts.put_exactly

pub putting_text : (s : List ℕ) (n form : ℕ) (t : List ℕ)
    → Exactly (put_text_rows s n form t) (λ r. text_answer s n form t ≡ Err r) (text_answer s n form t ≡ no_refusal)
putting_text = puts.put_text_exactly

-- opening a card of so many bytes with a code
pub opening : (code : List ℕ) (size : ℕ)
    → Exactly (open_rows code size) (λ r. opened_of code size ≡ Err r) (opened_of code size ≡ no_refusal)
opening = whole-cards.opening_exactly

-- judging a card by itself, which names no card
pub judging : (s : List ℕ) (form : Form)
    → Exactly (judge_rows s form)
    (λ r. (verdict_of s form ≡ Err (offending r.number r.column)) × (r.card ≡ card_of r.column))
    (verdict_of s form ≡ no_refusal)
judging = whole-cards.verdict_exactly

-- checking a header, and whatever is asked of one
pub checking : (h : List ℕ) → Exactly (header_rows h) (λ r. refusal_of h ≡ Err r) (refusal_of h ≡ no_refusal)
checking = header.header_exactly

-- What is refused leaves everything as it was: the 80 columns, or however many were lent, and the list.

pub refused_put : (s : List ℕ) (n form : ℕ) (v : Value) (r : Refusal)
    → put_answer s n form v ≡ Err r → put_card s n form v ≡ s
refused_put s n form v r = cards.refused-stays (putting_of s n form v) s r

pub refused-text : (s : List ℕ) (n form : ℕ) (t : List ℕ) (r : Refusal)
    → text_answer s n form t ≡ Err r → text_card s n form t ≡ s
refused-text s n form t r = cards.refused-stays (putting_text_of s n form t) s r

pub refused_opening : (code s : List ℕ) (r : Refusal) → opened_of code (length s) ≡ Err r → opened_card code s ≡ s
refused_opening = cards.refused_opening

pub refused_check : (h l : List ℕ) (r : Refusal) → refusal_of h ≡ Err r → list_for (refusal_of h) l (entries h) ≡ l
refused_check = lists.refused_check

-- EXACT. What is read is what stands there; blank is never zero.

pub blank : (k : Spelling) (s : List ℕ) → (reading_of k s ≡ Ok Absent) ↔ (s ≡ replicate (length s) 32)
blank = cards.blank_exactly

-- the paper's values at the edge: what each says, with its number where it is refused, and what stands there once it is rewritten
pub at_the_edge : map found edges ≡ edges
at_the_edge = edge-cases.edge

-- A reading says the value, and whether it is a number pushed left in its columns. What is agreed to be written reads back the same, and is
-- never misplaced.

pub value_back : (s : List ℕ) (n form : ℕ) (v : Value) → put_answer s n form v ≡ no_refusal
    → field_reading (put_card s n form v) n form ≡ Ok (field_read v false)
value_back = cards.value_back

pub text_back : (s : List ℕ) (n form : ℕ) (t : List ℕ) → text_answer s n form t ≡ no_refusal
    → field_text (text_card s n form t) n form ≡ t
text_back = cards.text_back

-- What was read can be put again: the card then says the same, and putting it once more changes nothing; a text leaves the card as it was.

pub read_again : (s : List ℕ) (n form : ℕ) (v : Value) (b : Bool) → field_reading s n form ≡ Ok (field_read v b)
    → holds_text (Ok v) ≡ false
    → (put_answer s n form v ≡ no_refusal)
    × (field_reading (put_card s n form v) n form ≡ Ok (field_read v false))
    × (put_card (put_card s n form v) n form v ≡ put_card s n form v)
read_again = cards.read_again

pub text-again : (s : List ℕ) (n form : ℕ) (c : Columns) (b : Bool) → field_reading s n form ≡ Ok (field_read (Text c) b)
    → (text_answer s n form (field_text s n form) ≡ no_refusal) × (text_card s n form (field_text s n form) ≡ s)
text-again = cards.text-again

-- A value has one spelling: two cards that differ only in how a field is spelled become one when its value is put. A text has no second
-- one.

pub one_spelling : (s t : List ℕ) (n form k : ℕ) (f : Field) → sought_of s n form ≡ Ok (sought k f) → AlikeOutside f s t
    → (v : Value) (a b : Bool) → holds_text (Ok v) ≡ false → field_reading s n form ≡ Ok (field_read v a)
    → field_reading t n form ≡ Ok (field_read v b)
    → put_card t n form v ≡ put_card s n form v
one_spelling = cards.one_spelling

pub one_text : (s t : List ℕ) (n form k : ℕ) (f : Field) → sought_of s n form ≡ Ok (sought k f) → AlikeOutside f s t
    → (c d : Columns) (a b : Bool) → field_reading s n form ≡ Ok (field_read (Text c) a) → field_reading t n form ≡ Ok (field_read (Text d) b)
    → field_text s n form ≡ field_text t n form → s ≡ t
one_text = cards.one_text

-- A put changes no column outside its field.

pub outside : (s : List ℕ) (n form k : ℕ) (f : Field) → sought_of s n form ≡ Ok (sought k f)
    → (v : Value) → AlikeOutside f s (put_card s n form v)
outside = cards.outside

pub text_outside : (s : List ℕ) (n form k : ℕ) (f : Field) → sought_of s n form ≡ Ok (sought k f)
    → (t : List ℕ) → AlikeOutside f s (text_card s n form t)
text_outside = cards.text_outside

-- COMPLETE. The check of an accepted header answers the number of all broken ties; the list is all of them and nothing else, ordered by
-- card, column, kind, nothing twice. With less room, the first that fit; what lies behind stays as it was.

pub number : (h : List ℕ) → refusal_of h ≡ no_refusal → answer_for (refusal_of h) (length (faults h)) ≡ Ok (length (list_of h))
number = lists.number

pub listed : (h : List ℕ) (c column kind vessel : ℕ) → c < cards_in h
    → Memᴰ ((c + 1) ∷ column ∷ kind ∷ vessel ∷ []) (list_of h)
    ↔ ((broken h c column kind ≡ true) × (vessel ≡ vessel_of (card_at h c)))
listed = complete.broken-listed

pub nothing_else : (h e : List ℕ) → Memᴰ e (list_of h)
    → (c : ℕ) × (column : ℕ) × (kind : ℕ) × (c < cards_in h) × (broken h c column kind ≡ true) × (e ≡ entry_for h c column kind)
nothing_else = lists.nothing_else

pub ordered : (h : List ℕ) (i j : ℕ) → i < j → j < length (list_of h) → Before (get_or (list_of h) i []) (get_or (list_of h) j [])
ordered = complete.in_order

pub once : (h : List ℕ) (i j : ℕ) → i < length (list_of h) → j < length (list_of h) → get_or (list_of h) i [] ≡ get_or (list_of h) j [] → i ≡ j
once = complete.once

-- l is lent; an entry takes four of its numbers
pub first_that_fit : (h l : List ℕ) → refusal_of h ≡ no_refusal → (i : ℕ) → i < min (length (list_of h)) (length l / entry_size)
    → part entry_size (list_for (refusal_of h) l (entries h)) i ≡ get_or (list_of h) i []
first_that_fit = lists.first_that_fit

pub rest_stays : (h l : List ℕ) → refusal_of h ≡ no_refusal → (i : ℕ) → entry_size * min (length (list_of h)) (length l / entry_size) ≤ i
    → get_or (list_for (refusal_of h) l (entries h)) i 0 ≡ get_or l i 0
rest_stays = lists.rest_stays

pub as_long : (h l : List ℕ) → length (list_for (refusal_of h) l (entries h)) ≡ length l
as_long = lists.as_long

-- What is tied is what is read: in an accepted header a key is the answer to reading its field.

pub keys_are_read : (h : List ℕ) → refusal_of h ≡ no_refusal → (c : ℕ) → c < cards_in h → layout_of (card_at h c) < unread
    → (r : Role) (column : ℕ)
    → key_at r (card_at h c) column ≡ key_read (layout_of (card_at h c)) (line_for r (layout_of (card_at h c)) column).source (card_at h c)
keys_are_read = readings.key_is

-- Kind 6 is what reading says too: at the first column of every field but a coordinate, exactly where its number is pushed left.

pub misplaced-is-read : (h : List ℕ) → refusal_of h ≡ no_refusal → (c : ℕ) → c < cards_in h → layout_of (card_at h c) < unread
    → (n : ℕ) (f : Field) → field_of (layout_of (card_at h c)) n ≡ Some f → is_coordinate f.kind ≡ false
    → (v : Value) × (field_reading (card_at h c) n 0 ≡ Ok (field_read v (broken h c f.first 6)))
misplaced-is-read = misplaced.misplaced-read

-- Cards behind the opening block may change places: the header is accepted, the check answers the same number, and an entry stands in
-- one list exactly if the entry with its card's new number, and else the same, stands in the other.

pub moved : (h h' : List ℕ) → refusal_of h ≡ no_refusal → (m : Moved h h')
    → (refusal_of h' ≡ no_refusal)
    × (answer_for (refusal_of h') (length (faults h')) ≡ answer_for (refusal_of h) (length (faults h)))
    × ((c column kind vessel : ℕ) → c < cards_in h
    → Memᴰ ((c + 1) ∷ column ∷ kind ∷ vessel ∷ []) (list_of h)
    ↔ Memᴰ ((m.order.to c + 1) ∷ column ∷ kind ∷ vessel ∷ []) (list_of h'))
moved = lists.moved

-- A reader may skip passed cards and comments. `away` says which of them are taken away from an accepted header, by their numbers: what
-- remains is accepted, the same is broken on the cards that stay and nothing was on the others, the check answers the same number, and
-- its list is that of the whole with only the card numbers moved down, each by as many cards as are taken away before it.

module _ (away : ℕ → Bool) (h : List ℕ) where
  pub cards_left : cards_in (without away h) ≡ cards_in h - count away (cards_in h)
  cards_left = taken.taken_cards away h

  pub card_stays : (c : ℕ) → c < cards_in h → away c ≡ false → card_at (without away h) (new_number away c) ≡ card_at h c
  card_stays = taken.taken_card away h

  module _ (s : Skipped away h) (a : refusal_of h ≡ no_refusal) where
    pub still_accepted : refusal_of (without away h) ≡ no_refusal
    still_accepted = taken.taken_accepted away h s a

    pub broken_as_before : (c column kind : ℕ) → c < cards_in h → away c ≡ false
        → broken (without away h) (new_number away c) column kind ≡ broken h c column kind
    broken_as_before = taken.taken_broken away h s

    pub none_taken : (c column kind : ℕ) → c < cards_in h → away c ≡ true → broken h c column kind ≡ false
    none_taken = taken.away_unbroken away h s

    pub same_number_lem : answer_for (refusal_of (without away h)) (length (faults (without away h))) ≡ answer_for (refusal_of h) (length (faults h))
    same_number_lem = taken.taken_number away h s a

    pub list_moved-down : list_of (without away h) ≡ map (moved_down away) (list_of h)
    list_moved-down = taken.taken_list away h s

    -- given room for all, the check leaves it in the lent list, and the rest of that as it was
    pub check_moved-down : (l : List ℕ) → entry_size * length (list_of h) ≤ length l
        → list_for (refusal_of (without away h)) l (entries (without away h))
        ≡ flat_map (moved_down away) (list_of h) ++ drop (entry_size * length (list_of h)) l
    check_moved-down = taken.taken_check away h s a

-- A question about a key is answered by its definitions: the header's refusal first, then 13 for a class that there is not, then none,
-- the place of the only one, or how many there are.

pub question : (h : List ℕ) (class : ℕ) (key : Key) (text : List ℕ) → refusal_of h ≡ no_refusal → is_class class ≡ true
    → key_answer h class key text
    ≡ defined_by (definitions_of h class (key_offered class key text)) (place_of h class (key_offered class key text))
question = questions.answer_is

pub question_refused : (h : List ℕ) (class : ℕ) (key : Key) (text : List ℕ) (r : Refusal) → refusal_of h ≡ Err r
    → key_answer h class key text ≡ Err r
question_refused = questions.refused-first

pub no_such_class : (h : List ℕ) (class : ℕ) (key : Key) (text : List ℕ) → refusal_of h ≡ no_refusal → is_class class ≡ false
    → key_answer h class key text ≡ Err (refusal 13 0 0)
no_such_class = questions.no_class

-- Asked for the key of any reference or definition in an accepted header, it agrees with the list. At a reference: none exactly where
-- kind 1 stands, several exactly where kind 3 does, and else the one place. At a definition: several exactly where kind 2 stands, and
-- else its own place. Several tells how many definitions there are.

module _ (h : List ℕ) (a : refusal_of h ≡ no_refusal) (c column : ℕ) (l : c < cards_in h) where
  pub none_at_reference : holds_key refers (card_at h c) column ≡ true
      → (broken h c column 1 ≡ true) ↔ (asked_at h c column refers ≡ (Ok defined.None))
  none_at_reference = questions.undefined_asked h a c column l

  pub several_at_reference : holds_key refers (card_at h c) column ≡ true
      → (broken h c column 3 ≡ true) ↔ ((n : ℕ) × (asked_at h c column refers ≡ Ok (defined.Several n)))
  several_at_reference = questions.ambiguous_asked h a c column l

  pub one_at_reference : holds_key refers (card_at h c) column ≡ true
      → ((broken h c column 1 ≡ false) × (broken h c column 3 ≡ false))
      ↔ ((x : ℕ) × (y : ℕ) × (asked_at h c column refers ≡ Ok (defined.Only x y)))
  one_at_reference = questions.settled_asked h a c column l

  pub several_at_definition : holds_key defines (card_at h c) column ≡ true
      → (broken h c column 2 ≡ true) ↔ ((n : ℕ) × (asked_at h c column defines ≡ Ok (defined.Several n)))
  several_at_definition = questions.redefined_asked h a c column l

  pub one_at_definition : holds_key defines (card_at h c) column ≡ true → 1 ≤ column → column ≤ 80
      → (broken h c column 2 ≡ false) ↔ (asked_at h c column defines ≡ Ok (defined.Only (c + 1) column))
  one_at_definition = questions.here_asked h a c column l

  pub as_defined : (r : Role) → holds_key r (card_at h c) column ≡ true
      → asked_at h c column r
      ≡ defined_by (definitions_of h (class_at r (card_at h c) column) (key_at r (card_at h c) column))
      (place_of h (class_at r (card_at h c) column) (key_at r (card_at h c) column))
  as_defined = questions.asked_is h a c column l

-- The paper's example of 13 cards.

pub worked : answer_to example
    ≡ bytes "broken 4" ++ newline ++ bytes "11 11 2 1" ++ newline ++ bytes "11 36 2 1" ++ newline ++ bytes "12 7 4 2" ++ newline
    ++ bytes "13 7 1 1" ++ newline
worked = worked-example.five_lines

-- The program takes fewer cards than the check: up to so many it says what the check says, and more are refused.

pub program_few : (h : List ℕ) → cards_in h ≤ most_cards → program_refusal h ≡ refusal_of h
program_few = program.few_taken

pub program_many : (h : List ℕ) → length h % 80 ≡ 0 → most_cards < cards_in h → program_refusal h ≡ Err (refusal 3 0 0)
program_many = program.many_refused

-- MEDIA. A header as a diskette file and back. Each conversion is refused exactly by its table, and then leaves the output as it was;
-- else it answers the length written, lays the text to the output's front, and leaves the rest as it was.

pub to_diskette : (h : List ℕ) (room : ℕ)
    → Exactly (to_rows h room) (λ r. to_answer h room ≡ Err r) ((n : ℕ) × (to_answer h room ≡ Ok n))
to_diskette = media.to_exactly

pub from_diskette : (f : List ℕ) (room : ℕ)
    → Exactly (from_rows f room) (λ r. from_answer f room ≡ Err r) ((n : ℕ) × (from_answer f room ≡ Ok n))
from_diskette = media.from_exactly

pub diskette_refused : (h out text : List ℕ) (r : Refusal) → to_answer h (length out) ≡ Err r
    → output_by (to_answer h (length out)) text out ≡ out
diskette_refused h out text r e = ap (λ a. output_by a text out) e

pub cards-refused : (f out text : List ℕ) (r : Refusal) → from_answer f (length out) ≡ Err r
    → output_by (from_answer f (length out)) text out ≡ out
cards-refused f out text r e = ap (λ a. output_by a text out) e

-- 1 to 800 printable cards go to diskette in 82 bytes a card, and come back byte for byte
pub card_to_card : (h : List ℕ) → Cards h → (room back : ℕ) → 82 * (length h / 80) ≤ room → length h ≤ back
    → (to_answer h room ≡ Ok (length (disk_of h)))
    × (from_answer (disk_of h) back ≡ Ok (length h))
    × (cards_from (disk_of h) ≡ h)
card_to_card = diskette.to-and_back

-- an accepted file becomes cards, and these become the file without the blanks at the ends of its lines, in no more room; so it comes
-- back byte for byte where no line ends in a blank
pub disk_to_disk : (f : List ℕ) (room n back : ℕ) → from_answer f room ≡ Ok n → length f ≤ back
    → (to_answer (cards_from f) back ≡ Ok (length (trimmed f))) × (disk_of (cards_from f) ≡ trimmed f)
disk_to_disk = diskette.from-and_back

pub nothing-trimmed : (f : List ℕ) (room n : ℕ) → from_answer f room ≡ Ok n → NoBlankEnds f → trimmed f ≡ f
nothing-trimmed = diskette.kept

-- the length answered is that of what is written: at most 82 bytes a card, and at most 64,000 bytes of cards
pub diskette_length : (h : List ℕ) (room n : ℕ) → to_answer h room ≡ Ok n
    → (length (disk_of h) ≡ n) × (n ≤ 82 * (length h / 80))
diskette_length = diskette.disk_told

pub cards-length : (f : List ℕ) (room n : ℕ) → from_answer f room ≡ Ok n → (length (cards_from f) ≡ n) × (n ≤ 64000)
cards-length = diskette.cards-told

-- A tape in EBCDIC is translated to ASCII, and a text back. Every byte and every length translates: the one refusal is 17, where
-- the output is shorter.

pub translating : (bytes room : ℕ)
    → Exactly (translate_rows bytes room)
    (λ r. translated_for bytes room ≡ Err r)
    (translated_for bytes room ≡ Ok bytes)
translating = tapes.translated_exactly

-- What was written, translated back, is the buffer that it came from.

pub tape_again : (tape out again : List ℕ) → Bytes tape → length tape ≤ length out → length tape ≤ length again
    → take (length tape) (ebcdic_in again (take (length tape) (ascii_in out tape))) ≡ tape
tape_again = tapes.tape_again

pub ascii_again : (text out again : List ℕ) → Bytes text → length text ≤ length out → length text ≤ length again
    → take (length text) (ascii_in again (take (length text) (ebcdic_in out text))) ≡ text
ascii_again = tapes.text-again

-- The output behind the input's length stays as it was, and all of it where it is shorter.

pub behind_tape : (tape out : List ℕ) → drop (length tape) (ascii_in out tape) ≡ drop (length tape) out
behind_tape = tapes.ascii_behind

pub behind-text : (text out : List ℕ) → drop (length text) (ebcdic_in out text) ≡ drop (length text) out
behind-text = tapes.ebcdic_behind

pub short_for_tape : (tape out : List ℕ) → length out < length tape → ascii_in out tape ≡ out
short_for_tape = tapes.ascii_stays

pub short_for_text : (text out : List ℕ) → length out < length text → ebcdic_in out text ≡ out
short_for_text = tapes.ebcdic_stays

-- VOLUMES. A season's headers in one buffer, a stated number n of cards at its front. Every question and every append judges the whole
-- volume first, and is refused exactly by its table.

pub counting_lines : (form : VolumeForm) (n : ℕ) (buffer : List ℕ)
    → Exactly (volume_rows (row_of form) n buffer)
    (λ r. lines_of (row_of form) n buffer ≡ Err r)
    ((k : ℕ) × (lines_of (row_of form) n buffer ≡ Ok k))
counting_lines form = volumes.lines_exactly (row_of form)

pub finding_line : (form : VolumeForm) (n : ℕ) (buffer : List ℕ) (place : ℕ)
    → Exactly (line_rows (row_of form) n buffer place)
    (λ r. found_of (row_of form) n buffer place ≡ Err r)
    ((first : ℕ) × (number : ℕ) × (entry : ℕ) × (found_of (row_of form) n buffer place ≡ Ok (line_place first number entry)))
finding_line form = volumes.line_exactly (row_of form)

pub appending : (form : VolumeForm) (n : ℕ) (buffer h : List ℕ)
    → Exactly (append_rows (row_of form) n buffer h)
    (λ r. append_answer (row_of form) n buffer h ≡ Err r)
    ((m : ℕ) × (append_answer (row_of form) n buffer h ≡ Ok m))
appending form = volumes.append_exactly (row_of form)

pub laying_empty : (buffer : List ℕ)
    → Exactly (empty_rows buffer) (λ r. empty_answer buffer ≡ Err r) ((m : ℕ) × (empty_answer buffer ≡ Ok m))
laying_empty = volumes.empty_exactly

-- A volume is accepted exactly if it is that of accepted headers. Numbers in it are spelled as those of fields without places are.

pub volume_exactly : (form : VolumeForm) (n : ℕ) (buffer : List ℕ)
    → (volume_answer (row_of form) n buffer ≡ no_refusal) ↔ ((hs : List (List ℕ)) × Holds (row_of form) n buffer hs)
volume_exactly form n buffer = (
  λ a. (headers_of (row_of form) n (take (80 * n) buffer), volumes-judged.accepted_volume (row_of form) (good_row form) n buffer a),
  λ x. volumes-judged.volume_accepted (row_of form) (good_row form) n buffer x.0 x.1,
)

pub volume_number : (w n : ℕ) → size n ≤ w → units_in w false 0 n ≡ Some (spelled w n)
volume_number = volumes.spelled_as

-- How many lines it has; and the line at a place is the header there, byte for byte, which is accepted and checked as it is alone.

module _ (form : VolumeForm) (n : ℕ) (buffer : List ℕ) (hs : List (List ℕ)) (is : Holds (row_of form) n buffer hs) where
  pub lines-told : lines_of (row_of form) n buffer ≡ Ok (length hs)
  lines-told = kept-volumes.lines-there (row_of form) (good_row form) n buffer hs is

  module _ (place : ℕ) (some-place : 1 ≤ place) (known-place : place ≤ length hs) where
    pub line_back : line_of (row_of form) n buffer place ≡ get_or hs (place - 1) []
    line_back = kept-volumes.line_back (row_of form) (good_row form) n buffer hs is place some-place known-place

    pub line-accepted : refusal_of (line_of (row_of form) n buffer place) ≡ no_refusal
    line-accepted = kept-volumes.line_taken (row_of form) (good_row form) n buffer hs is place some-place known-place

    pub line_checked : (list : List ℕ)
        → (answer_for (refusal_of (line_of (row_of form) n buffer place)) (length (faults (line_of (row_of form) n buffer place)))
        ≡ Ok (length (faults (get_or hs (place - 1) []))))
        × (list_for (refusal_of (line_of (row_of form) n buffer place)) list (entries (line_of (row_of form) n buffer place))
        ≡ list_for no_refusal list (entries (get_or hs (place - 1) [])))
    unfolding answer_for
    line_checked list = (
      rw (line-accepted) (ap (λ l. Ok (length (faults l))) line_back),
      rw (line-accepted) (ap (λ l. list_for no_refusal list (entries l)) line_back),
    )

  -- An append leaves the volume of the headers with one more in front, and behind the new trailer all as it was; every earlier line
  -- reads back as before, and the new one behind them.

  module _ (m : ℕ) (h : List ℕ) (done : append_answer (row_of form) n buffer h ≡ Ok m) where
    abbrev left : List ℕ
    left = left_by (row_of form) (append_answer (row_of form) n buffer h) (headers_of (row_of form) n (take (80 * n) buffer) ++ (h ∷ [])) buffer

    pub append-cards : m ≡ n + cards_in h + 1
    append-cards = kept-volumes.append-cards form n m buffer h hs is done

    pub append_left : left ≡ volume_of (row_of form) (hs ++ (h ∷ [])) ++ drop (80 * m) buffer
    append_left = kept-volumes.append_left form n m buffer h hs is done

    pub append-holds : Holds (row_of form) m left (hs ++ (h ∷ []))
    append-holds = kept-volumes.append_volume form n m buffer h hs is done

    pub append-behind : drop (80 * m) left ≡ drop (80 * m) buffer
    append-behind = kept-volumes.append-behind form n m buffer h hs is done

    pub append_earlier : (place : ℕ) → 1 ≤ place → place ≤ length hs → line_of (row_of form) m left place ≡ line_of (row_of form) n buffer place
    append_earlier = kept-volumes.append_earlier form n m buffer h hs is done

    pub append-last : line_of (row_of form) m left (length hs + 1) ≡ h
    append-last = kept-volumes.append-last form n m buffer h hs is done

-- A refused append leaves the buffer as it came. The empty volume is that of no headers.

pub append-stays : (form : VolumeForm) (n : ℕ) (buffer h : List ℕ) (r : Refusal) (gs : List (List ℕ))
    → append_answer (row_of form) n buffer h ≡ Err r → left_by (row_of form) (append_answer (row_of form) n buffer h) gs buffer ≡ buffer
append-stays form = kept-volumes.append-stays (row_of form)

pub empty_holds : (form : VolumeForm) (buffer : List ℕ) → empty_answer buffer ≡ Ok 1
    → Holds (row_of form) 1 (left_by (row_of form) (empty_answer buffer) [] buffer) []
empty_holds = kept-volumes.empty_volume

-- Routes between datums have a page of their own beside this one: Routes.antt.

-- HEADINGS. A compass reading with its corrections is refused exactly by its table; else it is the exact sum by the only card for the
-- serial, taken into 0 to under 360 degrees.

pub finding_heading : (h serial : List ℕ) (raw : Decimal) (direction : ℤ)
    → Exactly (heading_rows h serial raw direction)
    (λ r. heading_of h serial raw direction ≡ Err r)
    ((d : Decimal) × (heading_of h serial raw direction ≡ Ok d))
finding_heading = headings.heading_exactly

pub heading_is : (h serial : List ℕ) (raw : Decimal) (direction : ℤ) (d : Decimal) → heading_of h serial raw direction ≡ Ok d
    → d ≡ turned (summed_on (card_for h (text_of serial)) raw (nat_abs direction % 360))
heading_is = compass.heading_is

-- it lies in 0 to under 360, differs from the sum by a whole number of turns, and has the largest number of places
pub in_circle : (d : Decimal) → (n : ℕ) × ((turned d).units ≡ pos n) × (n < turn d.places)
in_circle = compass.in_circle

pub whole_turns : (d : Decimal) → (k : ℤ) × (d.units ≡ (turned d).units +ℤ k *ℤ pos (turn d.places))
whole_turns = compass.whole_turns

pub places-kept : (s : List ℕ) (raw : Decimal) (asked : ℕ)
    → (turned (summed_on s raw asked)).places ≡ max (max raw.places (fixed_on s).places) (nearest_on s asked).places
places-kept = compass.places-kept

-- an absent correction, which is nothing, adds neither units nor places
pub nothing_added : (d : Decimal) → exact_sum d nothing ≡ d
nothing_added = compass.nothing_added

-- the nearest direction: no listed one is nearer round the circle, and of those as near none is smaller
pub nearest-first : (s : List ℕ) (asked : ℕ) → (least_rank s asked ≡ unlisted → ⊥) → (j : ℕ) → j < 8 → (mark_at s j ≡ 0 → ⊥)
    → (apart asked (mark_at s (nearest s asked) - 1) < apart asked (mark_at s j - 1))
    ⊎ ((apart asked (mark_at s (nearest s asked) - 1) ≡ apart asked (mark_at s j - 1))
    × (mark_at s (nearest s asked) - 1 ≤ mark_at s j - 1))
nearest-first = compass.nearest-first

-- and the order of the eight pairs plays no part
pub pairs_reordered : (s t : List ℕ) → Reordered s t → (raw : Decimal) (direction : ℤ) → heading_on t raw direction ≡ heading_on s raw direction
pairs_reordered = pairs.same_heading

-- The code of its last card tells a volume's form, and the wide form holds every old volume. Compacting keeps a line exactly if no
-- later one is the same, and compacting twice is compacting once.

pub form-told : (form : VolumeForm) (n : ℕ) (buffer : List ℕ) (hs : List (List ℕ)) → Holds (row_of form) n buffer hs → form_in n buffer ≡ form
form-told = forms.form-told

pub old_held : (n : ℕ) (buffer : List ℕ) (hs : List (List ℕ)) → Holds (row_of volume-form.Old) n buffer hs → holds (row_of volume-form.Wide) n hs ≡ true
old_held = forms.old_held

pub kept_from : (gs : List (List ℕ)) (h : List ℕ) (hs : List (List ℕ)) → forms.KeptFrom same_line (latest same_line (gs ++ (h ∷ hs))) h hs
kept_from = forms.kept_from same_line

pub kept-once : (hs : List (List ℕ)) → latest same_line (latest same_line hs) ≡ latest same_line hs
kept-once = latest_twice same_line

-- Bringing a volume into a form and compacting it judge the whole volume first, and are refused exactly by their tables.

pub converting : (from to : VolumeForm) (n : ℕ) (buffer : List ℕ)
    → Exactly (convert_rows (row_of from) (row_of to) n buffer)
    (λ r. convert_answer (row_of from) (row_of to) n buffer ≡ Err r)
    ((m : ℕ) × (convert_answer (row_of from) (row_of to) n buffer ≡ Ok m))
converting from to n buffer = volumes.convert_exactly (row_of from) n buffer (row_of to)

pub compacting : (form : VolumeForm) (n : ℕ) (buffer : List ℕ)
    → Exactly (volume_rows (row_of form) n buffer)
    (λ r. compact_answer (row_of form) n buffer ≡ Err r)
    ((m : ℕ) × (compact_answer (row_of form) n buffer ≡ Ok m))
compacting form = volumes.compact_exactly (row_of form)

-- Widening an old volume always succeeds: as many cards, the same headers, all behind the trailer as it was; narrowing then gives the
-- old bytes. Narrowing a wide volume is a 21 exactly if it has more than 999 cards or a header of more than 800; else it succeeds, and
-- widening then gives the wide bytes. A volume that has the form keeps its bytes.

module _ (n : ℕ) (buffer : List ℕ) (hs : List (List ℕ)) (is : Holds (row_of volume-form.Old) n buffer hs) where
  pub widen_done : form_answer volume-form.Wide n buffer ≡ Ok n
  widen_done = in-form.form-done volume-form.Old volume-form.Wide n buffer hs is (forms.old_held n buffer hs is)

  pub widen_holds : Holds (row_of volume-form.Wide) n (form_left volume-form.Wide n buffer) hs
  widen_holds = in-form.form-holds volume-form.Old volume-form.Wide n buffer hs is (forms.old_held n buffer hs is)

  pub widen_behind : drop (80 * n) (form_left volume-form.Wide n buffer) ≡ drop (80 * n) buffer
  widen_behind = in-form.form-behind volume-form.Old volume-form.Wide n buffer hs is (forms.old_held n buffer hs is)

  pub widen_back : (form_answer volume-form.Old n (form_left volume-form.Wide n buffer) ≡ Ok n)
      × (form_left volume-form.Old n (form_left volume-form.Wide n buffer) ≡ buffer)
  widen_back = in-form.form_back volume-form.Old volume-form.Wide n buffer hs is (forms.old_held n buffer hs is)

module _ (n : ℕ) (buffer : List ℕ) (hs : List (List ℕ)) (is : Holds (row_of volume-form.Wide) n buffer hs) where
  pub narrow_not : (form_answer volume-form.Old n buffer ≡ Err (refusal 21 0 0)) ↔ ((999 < n) ⊎ in-form.Over 800 hs)
  narrow_not = in-form.narrow_not n buffer hs is

  pub narrow_done : (form_answer volume-form.Old n buffer ≡ Ok n) ↔ (((999 < n) ⊎ in-form.Over 800 hs) → ⊥)
  narrow_done = in-form.narrow_done n buffer hs is

  module _ (held : holds (row_of volume-form.Old) n hs ≡ true) where
    pub narrow_holds : Holds (row_of volume-form.Old) n (form_left volume-form.Old n buffer) hs
    narrow_holds = in-form.form-holds volume-form.Wide volume-form.Old n buffer hs is held

    pub narrow_back : (form_answer volume-form.Wide n (form_left volume-form.Old n buffer) ≡ Ok n)
        × (form_left volume-form.Wide n (form_left volume-form.Old n buffer) ≡ buffer)
    narrow_back = in-form.form_back volume-form.Wide volume-form.Old n buffer hs is held

pub form-kept : (form : VolumeForm) (n : ℕ) (buffer : List ℕ) (hs : List (List ℕ)) → Holds (row_of form) n buffer hs
    → (form_answer form n buffer ≡ Ok n) × (form_left form n buffer ≡ buffer)
form-kept = in-form.form-kept

-- A line is superseded exactly if a later one is the same.

pub superseded_exactly : (h : List ℕ) (hs : List (List ℕ)) → (superseded same_line h hs ≡ true) ↔ compact-volumes.Later h hs
superseded_exactly = compact-volumes.superseded_exactly

-- Compacting leaves an accepted volume of the lines that are kept, in the form that it had; the cards so freed are blank, and what lay
-- past the old trailer stays. Where nothing is superseded the bytes stay, so they do the second time. The room can be appended to.

module _ (form : VolumeForm) (n : ℕ) (buffer : List ℕ) (hs : List (List ℕ)) (is : Holds (row_of form) n buffer hs) where
  pub kept-cards : kept_answer n buffer ≡ Ok (total (latest same_line hs))
  kept-cards = compact-volumes.kept-cards form n buffer hs is

  pub kept-holds : Holds (row_of form) (total (latest same_line hs)) (kept_left n buffer) (latest same_line hs)
  kept-holds = compact-volumes.kept-holds form n buffer hs is

  pub kept_freed : take (80 * n - 80 * total (latest same_line hs)) (drop (80 * total (latest same_line hs)) (kept_left n buffer))
      ≡ replicate (80 * n - 80 * total (latest same_line hs)) 32
  kept_freed = compact-volumes.kept_freed form n buffer hs is

  pub kept-behind : drop (80 * n) (kept_left n buffer) ≡ drop (80 * n) buffer
  kept-behind = compact-volumes.kept-behind form n buffer hs is

  pub kept-all : ((gs : List (List ℕ)) (h : List ℕ) (later : List (List ℕ)) → hs ≡ gs ++ (h ∷ later) → superseded same_line h later ≡ false)
      → (kept_answer n buffer ≡ Ok n) × (kept_left n buffer ≡ buffer)
  kept-all none = compact-volumes.kept-all form n buffer hs is (compact-volumes.all-kept hs none)

  pub kept_twice : (kept_answer (total (latest same_line hs)) (kept_left n buffer) ≡ Ok (total (latest same_line hs)))
      × (kept_left (total (latest same_line hs)) (kept_left n buffer) ≡ kept_left n buffer)
  kept_twice = compact-volumes.kept_twice form n buffer hs is

  pub kept_append : (h : List ℕ) → header_answer (row_of form) h ≡ no_refusal
      → total (latest same_line hs) + cards_in h + 1 ≤ (row_of form).most → total (latest same_line hs) + cards_in h + 1 ≤ cards_in buffer
      → append_answer (row_of form) (total (latest same_line hs)) (kept_left n buffer) h ≡ Ok (total (latest same_line hs) + cards_in h + 1)
  kept_append = compact-volumes.kept_append form n buffer hs is
