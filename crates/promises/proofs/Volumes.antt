-- Volumes: each answer is the first refusal that its rows give, or none; what is read and written; how numbers are spelled.
use Prim.Native.Nat.{ℕ, ◌+◌, ◌-◌, ◌*◌, ◌%◌, ◌≤◌, max}
use native.Mathlib.Decide.{ℕ_discrete, dec_le}
use native.Mathlib.Omega.{arith}
use mathlib.Core.Path.{◌≡◌, refl, sym, ap, ap₂, ◌∙◌}
use mathlib.Core.Bool.{Bool, true, false, cond, not, ◌&&◌}
use mathlib.Core.Logic.{◌↔◌}
use mathlib.Core.List.{List, [], ◌∷◌, ◌++◌}
use lib.Dec.{eqb, leb, ltb}
use lib.ListN.{length, take, get_or}
use borrow.Author.Tests.{le-leb, lt-leb, lt-ltb, le-ltb, eq-eqb, ne_eqb}
use Rattle.base_refusal.specs.declared.Refusal.{Refusal}
use Rattle.base_refusal.specs.Refusals.{refusal, no_refusal}
use Rattle.base_digits.specs.digits.Digits.{size}
use Rattle.base_digits.specs.digits.Columns.{right_adjusted}
use Rattle.base_digits.proofs.digits.Spell.{digits-length}
use Rattle.base_digits.proofs.digits.Numbers.{size-some}
use Rattle.value_number.specs.number_entry.Spelling.{units_in, spelled as number_spelled, plain, sign}
use Rattle.value_field.proofs.spelling.Absence.{zero_one}
use Rattle.card_laws.specs.exactly.Rows.{Row, row, given, Exactly}
use Rattle.card_laws.proofs.exactly.Given.{or_else, given-append, exactly}
use Rattle.header_check.specs.forms.Cards.{cards_in}
use Rattle.header_check.specs.Refusing.{refusal_of}
use Rattle.volume_form.specs.Rows.{Row as Form}
use Rattle.volume_form.specs.Spelled.{spelled}
use Rattle.volume_rules.specs.Volume.{before}
use Rattle.volume_rules.specs.Sound.{points, mixed, covers, last_card, first_of, body_of, directory_of, headers_of}
use Rattle.volume_rules.specs.Judged.{unless, and_then, stated, header_answer, headers_answer, parts_answer, cards_answer, volume_answer}
use Rattle.volume_check.specs.Answers.{lines_by, found_by, placed, lines_of, found_of}
use Rattle.volume_rules.specs.Converted.{few, holds, convert_checked}
use Rattle.volume_edit.specs.Written.{room_answer, append_checked, cards_by, append_answer, empty_answer, convert_answer, compact_answer}
use Rattle.promises.specs.Header.{header_rows, in_check}
use Rattle.promises.specs.Volumes.{rows_in, rows_of_all, cards_rows, volume_rows, line_rows, append_rows, empty_rows, convert_rows}
use Rattle.promises.proofs.Header.{header-given}
use Rattle.std.specs.Prelude.{Result, Ok, Err, ⊤, Option, None, Some}
use Rattle.volume_check.specs.declared.LinePlace.{LinePlace}
use Rattle.volume_check.specs.Lines.{line_place}

-- tests turned round
at_most : (a b : ℕ) → leb a b ≡ not (ltb b a)
at_most a b = elim (dec_le a b) [
  | yes h ↦ le-leb a b h ∙ sym (ap not (le-ltb b a h))
  | no h ↦ lt-leb a b (omega arith) ∙ sym (ap not (lt-ltb b a (omega arith)))
]

one_at_least : (n : ℕ) → leb 1 n ≡ not (eqb n 0)
one_at_least n = elim (ℕ_discrete n 0) [
  | yes h ↦ lt-leb 1 n (omega arith) ∙ sym (ap not (eq-eqb n 0 h))
  | no h ↦ le-leb 1 n (omega arith) ∙ sym (ap not (ne_eqb n 0 h))
]

-- what is said, and what is said next, by their rows
then_given : (a b : Result ⊤ Refusal) → or_else (in_check a) (in_check b) ≡ in_check (and_then a b)
then_given (Ok _) b = refl
then_given (Err r) b = refl

unless-given : (t : Bool) (k : ℕ) (next : Result ⊤ Refusal) (rows : List Row) → given rows ≡ in_check next
    → given (row k 0 0 (not t) ∷ rows) ≡ in_check (unless t k next)
unfolding given
unless-given true k next rows e = e
unless-given false k next rows e = refl

where_given : (t : Bool) (k : ℕ) (next : Result ⊤ Refusal) (rows : List Row) → given rows ≡ in_check next
    → given (row k 0 0 t ∷ rows) ≡ in_check (unless (not t) k next)
unfolding given
where_given true k next rows e = refl
where_given false k next rows e = e

module _ (f : Form) where
  header_rows_lem : (h : List ℕ) → given (rows_in f h) ≡ in_check (header_answer f h)
  unfolding rows_in header_answer given
  header_rows_lem h = go (eqb (length h % 80) 0 && ltb f.largest (cards_in h))
    where
      go : (t : Bool) → cond t (Some (refusal 3 0 0)) (given (header_rows h)) ≡ in_check (cond t (Err (refusal 3 0 0)) (refusal_of h))
      go true = refl
      go false = header-given h

  headers_rows : (hs : List (List ℕ)) → given (rows_of_all f hs) ≡ in_check (headers_answer f hs)
  unfolding rows_of_all headers_answer given
  headers_rows [] = refl
  headers_rows (h ∷ hs) =
      given-append (rows_in f h) (rows_of_all f hs) ∙ ap₂ or_else (header_rows_lem h) (headers_rows hs) ∙ then_given (header_answer f h) (headers_answer f hs)

  module _ (n : ℕ) where
    cards_rows_lem : (v : List ℕ) → given (cards_rows f n v) ≡ in_check (cards_answer f n v)
    unfolding cards_rows cards_answer parts_answer
    cards_rows_lem v =
        unless-given (points f n (last_card n v)) 18 _ _
        (where_given (mixed f.other (directory_of f n v) (n - first_of f n v)) 18 _ _
        (unless-given (covers f 1 (body_of f n v) (directory_of f n v) (n - first_of f n v)) 19 _ _ (headers_rows (headers_of f n v))))

    -- the three tests of a stated number, each with its row
    stated_rows : (k room : ℕ) (next : Result ⊤ Refusal) (rows : List Row) → given rows ≡ in_check next
        → given (row k 0 0 (eqb n 0) ∷ row k 0 0 (ltb f.most n) ∷ row k 0 0 (ltb room n) ∷ rows) ≡ in_check (unless (stated f n room) k next)
    unfolding stated given
    stated_rows k room next rows e =
        rw (one_at_least n, at_most n f.most, at_most n room) (go (eqb n 0) (ltb f.most n) (ltb room n))
      where
        go : (a b c : Bool)
            → cond a (Some (refusal k 0 0)) (cond b (Some (refusal k 0 0)) (cond c (Some (refusal k 0 0)) (given rows)))
            ≡ in_check (unless (not a && (not b && not c)) k next)
        go true b c = refl
        go false true c = refl
        go false false true = refl
        go false false false = e

    volume_rows_lem : (buffer : List ℕ) → given (volume_rows f n buffer) ≡ in_check (volume_answer f n buffer)
    unfolding volume_rows volume_answer
    volume_rows_lem buffer = stated_rows 18 (cards_in buffer) _ _ (cards_rows_lem (take (80 * n) buffer))

-- the refusal in an answer
abbrev in_counted : Result ℕ Refusal → Option Refusal
in_counted (Ok n) = None
in_counted (Err r) = Some r

abbrev in_found : Result LinePlace Refusal → Option Refusal
in_found (Ok l) = None
in_found (Err r) = Some r

abbrev in_volume : Result ℕ Refusal → Option Refusal
in_volume (Ok n) = None
in_volume (Err r) = Some r

counted_as : (a : Result ℕ Refusal) (r : Refusal) → (a ≡ Err r) ↔ (in_counted a ≡ Some r)
counted_as (Ok n) r = (λ e. absurd (zero_one cc), λ e. absurd (zero_one cc))
counted_as (Err q) r = (λ e. ap in_counted e, λ e. let x : q ≡ r = cc in ap Err x)

lines_as : (a : Result ℕ Refusal) → ((n : ℕ) × (a ≡ Ok n)) ↔ (in_counted a ≡ None)
lines_as (Ok n) = (λ e. refl, λ e. (n, refl))
lines_as (Err q) = (λ e. absurd (let x = e.1 in zero_one cc), λ e. absurd (zero_one cc))

found_as : (a : Result LinePlace Refusal) (r : Refusal) → (a ≡ Err r) ↔ (in_found a ≡ Some r)
found_as (Ok l) r = (λ e. absurd (zero_one cc), λ e. absurd (zero_one cc))
found_as (Err q) r = (λ e. ap in_found e, λ e. let x : q ≡ r = cc in ap Err x)

line_as : (a : Result LinePlace Refusal) → ((first : ℕ) × (number : ℕ) × (entry : ℕ) × (a ≡ Ok (line_place first number entry))) ↔ (in_found a ≡ None)
line_as (Ok l) = (λ x. refl, λ x. (l.first, l.cards, l.entry, refl))
line_as (Err q) = (λ e. absurd (let x = e.3 in zero_one cc), λ e. absurd (zero_one cc))

volume_as : (a : Result ℕ Refusal) (r : Refusal) → (a ≡ Err r) ↔ (in_volume a ≡ Some r)
volume_as (Ok n) r = (λ e. absurd (zero_one cc), λ e. absurd (zero_one cc))
volume_as (Err q) r = (λ e. ap in_volume e, λ e. let x : q ≡ r = cc in ap Err x)

cards_as : (a : Result ℕ Refusal) → ((n : ℕ) × (a ≡ Ok n)) ↔ (in_volume a ≡ None)
cards_as (Ok n) = (λ e. refl, λ e. (n, refl))
cards_as (Err q) = (λ e. absurd (let x = e.1 in zero_one cc), λ e. absurd (zero_one cc))

-- an answer by what was judged before it
by_lines : (a : Result ⊤ Refusal) (k : ℕ) → in_counted (lines_by a k) ≡ in_check a
by_lines (Ok _) k = refl
by_lines (Err r) k = refl

by_found : (a : Result ⊤ Refusal) (x : Result LinePlace Refusal) → in_found (found_by a x) ≡ or_else (in_check a) (in_found x)
by_found (Ok _) x = refl
by_found (Err r) x = refl

by_cards : (a : Result ⊤ Refusal) (k : ℕ) → in_volume (cards_by a k) ≡ in_check a
by_cards (Ok _) k = refl
by_cards (Err r) k = refl

place-given : (hs : List (List ℕ)) (first place : ℕ)
    → in_found (placed hs first place) ≡ given (row 13 0 0 (not (leb 1 place && leb place (length hs))) ∷ [])
unfolding placed given
place-given hs first place = go (leb 1 place && leb place (length hs))
  where
    go : (t : Bool) → in_found (cond t (Ok (line_place (1 + before hs (place - 1)) (cards_in (get_or hs (place - 1) [])) (first + place - 1))) (Err (refusal 13 0 0)))
        ≡ cond (not t) (Some (refusal 13 0 0)) None
    go true = refl
    go false = refl

room-given : (f : Form) (m room : ℕ) → 1 ≤ m
    → given (row 20 0 0 (ltb f.most m) ∷ row 20 0 0 (ltb room m) ∷ []) ≡ in_check (unless (stated f m room) 20 no_refusal)
unfolding given
room-given f m room h =
    let z : eqb m 0 ≡ false = ne_eqb m 0 (λ e. omega arith) in
    sym (ap (λ t. cond t (Some (refusal 20 0 0)) (given (row 20 0 0 (ltb f.most m) ∷ row 20 0 0 (ltb room m) ∷ []))) z)
    ∙ stated_rows f m 20 room no_refusal [] refl

module _ (f : Form) (n : ℕ) (buffer : List ℕ) where
  lines-told : in_counted (lines_of f n buffer) ≡ given (volume_rows f n buffer)
  unfolding lines_of
  lines-told = by_lines (volume_answer f n buffer) _ ∙ sym (volume_rows_lem f n buffer)

  -- how many lines
  pub lines_exactly : Exactly (volume_rows f n buffer) (λ r. lines_of f n buffer ≡ Err r) ((k : ℕ) × (lines_of f n buffer ≡ Ok k))
  lines_exactly = exactly (volume_rows f n buffer) (in_counted (lines_of f n buffer)) lines-told (counted_as (lines_of f n buffer)) (lines_as (lines_of f n buffer))

  line-told : (place : ℕ) → in_found (found_of f n buffer place) ≡ given (line_rows f n buffer place)
  unfolding found_of line_rows
  line-told place =
      let hs : List (List ℕ) = headers_of f n (take (80 * n) buffer) in
      by_found (volume_answer f n buffer) (placed hs (first_of f n (take (80 * n) buffer)) place)
      ∙ ap₂ or_else (sym (volume_rows_lem f n buffer)) (place-given hs (first_of f n (take (80 * n) buffer)) place)
      ∙ sym (given-append (volume_rows f n buffer) (row 13 0 0 (not (leb 1 place && leb place (length hs))) ∷ []))

  -- the line at a place
  pub line_exactly : (place : ℕ)
      → Exactly (line_rows f n buffer place) (λ r. found_of f n buffer place ≡ Err r)
      ((first : ℕ) × (number : ℕ) × (entry : ℕ) × (found_of f n buffer place ≡ Ok (line_place first number entry)))
  line_exactly place =
      exactly (line_rows f n buffer place) (in_found (found_of f n buffer place)) (line-told place) (found_as (found_of f n buffer place)) (line_as (found_of f n buffer place))

  append-told : (h : List ℕ) → in_volume (append_answer f n buffer h) ≡ given (append_rows f n buffer h)
  unfolding append_answer append_checked room_answer append_rows
  append-told h =
      let m : ℕ = n + cards_in h + 1 in
      let last : List Row = row 20 0 0 (ltb f.most m) ∷ row 20 0 0 (ltb (cards_in buffer) m) ∷ [] in
      let next : Result ⊤ Refusal = unless (stated f m (cards_in buffer)) 20 no_refusal in
      by_cards (and_then (volume_answer f n buffer) (and_then (header_answer f h) next)) m
      ∙ sym (then_given (volume_answer f n buffer) (and_then (header_answer f h) next))
      ∙ ap₂ or_else (sym (volume_rows_lem f n buffer))
      (sym (then_given (header_answer f h) next) ∙ ap₂ or_else (sym (header_rows_lem f h)) (sym (room-given f m (cards_in buffer) (omega arith)))
      ∙ sym (given-append (rows_in f h) last))
      ∙ sym (given-append (volume_rows f n buffer) (rows_in f h ++ last))

  -- a header appended
  pub append_exactly : (h : List ℕ)
      → Exactly (append_rows f n buffer h) (λ r. append_answer f n buffer h ≡ Err r) ((m : ℕ) × (append_answer f n buffer h ≡ Ok m))
  append_exactly h =
      exactly (append_rows f n buffer h) (in_volume (append_answer f n buffer h)) (append-told h) (volume_as (append_answer f n buffer h)) (cards_as (append_answer f n buffer h))

-- the empty volume
pub empty_exactly : (buffer : List ℕ)
    → Exactly (empty_rows buffer) (λ r. empty_answer buffer ≡ Err r) ((m : ℕ) × (empty_answer buffer ≡ Ok m))
unfolding empty_answer empty_rows given
empty_exactly buffer = exactly (empty_rows buffer) (in_volume (empty_answer buffer)) (empty-told buffer) (volume_as (empty_answer buffer)) (cards_as (empty_answer buffer))
  where
    by_room : (t : Bool) → in_volume (cond t (Err (refusal 20 0 0)) (Ok 1)) ≡ cond t (Some (refusal 20 0 0)) None
    by_room true = refl
    by_room false = refl

    empty-told : (buffer : List ℕ) → in_volume (empty_answer buffer) ≡ given (empty_rows buffer)
    empty-told b = by_room (eqb (cards_in b) 0)

-- a number on a directory card or trailer is spelled as a field's number without places is
pub spelled_as : (w n : ℕ) → size n ≤ w → units_in w false 0 n ≡ Some (spelled w n)
unfolding units_in number_spelled plain sign right_adjusted spelled
spelled_as w n h =
    let k : max (size n) 1 - 0 ≡ size n = omega (arith, size-some 19 n) in
    rw (k, digits-length (size n) n, le-leb (size n) w h)

two_tests : (a b : Bool) → given (row 21 0 0 a ∷ row 21 0 0 (not b) ∷ []) ≡ in_check (unless (not a && b) 21 no_refusal)
unfolding given
two_tests true b = refl
two_tests false true = refl
two_tests false false = refl

held-given : (g : Form) (n : ℕ) (hs : List (List ℕ))
    → given (row 21 0 0 (ltb g.most n) ∷ row 21 0 0 (not (few g.largest hs)) ∷ []) ≡ in_check (unless (holds g n hs) 21 no_refusal)
unfolding holds
held-given g n hs = rw (at_most n g.most) (two_tests (ltb g.most n) (few g.largest hs))

module _ (f : Form) (n : ℕ) (buffer : List ℕ) where
  compact_told : in_volume (compact_answer f n buffer) ≡ given (volume_rows f n buffer)
  unfolding compact_answer
  compact_told = by_cards (volume_answer f n buffer) _ ∙ sym (volume_rows_lem f n buffer)

  -- a volume compacted
  pub compact_exactly : Exactly (volume_rows f n buffer) (λ r. compact_answer f n buffer ≡ Err r) ((m : ℕ) × (compact_answer f n buffer ≡ Ok m))
  compact_exactly =
      exactly (volume_rows f n buffer) (in_volume (compact_answer f n buffer)) compact_told (volume_as (compact_answer f n buffer)) (cards_as (compact_answer f n buffer))

  convert_told : (g : Form) → in_volume (convert_answer f g n buffer) ≡ given (convert_rows f g n buffer)
  unfolding convert_answer convert_checked convert_rows
  convert_told g =
      let hs : List (List ℕ) = headers_of f n (take (80 * n) buffer) in
      let next : Result ⊤ Refusal = unless (holds g n hs) 21 no_refusal in
      by_cards (and_then (volume_answer f n buffer) next) n
      ∙ sym (then_given (volume_answer f n buffer) next)
      ∙ ap₂ or_else (sym (volume_rows_lem f n buffer)) (sym (held-given g n hs))
      ∙ sym (given-append (volume_rows f n buffer) (row 21 0 0 (ltb g.most n) ∷ row 21 0 0 (not (few g.largest hs)) ∷ []))

  -- a volume brought into a form
  pub convert_exactly : (g : Form)
      → Exactly (convert_rows f g n buffer) (λ r. convert_answer f g n buffer ≡ Err r) ((m : ℕ) × (convert_answer f g n buffer ≡ Ok m))
  convert_exactly g =
      exactly (convert_rows f g n buffer) (in_volume (convert_answer f g n buffer)) (convert_told g) (volume_as (convert_answer f g n buffer)) (cards_as (convert_answer f g n buffer))
