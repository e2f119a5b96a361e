-- Lines of an accepted volume: how many there are, what the directory tells of each, and where it stands.
use Prim.Native.Nat.{ℕ, ◌+◌, ◌-◌, ◌*◌, ◌/◌, ◌^◌, ◌≤◌, ◌<◌}
use native.Mathlib.Omega.{arith}
use mathlib.Core.Path.{◌≡◌, refl, sym, ap, ap₂, ◌∙◌}
use mathlib.Core.Bool.{Bool, true, false, cond, ◌&&◌}
use mathlib.Core.List.{List, [], ◌∷◌, ◌++◌, append_assoc}
use lib.Dec.{leb}
use lib.ListN.{length, take, drop, get_or, length-drop, take-append-drop}
use lib.Seq.{take-append-le, drop-append-le}
use borrow.Author.Tests.{leb-true, le-leb, lt-leb}
use Rattle.base_digits.proofs.digits.Bools.{and_left, and_right}
use Rattle.base_refusal.specs.declared.Refusal.{Refusal}
use Rattle.base_refusal.specs.Refusals.{refusal, no_refusal}
use Rattle.header_check.specs.forms.Cards.{cards_in}
use Rattle.volume_form.specs.Rows.{Row}
use Rattle.volume_form.specs.Marked.{name_of, sequence_of, trailer_card, count_on, start_on}
use Rattle.volume_form.proofs.Cards.{Good, start_entry, count-entry}
use Rattle.volume_rules.specs.Volume.{joined, before, directory, volume_of, Wholes}
use Rattle.volume_rules.specs.Sound.{first_of, directory_of, headers_of}
use Rattle.volume_rules.specs.Judged.{volume_answer, Holds}
use Rattle.volume_rules.proofs.Promises.{total}
use Rattle.volume_rules.proofs.Covering.{back}
use Rattle.volume_rules.proofs.Exactly.{directory-is}
use Rattle.volume_rules.proofs.Judging.{Sounds, sounds, accepted_volume, taken_wholes}
use Rattle.volume_rules.proofs.Lines.{line-part, line-whole, line-within, entry_at, headers_number}
use Rattle.volume_check.proofs.judging.Headers.{part_long}
use Rattle.volume_check.specs.Answers.{lines_of, found_by, placed, found_of, part_of, line_of}
use Rattle.volume_check.specs.Steps.{told_at, inside, Trailed}
use Rattle.std.specs.Prelude.{Result, Ok, Err, ⊤}
use Rattle.volume_check.specs.declared.LinePlace.{LinePlace}
use Rattle.volume_check.specs.Lines.{line_place}

module _ (f : Row) (good : Good f) (n : ℕ) (buffer : List ℕ) (accepted : volume_answer f n buffer ≡ no_refusal) where
  abbrev v : List ℕ
  v = take (80 * n) buffer

  abbrev hs : List (List ℕ)
  hs = headers_of f n v

  known : Sounds f good n buffer
  known = sounds f good n buffer accepted

  is : Holds f n buffer hs
  is = accepted_volume f good n buffer accepted

  ws : Wholes hs
  ws = taken_wholes f hs is.accepted

  fits : total hs < 10 ^ f.width
  fits = omega (arith, is.cards, is.few, good.roomy)

  -- its cards, its trailer, the buffer
  pub trailed : Trailed f n v
  trailed = record {
    cards = record { some = known.stated_well.some; whole = known.long };
    few = is.few;
    trailer = known.points_well;
  }

  pub held : 80 * n ≤ length buffer
  unfolding cards_in
  held = let h : n ≤ length buffer / 80 = known.stated_well.held in omega arith

  -- as many lines as directory cards
  pub count-is : length hs ≡ n - first_of f n v
  unfolding headers_of
  count-is = headers_number f _ _ (n - first_of f n v)

  there : directory_of f n v ≡ directory f 1 hs
  there = ap₂ (λ k l. directory_of f k l) is.cards is.bytes ∙ directory-is f good hs ws fits

  directory_long : length (directory_of f n v) ≡ 80 * length hs
  directory_long = ap length there ∙ (back f good 1 hs ws (omega (arith, fits))).long

  -- what a directory card tells is where the line stands
  pub told-placed : (d : List ℕ) → d ≡ directory_of f n v → (first place : ℕ) → told_at f d first place ≡ placed hs first place
  unfolding told_at placed
  told-placed d e first place =
      ap (λ l. told_at f l first place) e
      ∙ ap (λ k. cond (leb 1 place && leb place k) (Ok (line_place (start_on f card) (count_on f card) (first + place - 1))) (Err (refusal 13 0 0))) k_is
      ∙ go (leb 1 place && leb place (length hs)) refl
    where
      card : List ℕ
      card = take 80 (drop (80 * (place - 1)) (directory_of f n v))

      k_is : length (directory_of f n v) / 80 ≡ length hs
      k_is = omega (arith, directory_long)

      go : (t : Bool) → (leb 1 place && leb place (length hs)) ≡ t
          → cond t (Ok (line_place (start_on f card) (count_on f card) (first + place - 1))) (Err (refusal 13 0 0))
          ≡ cond t (Ok (line_place (1 + before hs (place - 1)) (cards_in (get_or hs (place - 1) [])) (first + place - 1))) (Err (refusal 13 0 0))
      go false q = refl
      go true q =
          let a : 1 ≤ place = leb-true 1 place (and_left (leb 1 place) _ q) in
          let b : place ≤ length hs = leb-true place (length hs) (and_right (leb 1 place) _ q) in
          let p : place - 1 < length hs = omega arith in
          let w = line-whole hs (place - 1) ws p in
          let l = line-within hs (place - 1) ws p in
          let c = ap (λ m. take 80 (drop (80 * (place - 1)) m)) there ∙ entry_at f good 1 hs (place - 1) ws (omega (arith, fits)) p in
          let x : 1 + before hs (place - 1) < 10 ^ f.width = omega (arith, l, fits) in
          let y : cards_in (get_or hs (place - 1) []) < 10 ^ f.width = omega (arith, l, fits) in
          let z : 80 ≤ length (get_or hs (place - 1) []) = omega (arith, w.some, w.whole) in
          ap₂ (λ i j. Ok (line_place i j (first + place - 1)))
          (ap (start_on f) c ∙ start_entry f good _ _ x y (get_or hs (place - 1) []) z)
          (ap (count_on f) c ∙ count-entry f good _ _ x y (get_or hs (place - 1) []) z)

  behind : List ℕ
  behind = (directory f 1 hs ++ trailer_card f (1 + cards_in (joined hs)) (length hs)) ++ drop (80 * n) buffer

  whole_buffer : buffer ≡ joined hs ++ behind
  unfolding volume_of behind
  whole_buffer = sym (take-append-drop (80 * n) buffer) ∙ ap (λ l. l ++ drop (80 * n) buffer) is.bytes ∙ append_assoc (joined hs) _ _

  joined_long : length (joined hs) ≡ 80 * cards_in (joined hs)
  joined_long = (back f good 1 hs ws (omega (arith, fits))).whole

  module _ (p : ℕ) (there-is : p < length hs) where
    abbrev h : List ℕ
    h = get_or hs p []

    within : before hs p + cards_in h ≤ cards_in (joined hs)
    within = line-within hs p ws there-is

    -- the line's cards are the header, byte for byte
    line-cards : take (80 * cards_in h) (drop (80 * (1 + before hs p - 1)) buffer) ≡ h
    line-cards =
        let e : 80 * (1 + before hs p - 1) ≡ 80 * before hs p = omega arith in
        let l : length (drop (80 * before hs p) (joined hs)) ≡ length (joined hs) - 80 * before hs p = length-drop (80 * before hs p) (joined hs) in
        ap₂ (λ k b. take (80 * cards_in h) (drop k b)) e whole_buffer
        ∙ ap (take (80 * cards_in h)) (drop-append-le (80 * before hs p) (joined hs) behind (omega (arith, within, joined_long)))
        ∙ take-append-le (80 * cards_in h) (drop (80 * before hs p) (joined hs)) behind (omega (arith, within, joined_long, l))
        ∙ line-part hs p ws there-is

    line-ends : 80 * (1 + before hs p - 1) + 80 * cards_in h ≤ length buffer
    line-ends = omega (arith, within, is.cards, held)

  -- what is told of a place lies in the buffer, and is the header there
  pub placed-inside : (first place : ℕ) → inside (placed hs first place) (length buffer) ≡ true
  unfolding placed
  placed-inside first place = go (leb 1 place && leb place (length hs)) refl
    where
      go : (t : Bool) → (leb 1 place && leb place (length hs)) ≡ t
          → inside (cond t (Ok (line_place (1 + before hs (place - 1)) (cards_in (get_or hs (place - 1) [])) (first + place - 1))) (Err (refusal 13 0 0))) (length buffer) ≡ true
      go false q = refl
      go true q =
          let a : 1 ≤ place = leb-true 1 place (and_left (leb 1 place) _ q) in
          let b : place ≤ length hs = leb-true place (length hs) (and_right (leb 1 place) _ q) in
          rw (le-leb 1 (1 + before hs (place - 1)) (omega arith)) (le-leb _ _ (line-ends (place - 1) (omega arith)))

  pub placed-part : (first place : ℕ) → part_of (placed hs first place) buffer ≡ cond (leb 1 place && leb place (length hs)) (get_or hs (place - 1) []) []
  unfolding placed
  placed-part first place = go (leb 1 place && leb place (length hs)) refl
    where
      go : (t : Bool) → (leb 1 place && leb place (length hs)) ≡ t
          → part_of (cond t (Ok (line_place (1 + before hs (place - 1)) (cards_in (get_or hs (place - 1) [])) (first + place - 1))) (Err (refusal 13 0 0))) buffer
          ≡ cond t (get_or hs (place - 1) []) []
      go false q = refl
      go true q =
          let a : 1 ≤ place = leb-true 1 place (and_left (leb 1 place) _ q) in
          let b : place ≤ length hs = leb-true place (length hs) (and_right (leb 1 place) _ q) in
          line-cards (place - 1) (omega arith)

  -- the line at a place is the header there; behind the last there is none
  pub line-is : (place : ℕ) → line_of f n buffer place ≡ cond (leb 1 place && leb place (length hs)) (get_or hs (place - 1) []) []
  unfolding line_of found_of
  line-is place = rw accepted (placed-part (first_of f n v) place)

  line_long : (place : ℕ) → (length (line_of f n buffer place) ≡ 0 → ⊥) → 80 ≤ length (line_of f n buffer place)
  line_long place = rw (line-is place) (go (leb 1 place && leb place (length hs)) refl)
    where
      go : (t : Bool) → (leb 1 place && leb place (length hs)) ≡ t
          → (length (cond t (get_or hs (place - 1) []) []) ≡ 0 → ⊥) → 80 ≤ length (cond t (get_or hs (place - 1) []) [])
      go false q z = absurd (z refl)
      go true q z =
          let a : 1 ≤ place = leb-true 1 place (and_left (leb 1 place) _ q) in
          let b : place ≤ length hs = leb-true place (length hs) (and_right (leb 1 place) _ q) in
          let w = line-whole hs (place - 1) ws (omega arith) in
          omega (arith, w.some, w.whole)

module _ (f : Row) (good : Good f) (n : ℕ) (buffer : List ℕ) (place : ℕ) where
  -- what is found lies in the buffer
  pub found_inside : inside (found_of f n buffer place) (length buffer) ≡ true
  unfolding found_of
  found_inside = go (volume_answer f n buffer) refl
    where
      go : (a : Result ⊤ Refusal) → volume_answer f n buffer ≡ a
          → inside (found_by a (placed (headers_of f n (take (80 * n) buffer)) (first_of f n (take (80 * n) buffer)) place)) (length buffer) ≡ true
      go (Ok _) e = placed-inside f good n buffer e (first_of f n (take (80 * n) buffer)) place
      go (Err r) e = refl

  refused-line : (r : Refusal) → volume_answer f n buffer ≡ Err r → line_of f n buffer place ≡ []
  unfolding line_of found_of
  refused-line r e = rw e

  -- and has a card at least where it is not empty
  pub some-line : (length (line_of f n buffer place) ≡ 0 → ⊥) → 80 ≤ length (line_of f n buffer place)
  some-line = go (volume_answer f n buffer) refl
    where
      go : (a : Result ⊤ Refusal) → volume_answer f n buffer ≡ a → (length (line_of f n buffer place) ≡ 0 → ⊥) → 80 ≤ length (line_of f n buffer place)
      go (Ok _) e z = line_long f good n buffer e place z
      go (Err r) e z = absurd (z (ap length (refused-line r e)))

  -- of a part that is the line
  pub some-there : (l : List ℕ) → l ≡ line_of f n buffer place → (length l ≡ 0 → ⊥) → 80 ≤ length l
  some-there l e z = rw e (some-line (λ q. z (ap length e ∙ q)))

-- an empty line has no name and no sequence number
pub none_name : (l : List ℕ) → length l ≡ 0 → l ≡ name_of l
unfolding name_of
none_name [] e = refl
none_name (x ∷ l) e = absurd (omega arith)

pub none_sequence : (l : List ℕ) → length l ≡ 0 → l ≡ sequence_of l
unfolding sequence_of
none_sequence [] e = refl
none_sequence (x ∷ l) e = absurd (omega arith)

-- an answer that tells cards inside the volume
pub line-inside : (x : Result LinePlace Refusal) (a k e n : ℕ) → x ≡ Ok (line_place a k e) → inside x n ≡ true → (1 ≤ a) × (80 * (a - 1) + 80 * k ≤ n)
line-inside x a k e n q h =
    let r : (leb 1 a && leb (80 * (a - 1) + 80 * k) n) ≡ true = sym (ap (λ y. inside y n) q) ∙ h in
    (leb-true 1 a (and_left (leb 1 a) _ r), leb-true (80 * (a - 1) + 80 * k) n (and_right (leb 1 a) _ r))

-- what a directory tells at a place, by the tests of the place
module _ (f : Row) (d : List ℕ) (first place : ℕ) where
  pub told-zero : place ≡ 0 → Err (refusal 13 0 0) ≡ told_at f d first place
  unfolding told_at
  told-zero e = rw e

  pub told_past : (place ≡ 0 → ⊥) → length d / 80 < place → Err (refusal 13 0 0) ≡ told_at f d first place
  unfolding told_at
  told_past z h = rw (le-leb 1 place (omega arith), lt-leb place (length d / 80) h)

  pub told-there : (place ≡ 0 → ⊥) → place ≤ length d / 80 → (s k : ℕ)
      → s ≡ start_on f (take (80 * (place - 1) + 80 - 80 * (place - 1)) (drop (80 * (place - 1)) d))
      → k ≡ count_on f (take (80 * (place - 1) + 80 - 80 * (place - 1)) (drop (80 * (place - 1)) d))
      → Ok (line_place s k (first + place - 1)) ≡ told_at f d first place
  unfolding told_at
  told-there z h s k p q =
      let e = part_long (80 * (place - 1)) 80 d in
      rw (le-leb 1 place (omega arith), le-leb place (length d / 80) h)
      (ap₂ (λ i j. Ok (line_place i j (first + place - 1))) (p ∙ ap (start_on f) e) (q ∙ ap (count_on f) e))

-- the answers, by what was judged
module _ (f : Row) (n : ℕ) (buffer : List ℕ) where
  pub lines-counted : volume_answer f n buffer ≡ no_refusal → (k : ℕ) → k ≡ length (headers_of f n (take (80 * n) buffer))
      → Ok k ≡ lines_of f n buffer
  unfolding lines_of
  lines-counted a k e = rw a (ap Ok e)

  pub lines-refused : (r : Refusal) → volume_answer f n buffer ≡ Err r → Err r ≡ lines_of f n buffer
  unfolding lines_of
  lines-refused r a = rw a

  module _ (place : ℕ) where
    pub found-placed : volume_answer f n buffer ≡ no_refusal → (x : Result LinePlace Refusal)
        → x ≡ placed (headers_of f n (take (80 * n) buffer)) (first_of f n (take (80 * n) buffer)) place → x ≡ found_of f n buffer place
    unfolding found_of
    found-placed a x e = rw a e

    pub found-refused : (r : Refusal) → volume_answer f n buffer ≡ Err r → Err r ≡ found_of f n buffer place
    unfolding found_of
    found-refused r a = rw a
