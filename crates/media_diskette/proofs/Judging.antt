-- What each step of judging knows: of cards, card by card; of a file, byte by byte.
use Prim.Native.Nat.{ℕ, suc, ◌+◌, ◌*◌, ◌/◌, ◌%◌, ◌≤◌, ◌<◌}
use native.Mathlib.Numerals.{add-one}
use native.Mathlib.Omega.{arith}
use mathlib.Core.Path.{◌≡◌, refl, sym, ap, ap₂, ◌∙◌}
use mathlib.Core.List.{List, [], ◌∷◌, ◌++◌}
use mathlib.Core.Bool.{Bool, true, false, true≢false, cond, ◌&&◌, ◌||◌, not}
use lib.ListN.{length, get_or, drop, drop_of_length-le, length-append, get_or-eq_default}
use lib.Seq.{drop-cons, drop-drop, get_or-drop, length-take-le, take_at, drop_at}
use lib.Dec.{eqb, ltb, leb}
use borrow.Author.Tests.{eq-eqb, ne_eqb, eqb-true, eqb-false, lt-ltb, le-ltb, ltb-false, le-leb, leb-true}
use native.Mathlib.Decide.{dec_lt, dec_le}
use Rattle.base_digits.proofs.digits.Bools.{and_left, and_right}
use Rattle.base_refusal.specs.declared.Refusal.{Refusal}
use Rattle.base_refusal.specs.Refusals.{refusal}
use Rattle.value_text.specs.printable.Bytes.{first_bad}
use Rattle.value_text.specs.text.Texts.{text_end, text_of}
use Rattle.value_text.proofs.text.Agreed.{end_le}
use Rattle.media_diskette.specs.Lines.{line_of, lines_of, disk_of, onto, lines_in}
use Rattle.media_diskette.specs.Answers.{refused_by, in_room, output_by, bad_byte, offence_of, offence, sized, cards_judged, file_judged}
use Rattle.std.specs.Prelude.{Result, Ok, Err, Option, None, Some}

-- an answer, and the room for it
pub no_room : (room n : ℕ) → room < n → in_room room (Ok n) ≡ Err (refusal 17 0 0)
no_room room n h = rw (lt-ltb room n h)

pub room_for : (room n : ℕ) → n ≤ room → in_room room (Ok n) ≡ Ok n
room_for room n h = rw (le-ltb room n h)

-- CARDS

-- a line is its text and two bytes more
pub line-size : (card : List ℕ) → length (line_of card) ≡ text_end card + 2
unfolding line_of text_of
line-size card = rw (length-append, length-take-le (text_end card) card (end_le card))

-- the answer for n cards that are left, behind c others whose lines take `size` bytes
unfoldable pub measured : ℕ → ℕ → ℕ → List ℕ → Result ℕ Refusal
measured c n size h = refused_by (bad_byte c n h) (Ok (size + length (lines_of n h)))

pub measured_begins : (n : ℕ) (h : List ℕ) → refused_by (bad_byte 0 n h) (Ok (length (lines_of n h))) ≡ measured 0 n 0 h
unfolding measured
measured_begins n h = ap (λ m. refused_by (bad_byte 0 n h) (Ok m)) (omega arith)

pub measured_over : (h : List ℕ) (c size : ℕ) → length h < 80 → Ok size ≡ measured c (length h / 80) size h
unfolding measured bad_byte lines_of
measured_over h c size l =
    let z : length h / 80 ≡ 0 = omega arith in
    rw z (ap Ok (omega arith))

-- a card in front of others
module _ (card h : List ℕ) (long : length card ≡ 80) (c size : ℕ) where
  pub one_more : length (card ++ h) / 80 ≡ suc (length h / 80)
  one_more = omega (arith, length-append card h)

  pub card_bad : (bad : ℕ) → bad ≡ first_bad card → bad < 80
      → Err (refusal 4 (c + 1) (bad + 1)) ≡ measured c (length (card ++ h) / 80) size (card ++ h)
  unfolding measured bad_byte
  card_bad bad e l = rw (one_more, take_at card h 80 long, ← e, lt-ltb bad 80 l) refl

  pub card_good : (bad end : ℕ) → bad ≡ first_bad card → 80 ≤ bad → end ≡ text_end card
      → measured c (length (card ++ h) / 80) size (card ++ h) ≡ measured (c + 1) (length h / 80) (size + (end + 2)) h
  unfolding measured bad_byte lines_of
  card_good bad end e l t =
      rw (one_more, take_at card h 80 long, drop_at card h 80 long, ← e, le-ltb bad 80 l)
      (ap (λ m. refused_by (bad_byte (c + 1) (length h / 80) h) (Ok m)) (rw (length-append, line-size card, ← t) (omega arith)))

-- the answer to 1 to 800 whole cards
pub cards-few : (h : List ℕ) → (length h ≡ 0 → ⊥) → length h % 80 ≡ 0 → length h / 80 ≤ 800
    → cards_judged h ≡ refused_by (bad_byte 0 (length h / 80) h) (Ok (length (lines_of (length h / 80) h)))
unfolding cards_judged disk_of
cards-few h filled whole e = rw (ne_eqb (length h) 0 filled, eq-eqb (length h % 80) 0 whole, le-ltb 800 (length h / 80) e)

-- an answer that is a length, and its room
pub in_room_lem : (room n : ℕ) (a : Result ℕ Refusal) → in_room room a ≡ Ok n → (a ≡ Ok n) × (n ≤ room)
in_room_lem room n (Ok m) e = go (ltb room m) refl e
  where
    go : (t : Bool) → ltb room m ≡ t → cond t (Err (refusal 17 0 0)) (Ok m) ≡ Ok n → (◌≡◌ {A = Result ℕ Refusal} (Ok m) (Ok n)) × (n ≤ room)
    go true q z = absurd (let o : ◌≡◌ {A = ℕ} 0 1 = cc in omega arith)
    go false q z = let o : m ≡ n = cc in (z, omega (arith, ltb-false room m q))
in_room_lem room n (Err r) e = absurd (let o : ◌≡◌ {A = ℕ} 0 1 = cc in omega arith)

-- a length that is told behind a refusal: there is none
pub none-refused : (o : Option Refusal) (a : Result ℕ Refusal) (n : ℕ) → refused_by o a ≡ Ok n → (o ≡ None) × (a ≡ Ok n)
none-refused None a n e = (refl, e)
none-refused (Some r) a n e = absurd (let o : ◌≡◌ {A = ℕ} 0 1 = cc in omega arith)

-- a file that is not empty
pub file_some : (f : List ℕ) → (length f ≡ 0 → ⊥) → file_judged f ≡ refused_by (offence 0 0 f) (sized (length (lines_in f)))
unfolding file_judged
file_some f e = rw (ne_eqb (length f) 0 e)

-- what an accepted header, and an accepted file, is known to be
pub record CardsFine (h : List ℕ) (n : ℕ) : Type 0 where
  pub some : length h ≡ 0 → ⊥
  pub whole : length h % 80 ≡ 0
  pub few : length h / 80 ≤ 800
  pub good : bad_byte 0 (length h / 80) h ≡ None
  pub size : length (disk_of h) ≡ n

pub cards_fine : (h : List ℕ) (n : ℕ) → cards_judged h ≡ Ok n → CardsFine h n
unfolding cards_judged
cards_fine h n e = go (eqb (length h) 0) (eqb (length h % 80) 0) (ltb 800 (length h / 80)) refl refl refl e
  where
    go : (a b c : Bool) → eqb (length h) 0 ≡ a → eqb (length h % 80) 0 ≡ b → ltb 800 (length h / 80) ≡ c
        → cond a (Err (refusal 1 0 0)) (cond (not b) (Err (refusal 2 0 0)) (cond c (Err (refusal 3 0 0))
        (refused_by (bad_byte 0 (length h / 80) h) (Ok (length (disk_of h)))))) ≡ Ok n
        → CardsFine h n
    go true b c p q r z = absurd (let o : ◌≡◌ {A = ℕ} 0 1 = cc in omega arith)
    go false false c p q r z = absurd (let o : ◌≡◌ {A = ℕ} 0 1 = cc in omega arith)
    go false true true p q r z = absurd (let o : ◌≡◌ {A = ℕ} 0 1 = cc in omega arith)
    go false true false p q r z =
        let w = none-refused (bad_byte 0 (length h / 80) h) (Ok (length (disk_of h))) n z in
        let l : ◌≡◌ {A = Result ℕ Refusal} (Ok (length (disk_of h))) (Ok n) = w.1 in
        record {
          some = eqb-false (length h) 0 p;
          whole = eqb-true (length h % 80) 0 q;
          few = ltb-false 800 (length h / 80) r;
          good = w.0;
          size = cc;
        }

pub record FileFine (f : List ℕ) (n : ℕ) : Type 0 where
  pub some : length f ≡ 0 → ⊥
  pub good : offence 0 0 f ≡ None
  pub few : length (lines_in f) ≤ 800
  pub size : length (lines_in f) * 80 ≡ n

pub file_fine : (f : List ℕ) (n : ℕ) → file_judged f ≡ Ok n → FileFine f n
unfolding file_judged sized
file_fine f n e = go (eqb (length f) 0) refl e
  where
    few : (c : Bool) → ltb 800 (length (lines_in f)) ≡ c → cond c (Err (refusal 3 0 0)) (Ok (length (lines_in f) * 80)) ≡ Ok n
        → (length (lines_in f) ≤ 800) × (length (lines_in f) * 80 ≡ n)
    few true q z = absurd (let o : ◌≡◌ {A = ℕ} 0 1 = cc in omega arith)
    few false q z = (ltb-false 800 (length (lines_in f)) q, cc)

    go : (a : Bool) → eqb (length f) 0 ≡ a
        → cond a (Err (refusal 1 0 0)) (refused_by (offence 0 0 f) (sized (length (lines_in f)))) ≡ Ok n → FileFine f n
    go true p z = absurd (let o : ◌≡◌ {A = ℕ} 0 1 = cc in omega arith)
    go false p z =
        let w = none-refused (offence 0 0 f) (sized (length (lines_in f))) n z in
        let l = few (ltb 800 (length (lines_in f))) refl w.1 in
        record { some = eqb-false (length f) 0 p; good = w.0; few = l.0; size = l.1 }

-- what a conversion does with an answer a that it was told of the judged input k
module _ (out : List ℕ) (a j k : Result ℕ Refusal) (q : a ≡ in_room (length out) j) (e : j ≡ k) where
  asked : a ≡ in_room (length out) k
  asked = q ∙ ap (in_room (length out)) e

  pub known : (n : ℕ) → a ≡ Ok n → (k ≡ Ok n) × (n ≤ length out)
  known n s = in_room_lem (length out) n k (sym asked ∙ s)

  pub written : (last text : List ℕ) (n m : ℕ) → a ≡ Ok n → last ≡ text ++ drop m out → m ≡ n
      → (Ok n ≡ in_room (length out) k) × (last ≡ output_by (in_room (length out) k) text out)
  written last text n m s l w =
      (sym s ∙ asked, l ∙ ap (λ x. text ++ drop x out) w ∙ ap (λ (x : Result ℕ Refusal). output_by x text out) (sym s ∙ asked))

  pub left_alone : (text : List ℕ) (r : Refusal) → a ≡ Err r
      → (Err r ≡ in_room (length out) k) × (out ≡ output_by (in_room (length out) k) text out)
  left_alone text r s = (sym s ∙ asked, ap (λ (x : Result ℕ Refusal). output_by x text out) (sym s ∙ asked))

-- A FILE, BYTE BY BYTE

-- what is known of a byte that is no offence
pub record PlainByte (b k : ℕ) : Type 0 where
  pub not-cr : eqb b 13 ≡ false
  pub not-lf : eqb b 10 ≡ false
  pub from : ltb b 32 ≡ false
  pub to : ltb 126 b ≡ false
  pub within : ltb k 80 ≡ true

pub plain_byte : (b k : ℕ) → offence_of b k ≡ 0 → PlainByte b k
unfolding offence_of
plain_byte b k e = go (eqb b 13) (eqb b 10) (ltb b 32) (ltb 126 b) (ltb k 80) refl refl refl refl refl e
  where
    go : (p q r s t : Bool) → eqb b 13 ≡ p → eqb b 10 ≡ q → ltb b 32 ≡ r → ltb 126 b ≡ s → ltb k 80 ≡ t
        → ◌≡◌ {A = ℕ} (cond (p || q) 16 (cond (r || s) 4 (cond t 0 15))) 0 → PlainByte b k
    go true q r s t a b' c d f z = absurd (omega (arith, z))
    go false true r s t a b' c d f z = absurd (omega (arith, z))
    go false false true s t a b' c d f z = absurd (omega (arith, z))
    go false false false true t a b' c d f z = absurd (omega (arith, z))
    go false false false false false a b' c d f z = absurd (omega (arith, z))
    go false false false false true a b' c d f z = record { not-cr = a; not-lf = b'; from = c; to = d; within = f }

-- a byte that is printable is no part of a line end
pub good_byte : (b : ℕ) → (leb 32 b && leb b 126) ≡ true → ((eqb b 13 || eqb b 10) ≡ false) × ((ltb b 32 || ltb 126 b) ≡ false)
good_byte b t =
    let from : 32 ≤ b = leb-true 32 b (and_left (leb 32 b) (leb b 126) t) in
    let to : b ≤ 126 = leb-true b 126 (and_right (leb 32 b) (leb b 126) t) in
    (rw (ne_eqb b 13 (λ e. omega arith), ne_eqb b 10 (λ e. omega arith)), rw (le-ltb b 32 from, le-ltb 126 b to))

-- one that is not printable stands on one side
pub bad-byte : (b : ℕ) → (leb 32 b && leb b 126) ≡ false → (ltb b 32 || ltb 126 b) ≡ true
bad-byte b t = elim (dec_le 32 b) [
  | yes from ↦
      elim (dec_le b 126) [
        | yes to ↦ absurd (true≢false (rw (le-leb 32 b from, le-leb b 126 to) at t))
        | no to ↦ rw (le-ltb b 32 from, lt-ltb 126 b (omega arith))
      ]
  | no from ↦ rw (lt-ltb b 32 (omega arith))
]

pub onto-length : (b : ℕ) (ls : List (List ℕ)) → length (onto b ls) ≡ length ls
onto-length b [] = refl
onto-length b (l ∷ ls) = refl

-- a byte that is no offence goes to its line
pub lines-plain : (b k : ℕ) (s : List ℕ) → offence_of b k ≡ 0 → lines_in (b ∷ s) ≡ onto b (lines_in s)
unfolding lines_in
lines-plain b k s e = let p = plain_byte b k e in rw (p.not-cr, p.not-lf)

pub offence_on : (lines k b : ℕ) (s : List ℕ) → offence_of b k ≡ 0 → offence lines k (b ∷ s) ≡ offence lines (k + 1) s
unfolding offence
offence_on lines k b [] e = rw e
offence_on lines k b (x ∷ s) e = let p = plain_byte b k e in rw (p.not-cr, e)

-- the answer for what is left of a file
unfoldable pub counted : ℕ → ℕ → List ℕ → Result ℕ Refusal
counted lines k s = refused_by (offence lines k s) (sized (lines + length (lines_in s)))

counted_end : (lines k b : ℕ) (s : List ℕ) → b ≡ 13 → get_or s 0 0 ≡ 10 → counted lines k (b ∷ s) ≡ counted (lines + 1) 0 (drop 1 s)
unfolding counted offence lines_in
counted_end lines k b [] e q = absurd (omega (arith, q))
counted_end lines k b (x ∷ s) e q =
    rw (e, q) (ap (λ m. refused_by (offence (lines + 1) 0 s) (sized m)) (omega arith))

counted_stop : (lines k b number : ℕ) (s : List ℕ) → (eqb b 13 && eqb (get_or s 0 0) 10) ≡ false
    → number ≡ offence_of b k → (number ≡ 0 → ⊥) → Err (refusal number (lines + 1) (k + 1)) ≡ counted lines k (b ∷ s)
unfolding counted offence
counted_stop lines k b number [] t e h = rw (← e, ne_eqb number 0 h)
counted_stop lines k b number (x ∷ s) t e h = rw (t, ← e, ne_eqb number 0 h)

counted_on : (lines k b : ℕ) (s : List ℕ) → offence_of b k ≡ 0 → counted lines k (b ∷ s) ≡ counted lines (k + 1) s
unfolding counted
counted_on lines k b s e =
    ap₂ (λ o m. refused_by o (sized (lines + m))) (offence_on lines k b s e) (ap length (lines-plain b k s e) ∙ onto-length b (lines_in s))

module _ (f : List ℕ) (lines k i : ℕ) (h : i < length f) where
  here : drop i f ≡ get_or f i 0 ∷ drop (i + 1) f
  here = rw add-one (drop-cons f i 0 h)

  next : get_or (drop (i + 1) f) 0 0 ≡ get_or f (i + 1) 0
  next = get_or-drop (i + 1) f 0 0 ∙ ap (λ n. get_or f n 0) (omega arith)

  -- CR LF ends a line
  module _ (x : ℕ) (is : x ≡ get_or f (i + 1) 0) (t : (eqb (get_or f i 0) 13 && eqb x 10) ≡ true) where
    pub end_within : i + 1 < length f
    end_within = elim (dec_lt (i + 1) (length f)) [
      | yes l ↦ l
      | no l ↦
          let z : get_or f (i + 1) 0 ≡ 0 = get_or-eq_default f 0 (omega arith) in
          absurd (omega (arith, z, is, eqb-true x 10 (and_right (eqb (get_or f i 0) 13) (eqb x 10) t)))
    ]

    pub step_end : counted lines k (drop i f) ≡ counted (lines + 1) 0 (drop (i + 2) f)
    step_end =
        let two : i + 1 + 1 ≡ i + 2 = omega arith in
        ap (counted lines k) here
        ∙ counted_end lines k (get_or f i 0) (drop (i + 1) f) (eqb-true (get_or f i 0) 13 (and_left (eqb (get_or f i 0) 13) (eqb x 10) t))
        (next ∙ sym is ∙ eqb-true x 10 (and_right (eqb (get_or f i 0) 13) (eqb x 10) t))
        ∙ ap (counted (lines + 1) 0) (drop-drop 1 (i + 1) f ∙ ap (λ n. drop n f) two)

  pub step_stop : (x number : ℕ) → x ≡ get_or f (i + 1) 0 → (eqb (get_or f i 0) 13 && eqb x 10) ≡ false
      → number ≡ offence_of (get_or f i 0) k → (number ≡ 0 → ⊥)
      → Err (refusal number (lines + 1) (k + 1)) ≡ counted lines k (drop i f)
  step_stop x number is t e z =
      counted_stop lines k (get_or f i 0) number (drop (i + 1) f) (rw (next, ← is) t) e z ∙ ap (counted lines k) (sym here)

  pub step_on : (number : ℕ) → number ≡ offence_of (get_or f i 0) k → number ≡ 0
      → counted lines k (drop i f) ≡ counted lines (k + 1) (drop (i + 1) f)
  step_on number e z = ap (counted lines k) here ∙ counted_on lines k (get_or f i 0) (drop (i + 1) f) (sym e ∙ z)

pub counted-begins : (f : List ℕ) → refused_by (offence 0 0 f) (sized (length (lines_in f))) ≡ counted 0 0 (drop 0 f)
unfolding counted
counted-begins f = ap (λ m. refused_by (offence 0 0 f) (sized m)) (omega arith)

pub over_open : (f : List ℕ) (lines k i : ℕ) → length f ≤ i → (k ≡ 0 → ⊥)
    → Err (refusal 16 (lines + 1) (k + 1)) ≡ counted lines k (drop i f)
unfolding counted offence
over_open f lines k i l z = rw (drop_of_length-le f l, ne_eqb k 0 z)

pub over_done : (f : List ℕ) (lines k i : ℕ) → length f ≤ i → k ≡ 0 → sized lines ≡ counted lines k (drop i f)
unfolding counted offence lines_in
over_done f lines k i l z = rw (drop_of_length-le f l, z) (ap sized (omega arith))

-- a card for each line, or too many
pub sized_many : (lines : ℕ) → 800 < lines → sized lines ≡ Err (refusal 3 0 0)
unfolding sized
sized_many lines h = rw (lt-ltb 800 lines h)

pub sized-few : (lines : ℕ) → lines ≤ 800 → sized lines ≡ Ok (lines * 80)
unfolding sized
sized-few lines h = rw (le-ltb 800 lines h)
