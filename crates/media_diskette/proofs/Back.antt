-- To diskette and back, from diskette and back, and how much room each way takes.
use Prim.Native.Nat.{ℕ, zero, suc, ◌+◌, ◌*◌, ◌-◌, ◌/◌, ◌%◌, ◌≤◌}
use native.Mathlib.Nat.{div-add-mod', mul-div_cancel, mul-mod_left}
use native.Mathlib.Omega.{arith}
use native.Mathlib.Decide.{dec_lt}
use mathlib.Core.Path.{◌≡◌, refl, sym, ap, ap₂, subst, ◌∙◌}
use mathlib.Core.List.{List, [], ◌∷◌, ◌++◌, flat_map, append_assoc}
use lib.ListN.{length, get_or, take, drop, replicate, length-append, length-take, length-drop, take-append-drop, get_or-append, get_or-replicate}
use lib.Seq.{take-nil, take_all, take_at, take-append-le, drop_at, get_or-drop, get_or-append-add, get_or-append_seam, length-take-le}
use Rattle.value_text.specs.text.Texts.{text_end, text_of}
use Rattle.value_text.proofs.text.Agreed.{end_le, blank_behind}
use Rattle.value_text.proofs.text.Back.{end_blanks}
use Rattle.media_diskette.specs.Lines.{line_of, lines_of, disk_of, lines_in, padded, cards_from, trimmed, Cards, NoBlankEnds}
use Rattle.media_diskette.specs.Answers.{refused_by, sized, cards_judged, file_judged, to_answer, from_answer}
use Rattle.media_diskette.proofs.Judging.{line-size, cards-few, file_some, sized-few, room_for, in_room_lem, cards_fine, FileFine, file_fine}
use Rattle.media_diskette.proofs.Filing.{Filed, nothing, line, filed, filed_lines, filed_fine, padded-size, plain_size, cards-size}
use Rattle.media_diskette.proofs.Printed.{Good, good_take, good_drop, plain_good, filed_good, none-bad}
use Rattle.std.specs.Prelude.{Ok}

-- TO DISKETTE

shown : (s : List ℕ) → text_of s ≡ take (text_end s) s
unfolding text_of
shown s = refl

text-size : (s : List ℕ) → length (text_of s) ≡ text_end s
text-size s = ap length (shown s) ∙ length-take-le (text_end s) s (end_le s)

-- a card's line, padded, is the card
pub card_back : (card : List ℕ) → length card ≡ 80 → padded (text_of card) ≡ card
unfolding padded
card_back card h =
    ap₂ (λ (s : List ℕ) n. s ++ replicate n 32) (shown card) (ap (λ n. 80 - n) (text-size card) ∙ ap (λ n. n - text_end card) (sym h))
    ∙ ap (λ (s : List ℕ). take (text_end card) card ++ s) (sym (blank_behind card))
    ∙ take-append-drop (text_end card) card

-- the texts of n cards
abbrev texts_of : ℕ → List ℕ → List (List ℕ)
texts_of zero h = []
texts_of (suc n) h = text_of (take 80 h) ∷ texts_of n (drop 80 h)

texts_length : (n : ℕ) (h : List ℕ) → length (texts_of n h) ≡ n
texts_length zero h = refl
texts_length (suc n) h = ap suc (texts_length n (drop 80 h))

-- are the lines of the file that they become
texts_filed : (n : ℕ) (h : List ℕ) → Good h → Filed (lines_of n h) (texts_of n h)
unfolding lines_of line_of
texts_filed zero h g = nothing
texts_filed (suc n) h g =
    let card : List ℕ = take 80 h in
    let text : List ℕ = text_of card in
    let good : Good text = subst Good (sym (shown card)) (good_take (text_end card) card (good_take 80 h g)) in
    let short : 0 + length text ≤ 80 = omega (arith, text-size card, end_le card, length-take 80 h) in
    subst (λ (f : List ℕ). Filed f (texts_of (suc n) h)) (sym (append_assoc text (13 ∷ 10 ∷ []) (lines_of n (drop 80 h))))
    (line text (lines_of n (drop 80 h)) (texts_of n (drop 80 h)) (plain_good 0 text short good) (texts_filed n (drop 80 h) (good_drop 80 h g)))

texts_back : (n : ℕ) (h : List ℕ) → length h ≡ n * 80 → flat_map padded (texts_of n h) ≡ h
unfolding flat_map
texts_back zero h e = empty h (omega (arith, e))
  where
    empty : (l : List ℕ) → length l ≡ 0 → [] ≡ l
    empty [] z = refl
    empty (b ∷ l) z = absurd (omega arith)
texts_back (suc n) h e =
    ap₂ (λ (a b : List ℕ). a ++ b) (card_back (take 80 h) (length-take-le 80 h (omega (arith, e))))
    (texts_back n (drop 80 h) (rw length-drop (omega (arith, e))))
    ∙ take-append-drop 80 h

-- 82 bytes a card are enough
lines_bound : (n : ℕ) (h : List ℕ) → length (lines_of n h) ≤ 82 * n
unfolding lines_of
lines_bound zero h = omega arith
lines_bound (suc n) h =
    rw (length-append, line-size (take 80 h))
    (omega (arith, end_le (take 80 h), length-take 80 h, lines_bound n (drop 80 h)))

pub disk_bound : (h : List ℕ) → length (disk_of h) ≤ 82 * (length h / 80)
unfolding disk_of
disk_bound h = lines_bound (length h / 80) h

module _ (h : List ℕ) (x : Cards h) where
  size : length h ≡ length h / 80 * 80
  size = omega (arith, div-add-mod' (length h) 80, x.whole)

  cards_judged_lem : cards_judged h ≡ Ok (length (disk_of h))
  unfolding disk_of
  cards_judged_lem =
      cards-few h (λ z. omega (arith, z, x.some)) x.whole (omega (arith, size, x.few))
      ∙ ap (λ o. refused_by o (Ok (length (lines_of (length h / 80) h)))) (none-bad 0 (length h / 80) h (omega (arith, size)) x.printed)

  disk_filed : Filed (disk_of h) (texts_of (length h / 80) h)
  unfolding disk_of
  disk_filed = texts_filed (length h / 80) h x.printed

  disk_lines : length (lines_in (disk_of h)) ≡ length h / 80
  disk_lines = ap length (filed_lines disk_filed) ∙ texts_length (length h / 80) h

  pub cards_back : cards_from (disk_of h) ≡ h
  unfolding cards_from
  cards_back = ap (flat_map padded) (filed_lines disk_filed) ∙ texts_back (length h / 80) h size

  disk_some : length (disk_of h) ≡ 0 → ⊥
  unfolding lines_in
  disk_some z = go (disk_of h) z disk_lines
    where
      go : (f : List ℕ) → length f ≡ 0 → length (lines_in f) ≡ length h / 80 → ⊥
      go [] q e = omega (arith, e, size, x.some)
      go (b ∷ f) q e = omega arith

  disk_judged : file_judged (disk_of h) ≡ Ok (length h)
  disk_judged =
      file_some (disk_of h) disk_some
      ∙ ap₂ (λ o n. refused_by o (sized n)) (filed_fine 0 disk_filed) disk_lines
      ∙ sized-few (length h / 80) (omega (arith, size, x.few))
      ∙ ap Ok (sym size)

  -- a header goes to diskette, and comes back byte for byte
  pub to-and_back : (room back : ℕ) → 82 * (length h / 80) ≤ room → length h ≤ back
      → (to_answer h room ≡ Ok (length (disk_of h))) × (from_answer (disk_of h) back ≡ Ok (length h)) × (cards_from (disk_of h) ≡ h)
  unfolding to_answer from_answer
  to-and_back room back r b = (
    rw cards_judged_lem (room_for room (length (disk_of h)) (omega (arith, disk_bound h))),
    rw disk_judged (room_for back (length h) b),
    cards_back,
  )

-- FROM DISKETTE

-- a padded line becomes that line again, without its trailing blanks
line-again : (t : List ℕ) → line_of (padded t) ≡ line_of t
unfolding line_of padded
line-again t =
    let blanks : List ℕ = replicate (80 - length t) 32 in
    let e : text_end (t ++ blanks) ≡ text_end t = end_blanks t (80 - length t) in
    ap (λ (s : List ℕ). s ++ (13 ∷ 10 ∷ []))
    (shown (t ++ blanks) ∙ ap (λ n. take n (t ++ blanks)) e ∙ front t blanks (text_end t) (end_le t) ∙ sym (shown t))
  where
    front : (a b : List ℕ) (n : ℕ) → n ≤ length a → take n (a ++ b) ≡ take n a
    front a b n l = take-append-le n a b l

lines-again : {f : List ℕ} {ls : List (List ℕ)} → Filed f ls → lines_of (length ls) (flat_map padded ls) ≡ flat_map line_of ls
unfolding lines_of flat_map
lines-again nothing = refl
lines-again (line t r ls p x) =
    let wide : length (padded t) ≡ 80 = padded-size t (omega (arith, plain_size 0 t (omega arith) p)) in
    ap₂ (λ (a b : List ℕ). line_of a ++ lines_of (length ls) b) (take_at (padded t) (flat_map padded ls) 80 wide) (drop_at (padded t) (flat_map padded ls) 80 wide)
    ∙ ap₂ (λ (a b : List ℕ). a ++ b) (line-again t) (lines-again x)

-- dropping blanks takes no more room
filed_bound : {f : List ℕ} {ls : List (List ℕ)} → Filed f ls → length (flat_map line_of ls) ≤ length f
unfolding flat_map
filed_bound nothing = omega arith
filed_bound (line t r ls p x) =
    rw (length-append, line-size t, length-append)
    (omega (arith, end_le t, filed_bound x))

module _ (f : List ℕ) (n : ℕ) (x : FileFine f n) where
  in_lines : Filed f (lines_in f)
  in_lines = filed f x.good

  long : length (cards_from f) ≡ length (lines_in f) * 80
  long = cards-size f x.good

  count : length (cards_from f) / 80 ≡ length (lines_in f)
  count = ap (λ m. m / 80) long ∙ mul-div_cancel (length (lines_in f)) (omega arith)

  pub trimmed_bound : length (trimmed f) ≤ length f
  unfolding trimmed
  trimmed_bound = filed_bound in_lines

  pub disk_again : disk_of (cards_from f) ≡ trimmed f
  unfolding disk_of trimmed cards_from
  disk_again = ap (λ m. lines_of m (flat_map padded (lines_in f))) count ∙ lines-again in_lines

  some-lines : length (lines_in f) ≡ 0 → ⊥
  some-lines = go in_lines x.some
    where
      go : {g : List ℕ} {ls : List (List ℕ)} → Filed g ls → (length g ≡ 0 → ⊥) → length ls ≡ 0 → ⊥
      go nothing s z = s refl
      go (line t r ls p y) s z = omega arith

  printed : Good (cards_from f)
  unfolding cards_from
  printed = filed_good in_lines

  pub cards_of_lem : Cards (cards_from f)
  cards_of_lem =
      record {
        some = omega (arith, long, some-lines);
        whole = ap (λ m. m % 80) long ∙ mul-mod_left (length (lines_in f)) 80;
        few = omega (arith, long, x.few);
        printed = printed;
      }

-- what a file is accepted for
pub accepted : (f : List ℕ) (room n : ℕ) → from_answer f room ≡ Ok n → FileFine f n
unfolding from_answer
accepted f room n e = file_fine f n (in_room_lem room n (file_judged f) e).0

-- a file becomes cards, and the cards become the file without the blanks at the ends of its lines
pub from-and_back : (f : List ℕ) (room n back : ℕ) → from_answer f room ≡ Ok n → length f ≤ back
    → (to_answer (cards_from f) back ≡ Ok (length (trimmed f))) × (disk_of (cards_from f) ≡ trimmed f)
unfolding to_answer
from-and_back f room n back e b =
    let x = accepted f room n e in
    let again = disk_again f n x in (
      rw (cards_judged_lem (cards_from f) (cards_of_lem f n x), again) (room_for back (length (trimmed f)) (omega (arith, trimmed_bound f n x))),
      again,
    )

-- the length told is that of the cards, at most 64,000
pub cards-told : (f : List ℕ) (room n : ℕ) → from_answer f room ≡ Ok n → (length (cards_from f) ≡ n) × (n ≤ 64000)
cards-told f room n e =
    let x = accepted f room n e in
    (long f n x ∙ x.size, omega (arith, x.few, x.size))

-- and that of the file, at most 82 bytes a card
pub disk_told : (h : List ℕ) (room n : ℕ) → to_answer h room ≡ Ok n → (length (disk_of h) ≡ n) × (n ≤ 82 * (length h / 80))
unfolding to_answer
disk_told h room n e =
    let x = cards_fine h n (in_room_lem room n (cards_judged h) e).0 in
    (x.size, omega (arith, x.size, disk_bound h))

-- neither is above the room
pub to-fits : (h : List ℕ) (room n : ℕ) → to_answer h room ≡ Ok n → n ≤ room
unfolding to_answer
to-fits h room n e = (in_room_lem room n (cards_judged h) e).1

pub from-fits : (f : List ℕ) (room n : ℕ) → from_answer f room ≡ Ok n → n ≤ room
unfolding from_answer
from-fits f room n e = (in_room_lem room n (file_judged f) e).1

-- A FILE WITHOUT BLANKS AT THE ENDS OF ITS LINES

-- bytes that do not end in a blank are their own text
own_text : (t : List ℕ) → (length t ≡ 0 → ⊥) → (get_or t (length t - 1) 0 ≡ 32 → ⊥) → text_end t ≡ length t
own_text t s h = elim (dec_lt (text_end t) (length t)) [
  | yes l ↦
      let n : ℕ = text_end t in
      let k : ℕ = length t - 1 - n in
      let there : n + k ≡ length t - 1 = omega arith in
      let blank : ◌≡◌ {A = ℕ} (get_or (replicate (length t - n) 32) k 0) 32 = get_or-replicate (length t - n) k 32 0 (omega arith) in
      absurd (h (ap (λ j. get_or t j 0) (sym there) ∙ sym (get_or-drop n t k 0) ∙ ap (λ (s : List ℕ). get_or s k 0) (blank_behind t) ∙ blank))
  | no l ↦ omega (arith, end_le t)
]

line_kept_lem : (t r : List ℕ) → NoBlankEnds (t ++ (13 ∷ 10 ∷ r)) → text_of t ≡ t
line_kept_lem [] r h = shown [] ∙ take-nil (text_end [])
line_kept_lem (b ∷ t) r h =
    let s : List ℕ = b ∷ t in
    let n : ℕ = length t in
    let one : length s - 1 ≡ n = omega arith in
    let two : n + 1 ≡ length s = omega arith in
    let last : get_or s (length s - 1) 0 ≡ get_or s n 0 = ap (λ j. get_or s j 0) one in
    let here : get_or (s ++ (13 ∷ 10 ∷ r)) n 0 ≡ get_or s n 0 = get_or-append s (13 ∷ 10 ∷ r) 0 n (omega arith) in
    let next : get_or (s ++ (13 ∷ 10 ∷ r)) (n + 1) 0 ≡ 13 = ap (λ j. get_or (s ++ (13 ∷ 10 ∷ r)) j 0) two ∙ get_or-append_seam s 13 (10 ∷ r) 0 in
    let end : text_end s ≡ length s = own_text s (λ z. omega arith) (λ q. h n (here ∙ sym last ∙ q) next) in
    shown s ∙ take_all (text_end s) s (omega (arith, end))

rest_kept : (t r : List ℕ) → NoBlankEnds (t ++ (13 ∷ 10 ∷ r)) → NoBlankEnds r
rest_kept t r h i a b =
    let f : List ℕ = t ++ (13 ∷ 10 ∷ r) in
    let at : (j : ℕ) → get_or f (length t + (2 + j)) 0 ≡ get_or r j 0 =
    λ j. get_or-append-add t (13 ∷ 10 ∷ r) (2 + j) 0 ∙ past j in
    let e : length t + (2 + i) + 1 ≡ length t + (2 + (i + 1)) = omega arith in
    h (length t + (2 + i)) (at i ∙ a) (ap (λ m. get_or f m 0) e ∙ at (i + 1) ∙ b)
  where
    past : (j : ℕ) → get_or (13 ∷ 10 ∷ r) (2 + j) 0 ≡ get_or r j 0
    past j = let e : 2 + j ≡ suc (suc j) = omega arith in rw e

filed_kept : {f : List ℕ} {ls : List (List ℕ)} → Filed f ls → NoBlankEnds f → flat_map line_of ls ≡ f
unfolding flat_map line_of
filed_kept nothing h = refl
filed_kept (line t r ls p x) h =
    ap₂ (λ (a b : List ℕ). (a ++ (13 ∷ 10 ∷ [])) ++ b) (line_kept_lem t r h) (filed_kept x (rest_kept t r h))
    ∙ append_assoc t (13 ∷ 10 ∷ []) r

-- such a file that is accepted comes back byte for byte
pub kept : (f : List ℕ) (room n : ℕ) → from_answer f room ≡ Ok n → NoBlankEnds f → trimmed f ≡ f
unfolding trimmed
kept f room n e h = filed_kept (filed f (accepted f room n e).good) h
