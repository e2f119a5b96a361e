-- Bytes that are all printable: of cards, of the lines that they become, and of the cards that lines become.
use Prim.Native.Nat.{ℕ, zero, suc, ◌+◌, ◌*◌, ◌-◌, ◌≤◌, ◌<◌}
use native.Mathlib.Omega.{arith}
use native.Mathlib.Decide.{dec_lt}
use mathlib.Core.Path.{◌≡◌, refl, ap, ◌∙◌}
use mathlib.Core.List.{List, [], ◌∷◌, ◌++◌, flat_map}
use mathlib.Core.Bool.{true, false, not, ◌&&◌}
use lib.ListN.{length, get_or, take, drop, replicate, length-append, length-take, length-drop, length-replicate, get_or-append, get_or-replicate}
use lib.Seq.{get_or-take, get_or-drop, get_or-append-add, length-take-le}
use lib.Dec.{leb}
use borrow.Author.Tests.{ne_eqb, lt-ltb, le-ltb, leb-true, le-leb, not-false, ltb-false}
use Rattle.base_digits.proofs.digits.Bools.{and_left, and_right}
use Rattle.base_lists.proofs.Finding.{first-none}
use Rattle.value_text.specs.printable.Bytes.{bad_at, first_bad}
use Rattle.media_diskette.specs.Lines.{padded}
use Rattle.media_diskette.specs.Answers.{offence_of, bad_byte}
use Rattle.media_diskette.proofs.Judging.{plain_byte}
use Rattle.media_diskette.proofs.Filing.{Plain, Filed, nothing, line}
use Rattle.std.specs.Prelude.{None}

abbrev pub Good : List ℕ → Type 0
Good s = (i : ℕ) → i < length s → bad_at s i ≡ false

-- a byte of s that is one of t
same_byte : (s t : List ℕ) (i j : ℕ) → get_or s i 0 ≡ get_or t j 0 → bad_at t j ≡ false → bad_at s i ≡ false
same_byte s t i j e g = ap (λ b. not (leb 32 b && leb b 126)) e ∙ g

pub good_take : (n : ℕ) (s : List ℕ) → Good s → Good (take n s)
good_take n s g i h =
    let l : i < n = omega (arith, length-take n s) in
    let m : i < length s = omega (arith, length-take n s) in
    same_byte (take n s) s i i (get_or-take n s i 0 l) (g i m)

pub good_drop : (n : ℕ) (s : List ℕ) → Good s → Good (drop n s)
good_drop n s g i h = same_byte (drop n s) s i (n + i) (get_or-drop n s i 0) (g (n + i) (omega (arith, length-drop n s)))

good_append : (s t : List ℕ) → Good s → Good t → Good (s ++ t)
good_append s t g k i h = elim (dec_lt i (length s)) [
  | yes l ↦ same_byte (s ++ t) s i i (get_or-append s t 0 i l) (g i l)
  | no l ↦
      let e : i ≡ length s + (i - length s) = omega arith in
      same_byte (s ++ t) t i (i - length s) (ap (λ j. get_or (s ++ t) j 0) e ∙ get_or-append-add s t (i - length s) 0)
      (k (i - length s) (omega (arith, length-append s t)))
]

good_blanks : (n : ℕ) → Good (replicate n 32)
good_blanks n i h =
    let e : ◌≡◌ {A = ℕ} (get_or (replicate n 32) i 0) 32 = get_or-replicate n i 32 0 (rw (length-replicate {A = ℕ} n 32) at h) in
    rw e

-- a printable byte is no offence within its line
plain_of : (b k : ℕ) → bad_at (b ∷ []) 0 ≡ false → k < 80 → offence_of b k ≡ 0
unfolding offence_of
plain_of b k g h =
    let t : (leb 32 b && leb b 126) ≡ true = not-false (leb 32 b && leb b 126) g in
    let from : 32 ≤ b = leb-true 32 b (and_left (leb 32 b) (leb b 126) t) in
    let to : b ≤ 126 = leb-true b 126 (and_right (leb 32 b) (leb b 126) t) in
    rw (ne_eqb b 13 (λ e. omega arith), ne_eqb b 10 (λ e. omega arith), le-ltb b 32 from, le-ltb 126 b to, lt-ltb k 80 h)

pub plain_good : (k : ℕ) (t : List ℕ) → k + length t ≤ 80 → Good t → Plain k t
plain_good k [] h g = tt
plain_good k (b ∷ t) h g =
    (plain_of b k (g 0 (omega arith)) (omega arith), plain_good (k + 1) t (omega arith) (λ i l. g (suc i) (omega arith)))

good_plain : (k : ℕ) (t : List ℕ) → Plain k t → Good t
good_plain k [] p i h = absurd (omega arith)
good_plain k (b ∷ t) p zero h =
    let q = plain_byte b k p.0 in
    rw (le-leb 32 b (ltb-false b 32 q.from), le-leb b 126 (ltb-false 126 b q.to))
good_plain k (b ∷ t) p (suc i) h = good_plain (k + 1) t p.1 i (omega arith)

good_padded : (t : List ℕ) → Plain 0 t → Good (padded t)
unfolding padded
good_padded t p = good_append t (replicate (80 - length t) 32) (good_plain 0 t p) (good_blanks (80 - length t))

-- the cards of a file are printable
pub filed_good : {f : List ℕ} {ls : List (List ℕ)} → Filed f ls → Good (flat_map padded ls)
unfolding flat_map
filed_good nothing = λ i h. absurd (omega arith)
filed_good (line t r ls p x) = good_append (padded t) (flat_map padded ls) (good_padded t p) (filed_good x)

-- printable cards have no bad byte
first_good : (s : List ℕ) → Good s → first_bad s ≡ length s
unfolding first_bad
first_good s g = first-none (bad_at s) (length s) g

pub none-bad : (c n : ℕ) (h : List ℕ) → n * 80 ≤ length h → Good h → bad_byte c n h ≡ None
unfolding bad_byte
none-bad c zero h l g = refl
none-bad c (suc n) h l g =
    let e : first_bad (take 80 h) ≡ 80 = first_good (take 80 h) (good_take 80 h g) ∙ length-take-le 80 h (omega arith) in
    rw (le-ltb (first_bad (take 80 h)) 80 (omega (arith, e)))
    (none-bad (c + 1) n (drop 80 h) (rw length-drop (omega arith)) (good_drop 80 h g))
