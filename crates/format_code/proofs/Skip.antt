-- The patterns that a walk may leave out: they take only codes below the one at hand, or begin with a higher byte.
use mathlib.Core.Path.{◌≡◌}
use mathlib.Core.Bool.{Bool, true, false, ◌||◌}
use mathlib.Core.List.{List, [], ◌∷◌}
use Prim.Native.Nat.{ℕ, zero, suc, ◌+◌, ◌*◌, ◌<◌, ◌≤◌, suc-le-suc}
use native.Mathlib.Nat.{le_of_suc-le-suc, not-suc-le-zero}
use native.Mathlib.Omega.{arith}
use lib.Dec.{T, leb, ltb, leb→le, ltb→lt}
use lib.ListN.{length, get_or, drop}
use Rattle.format_layout.proofs.Every.{every, at}
use Rattle.format_layout.specs.Table.{layouts, passed_codes}
use Rattle.format_code.specs.Codes.{fits_at, fits, codes, place_in, pattern_count}
use Rattle.format_layout.specs.packed.Rows.{head_of, word_of}
use Rattle.format_code.proofs.Places.{codes-count}
use Rattle.format_code.proofs.Apart.{least, most, between, in_each, decide, either}

-- a walk from a pattern before which none fits
skip : (ps : List (List ℕ)) (s : List ℕ) (k : ℕ) → k ≤ length ps → ((i : ℕ) → i < k → fits (get_or ps i []) s ≡ false)
    → place_in ps s ≡ k + place_in (drop k ps) s
unfolding place_in
skip ps s zero h n = omega arith
skip [] s (suc k) h n = absurd (not-suc-le-zero h)
skip (p ∷ ps) s (suc k) h n =
    let e : fits p s ≡ false = n zero (omega arith) in
    let q : place_in ps s ≡ k + place_in (drop k ps) s =
    skip ps s k (le_of_suc-le-suc h) (λ (i : ℕ) (l : i < k). n (suc i) (suc-le-suc l)) in
    rw e (omega arith)

-- the highest code that fits a pattern, as one number
abbrev top : List ℕ → ℕ
top p =
    (((most (get_or p 0 0) * 256 + most (get_or p 1 0)) * 256 + most (get_or p 2 0)) * 256 + most (get_or p 3 0)) * 256 + most (get_or p 4 0)

fits_below : (p s : List ℕ) → fits p s ≡ true → word_of s ≤ top p
unfolding fits_at head_of word_of
fits_below p s f =
    omega (
      arith,
      (between (get_or p 0 0) (get_or s 0 0) (in_each p s f).first).1,
      (between (get_or p 1 0) (get_or s 1 0) (in_each p s f).second).1,
      (between (get_or p 2 0) (get_or s 2 0) (in_each p s f).third).1,
      (between (get_or p 3 0) (get_or s 3 0) (in_each p s f).fourth).1,
      (between (get_or p 4 0) (get_or s 4 0) (in_each p s f).fifth).1,
    )

-- the patterns before the one with a number take only lower codes
abbrev pub lower : ℕ → ℕ → ℕ → List ℕ → Bool
lower k h i p = leb k i || ltb (top p) h

pub from_word : (k h : ℕ) → k ≤ pattern_count → T (every (lower k h) 0 codes) → (n : ℕ) → h ≤ n → (s : List ℕ) → word_of s ≡ n
    → place_in codes s ≡ k + place_in (drop k codes) s
from_word k h hk t n hn s e = skip codes s k (omega (arith, codes-count)) (λ (i : ℕ) (l : i < k). decide (fits (get_or codes i []) s)
    (λ (f : fits (get_or codes i []) s ≡ true).
    either (leb k i) (ltb (top (get_or codes i [])) h) (at (lower k h) [] codes t i (omega (arith, codes-count)))
    (λ (a : T (leb k i)). omega (arith, leb→le k i a))
    (λ (a : T (ltb (top (get_or codes i [])) h)).
    omega (arith, ltb→lt (top (get_or codes i [])) h a, fits_below (get_or codes i []) s f))))

-- the patterns before the comments begin with no lower byte than H
abbrev higher : ℕ → List ℕ → Bool
higher i p = leb 10 i || leb 72 (least (get_or p 0 0))

all_higher : T (every higher 0 codes)
unfolding codes layouts passed_codes
all_higher = tt

first_below : (s : List ℕ) → word_of s < 309237645312 → get_or s 0 0 < 72
unfolding head_of word_of
first_below s h = omega arith

pub from_comments : (n : ℕ) → n < 309237645312 → (s : List ℕ) → word_of s ≡ n → place_in codes s ≡ 10 + place_in (drop 10 codes) s
unfolding fits_at
from_comments n h s e = skip codes s 10 (omega (arith, codes-count)) (λ (i : ℕ) (l : i < 10). decide (fits (get_or codes i []) s)
    (λ (f : fits (get_or codes i []) s ≡ true).
    either (leb 10 i) (leb 72 (least (get_or (get_or codes i []) 0 0))) (at higher [] codes all_higher i (omega (arith, codes-count)))
    (λ (a : T (leb 10 i)). omega (arith, leb→le 10 i a))
    (λ (a : T (leb 72 (least (get_or (get_or codes i []) 0 0)))).
    omega (arith, first_below s (omega arith), leb→le 72 (least (get_or (get_or codes i []) 0 0)) a, (between (get_or (get_or codes i []) 0 0) (get_or s 0 0) (in_each (get_or codes i []) s f).first).0))))
