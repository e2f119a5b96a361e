-- The patterns as numbers: which one a `match` picks, and that a code fits the number exactly when it fits the pattern.
use mathlib.Core.Path.{◌≡◌, refl, sym, ◌∙◌, ap}
use mathlib.Core.Bool.{Bool, true, false, cond, not, ◌&&◌}
use mathlib.Core.List.{List, [], map}
use Prim.Native.Nat.{ℕ, ◌+◌, ◌*◌, ◌/◌, ◌%◌, ◌<◌, ◌≤◌}
use native.Mathlib.Omega.{arith}
use native.Mathlib.Decide.{ℕ_discrete, dec_lt}
use borrow.Author.Tests.{eq-eqb, ne_eqb}
use lib.Dec.{T, eqb, eqb→eq, leb, ltb, ltb→lt}
use lib.ListN.{length, get_or, length-map, get_or-map, get_or-eq_default}
use Rattle.format_layout.specs.Table.{layouts, passed_codes}
use Rattle.format_layout.proofs.Every.{every, at, and_left, and_right}
use Rattle.format_layout.proofs.Lines.{Others, above}
use Rattle.format_layout.specs.Layouts.{layout_at}
use Rattle.format_layout.specs.packed.Rows.{layout_count, head_of, word_of, row_of}
use Rattle.format_layout.proofs.Places.{empty, layouts-count}
use Rattle.format_code.specs.Codes.{byte_fits, fits_at, fits, codes, passed_count}
use Rattle.format_code.specs.packed.Words.{passed_of, fits_word}
use Rattle.format_code.proofs.Places.{codes-count, passed-count, code_in, code_is}

pub same_passed : (k p : ℕ) → p ≡ k → passed_of k ≡ passed_of p
same_passed k p e = rw e

pub past_passed : (p : ℕ) → Others 0 passed_count p → 0 ≡ passed_of p
unfolding passed_of
past_passed p o =
    sym (get_or-eq_default (map word_of passed_codes) 0
    (omega (arith, length-map passed_codes word_of, passed-count, above 0 passed_count p (omega arith) o)))

-- the words of a list of patterns: one is 0 exactly past the last

abbrev some : ℕ → List ℕ → Bool
some i p = ltb 0 (word_of p)

module _ (ps : List (List ℕ)) (k w : ℕ) (e : w ≡ get_or (map word_of ps) k 0) where
  word_is : w ≡ word_of (get_or ps k [])
  unfolding word_of head_of
  word_is = e ∙ get_or-map word_of ps k []

  word_inside : (w ≡ 0 → ⊥) → k < length ps
  word_inside z = elim (dec_lt k (length ps)) [
    | yes h ↦ h
    | no h ↦ absurd (z (e ∙ get_or-eq_default (map word_of ps) 0 (omega (arith, length-map ps word_of))))
  ]

  word_past : T (every some 0 ps) → w ≡ 0 → length ps ≤ k
  word_past t z = elim (dec_lt k (length ps)) [
    | yes h ↦ absurd (omega (arith, word_is, ltb→lt 0 (word_of (get_or ps k [])) (at some [] ps t k h)))
    | no h ↦ omega arith
  ]

-- the bytes of a pattern come back out of its number, and the first three are themselves

abbrev plain : ℕ → Bool
plain b = not (eqb b 64) && not (eqb b 35) && ltb b 256

abbrev backs : List ℕ → Bool
backs p =
    eqb (word_of p / 65536) (head_of p) && (eqb (word_of p / 256 % 256) (get_or p 3 0) && eqb (word_of p % 256) (get_or p 4 0))

abbrev made : ℕ → List ℕ → Bool
made i p = backs p && (plain (get_or p 0 0) && (plain (get_or p 1 0) && plain (get_or p 2 0)))

all_made : T (every (λ (i : ℕ). made 0) 0 codes)
unfolding codes layouts passed_codes word_of head_of
all_made = tt

itself : (p b : ℕ) → T (plain p) → eqb p b ≡ byte_fits p b
unfolding byte_fits
itself p b t = go (eqb p 64) (eqb p 35) t
  where
    go : (x y : Bool) → T (not x && not y && ltb p 256)
        → eqb p b ≡ cond x (leb 49 b && leb b 57) (cond y (leb 48 b && leb b 57) (eqb p b))
    go false true t = elim t [ ]
    go true y t = elim t [ ]
    go false false t = refl

below : (p : ℕ) → T (plain p) → p < 256
below p t = ltb→lt p 256 (and_right (not (eqb p 64) && not (eqb p 35)) (ltb p 256) t)

-- three bytes are the same exactly when their numbers are
same_head : (a b c x y z : ℕ) → a < 256 → b < 256 → c < 256 → x < 256 → y < 256 → z < 256
    → eqb ((a * 256 + b) * 256 + c) ((x * 256 + y) * 256 + z) ≡ eqb a x && eqb b y && eqb c z
same_head a b c x y z ha hb hc hx hy hz = elim (ℕ_discrete a x) [
  | no n ↦ rw (ne_eqb a x n) (ne_eqb _ _ (λ (e : (a * 256 + b) * 256 + c ≡ (x * 256 + y) * 256 + z). n (omega arith)))
  | yes p ↦ elim (ℕ_discrete b y) [
    | no n ↦ rw (eq-eqb a x p, ne_eqb b y n) (ne_eqb _ _ (λ (e : (a * 256 + b) * 256 + c ≡ (x * 256 + y) * 256 + z). n (omega arith)))
    | yes q ↦ elim (ℕ_discrete c z) [
      | no n ↦ rw (eq-eqb a x p, eq-eqb b y q, ne_eqb c z n) (ne_eqb _ _ (λ (e : (a * 256 + b) * 256 + c ≡ (x * 256 + y) * 256 + z). n (omega arith)))
      | yes r ↦ rw (eq-eqb a x p, eq-eqb b y q, eq-eqb c z r) (eq-eqb ((a * 256 + b) * 256 + c) ((x * 256 + y) * 256 + z) (omega arith))
    ]
  ]
]

-- a code's bytes as the comparison takes them
pub record Taken (s : List ℕ) (head fourth fifth : ℕ) : Type 0 where
  pub five : length s ≡ 5
  pub head-is : head ≡ head_of s
  pub fourth_is : fourth ≡ get_or s 3 0
  pub fifth_is : fifth ≡ get_or s 4 0
  pub first_byte : get_or s 0 0 < 256
  pub second-byte : get_or s 1 0 < 256
  pub third_byte : get_or s 2 0 < 256

joins : (a b c d e : Bool) → a && b && c && (e && d) ≡ a && b && c && d && e
joins false b c d e = refl
joins true false c d e = refl
joins true true false d e = refl
joins true true true false false = refl
joins true true true false true = refl
joins true true true true false = refl
joins true true true true true = refl

module _ (s : List ℕ) (head fourth fifth : ℕ) (t : Taken s head fourth fifth) (p : List ℕ) where
  fits_made : T (made 0 p) → fits_word (word_of p) head fourth fifth ≡ fits p s
  unfolding fits_word fits fits_at head_of
  fits_made m =
      let mb : T (backs p) = and_left (backs p) (plain (get_or p 0 0) && (plain (get_or p 1 0) && plain (get_or p 2 0))) m in
      let mp : T (plain (get_or p 0 0) && (plain (get_or p 1 0) && plain (get_or p 2 0))) = and_right (backs p) (plain (get_or p 0 0) && (plain (get_or p 1 0) && plain (get_or p 2 0))) m in
      let m0 : T (plain (get_or p 0 0)) = and_left (plain (get_or p 0 0)) (plain (get_or p 1 0) && plain (get_or p 2 0)) mp in
      let m12 : T (plain (get_or p 1 0) && plain (get_or p 2 0)) = and_right (plain (get_or p 0 0)) (plain (get_or p 1 0) && plain (get_or p 2 0)) mp in
      let m1 : T (plain (get_or p 1 0)) = and_left (plain (get_or p 1 0)) (plain (get_or p 2 0)) m12 in
      let m2 : T (plain (get_or p 2 0)) = and_right (plain (get_or p 1 0)) (plain (get_or p 2 0)) m12 in
      let bh : word_of p / 65536 ≡ head_of p = eqb→eq _ _ (and_left (eqb (word_of p / 65536) (head_of p)) (eqb (word_of p / 256 % 256) (get_or p 3 0) && eqb (word_of p % 256) (get_or p 4 0)) mb) in
      let bl : T (eqb (word_of p / 256 % 256) (get_or p 3 0) && eqb (word_of p % 256) (get_or p 4 0)) = and_right (eqb (word_of p / 65536) (head_of p)) (eqb (word_of p / 256 % 256) (get_or p 3 0) && eqb (word_of p % 256) (get_or p 4 0)) mb in
      let b3 : word_of p / 256 % 256 ≡ get_or p 3 0 = eqb→eq _ _ (and_left (eqb (word_of p / 256 % 256) (get_or p 3 0)) (eqb (word_of p % 256) (get_or p 4 0)) bl) in
      let b4 : word_of p % 256 ≡ get_or p 4 0 = eqb→eq _ _ (and_right (eqb (word_of p / 256 % 256) (get_or p 3 0)) (eqb (word_of p % 256) (get_or p 4 0)) bl) in
      rw (
        bh,
        b3,
        b4,
        t.head-is,
        t.fourth_is,
        t.fifth_is,
        eq-eqb _ _ t.five,
        same_head (get_or p 0 0) (get_or p 1 0) (get_or p 2 0) (get_or s 0 0) (get_or s 1 0) (get_or s 2 0) (below _ m0) (below _ m1) (below _ m2) t.first_byte t.second-byte t.third_byte,
        itself (get_or p 0 0) (get_or s 0 0) m0,
        itself (get_or p 1 0) (get_or s 1 0) m1,
        itself (get_or p 2 0) (get_or s 2 0) m2,
      )
      (joins (byte_fits (get_or p 0 0) (get_or s 0 0)) (byte_fits (get_or p 1 0) (get_or s 1 0)) (byte_fits (get_or p 2 0) (get_or s 2 0)) (byte_fits (get_or p 3 0) (get_or s 3 0)) (byte_fits (get_or p 4 0) (get_or s 4 0)))

-- a walk over the layouts: a row is 0 past the last, and a code fits any other exactly when it fits the pattern

read_some : T (every some 0 (map code_in layouts))
unfolding layouts word_of head_of
read_some = tt

module _ (k w : ℕ) (e : w ≡ row_of k 0) where
  read-row : w ≡ get_or (map word_of (map code_in layouts)) k 0
  unfolding row_of layout_at word_of head_of
  read-row = e ∙ sym (get_or-map word_of (map code_in layouts) k [] ∙ ap word_of (get_or-map code_in layouts k empty))

  pub read-inside : (w ≡ 0 → ⊥) → k < layout_count
  read-inside z = omega (arith, word_inside (map code_in layouts) k w read-row z, length-map layouts code_in, layouts-count)

  pub read_past : w ≡ 0 → layout_count ≤ k
  read_past z = omega (arith, word_past (map code_in layouts) k w read-row read_some z, length-map layouts code_in, layouts-count)

  pub fits_read : (s : List ℕ) (head fourth fifth : ℕ) → Taken s head fourth fifth → k < layout_count
      → fits_word w head fourth fifth ≡ fits (get_or codes k []) s
  unfolding row_of
  fits_read s head fourth fifth t h =
      ap (λ (x : ℕ). fits_word x head fourth fifth) (e ∙ ap word_of (sym (code_is k h)))
      ∙ fits_made s head fourth fifth t (get_or codes k []) (at (λ (i : ℕ). made 0) [] codes all_made k (omega (arith, codes-count)))

-- the same of a walk over the passed codes

passed-some : T (every some 0 passed_codes)
unfolding passed_codes word_of head_of
passed-some = tt

passed_made : T (every (λ (i : ℕ). made 0) 0 passed_codes)
unfolding passed_codes word_of head_of
passed_made = tt

module _ (k w : ℕ) (e : w ≡ passed_of k) where
  passed-row : w ≡ get_or (map word_of passed_codes) k 0
  unfolding passed_of
  passed-row = e

  pub passed-inside : (w ≡ 0 → ⊥) → k < passed_count
  passed-inside z = omega (arith, word_inside passed_codes k w passed-row z, passed-count)

  pub passed_past : w ≡ 0 → passed_count ≤ k
  passed_past z = omega (arith, word_past passed_codes k w passed-row passed-some z, passed-count)

  pub fits-passed : (s : List ℕ) (head fourth fifth : ℕ) → Taken s head fourth fifth → k < passed_count
      → fits_word w head fourth fifth ≡ fits (get_or passed_codes k []) s
  fits-passed s head fourth fifth t h =
      ap (λ (x : ℕ). fits_word x head fourth fifth) (word_is passed_codes k w passed-row)
      ∙ fits_made s head fourth fifth t (get_or passed_codes k []) (at (λ (i : ℕ). made 0) [] passed_codes passed_made k (omega (arith, passed-count)))
