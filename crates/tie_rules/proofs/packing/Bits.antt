-- The bytes of a text as one number: how large it is, and that it tells the text.
use Prim.Native.Nat.{ℕ, zero, suc, ◌+◌, ◌*◌, ◌-◌, ◌^◌, ◌≤◌, ◌<◌}
use native.Mathlib.Nat.{pow-succ', le_of_suc-le-suc}
use native.Mathlib.Omega.{arith}
use mathlib.Core.Path.{◌≡◌, refl, sym, ap, ap₂, ◌∙◌}
use mathlib.Core.List.{List, [], ◌∷◌, ◌++◌}
use mathlib.Core.Bool.{Bool, true, false, cond}
use lib.Dec.{leb}
use lib.ListN.{length, get_or, take, drop, drop_of_length-le, length-drop, length-take, length-append}
use lib.Seq.{drop-cons, get_or-take, get_or-append_seam, take-append_seam}
use Rattle.std.proofs.lemmas.List.{take-take}
use borrow.Author.Tests.{leb-true, le-leb}
use Rattle.base_digits.proofs.digits.Bools.{and_left, and_right, and_both}
use Rattle.value_text.specs.text.Texts.{printable}
use Rattle.tie_rules.specs.packed.Numbers.{bits_of, bits_in}

-- a printable text: its first byte, and the rest
pub record Printed (b : ℕ) (s : List ℕ) : Type 0 where
  pub low : 32 ≤ b
  pub high : b ≤ 126
  pub rest : printable s ≡ true

pub printed : (b : ℕ) (s : List ℕ) → printable (b ∷ s) ≡ true → Printed b s
unfolding printable
printed b s h = record {
  low = leb-true 32 b (and_left _ _ h);
  high = leb-true b 126 (and_left _ _ (and_right (leb 32 b) _ h));
  rest = and_right (leb b 126) _ (and_right (leb 32 b) _ h);
}

-- so is a part of it
pub printable-drop : (i : ℕ) (s : List ℕ) → printable s ≡ true → printable (drop i s) ≡ true
printable-drop zero s h = h
printable-drop (suc i) [] h = h
printable-drop (suc i) (b ∷ s) h = printable-drop i s (printed b s h).rest

pub printable-take : (i : ℕ) (s : List ℕ) → printable s ≡ true → printable (take i s) ≡ true
unfolding printable
printable-take zero s h = refl
printable-take (suc i) [] h = refl
printable-take (suc i) (b ∷ s) h =
    and_both _ _ (and_left (leb 32 b) _ h) (and_both _ _ (and_left (leb b 126) _ (and_right (leb 32 b) _ h))
    (printable-take i s (printed b s h).rest))

-- and each of its bytes
pub byte-printed : (i : ℕ) (s : List ℕ) → i < length s → printable s ≡ true → (32 ≤ get_or s i 0) × (get_or s i 0 ≤ 126)
byte-printed i [] l h = absurd (omega arith)
byte-printed zero (b ∷ s) l h = let p = printed b s h in (p.low, p.high)
byte-printed (suc i) (b ∷ s) l h = byte-printed i s (le_of_suc-le-suc l) (printed b s h).rest

-- n printable bytes stay below the n-th power
pub bits_below : (n : ℕ) (s : List ℕ) → length s ≤ n → printable s ≡ true → bits_of s < 128 ^ n
unfolding bits_of
bits_below zero [] l h = omega arith
bits_below zero (b ∷ s) l h = absurd (omega arith)
bits_below (suc n) [] l h = rw (pow-succ' 128 n) (omega (arith, bits_below n [] (omega arith) h))
bits_below (suc n) (b ∷ s) l h =
    let p = printed b s h in
    rw (pow-succ' 128 n) (omega (arith, bits_below n s (omega arith) p.rest, p.high))

-- some printable bytes are not 0
pub bits_some : (s : List ℕ) → (length s ≡ 0 → ⊥) → printable s ≡ true → 0 < bits_of s
unfolding bits_of
bits_some [] l h = absurd (l refl)
bits_some (b ∷ s) l h = omega (arith, (printed b s h).low)

-- equal numbers, equal texts
pub bits_tell : (s t : List ℕ) → printable s ≡ true → printable t ≡ true → bits_of s ≡ bits_of t → s ≡ t
unfolding bits_of
bits_tell [] [] p q e = refl
bits_tell [] (c ∷ t) p q e = absurd (omega (arith, (printed c t q).low))
bits_tell (b ∷ s) [] p q e = absurd (omega (arith, (printed b s p).low))
bits_tell (b ∷ s) (c ∷ t) p q e =
    let x = printed b s p in
    let y = printed c t q in
    ap₂ (λ (n : ℕ) (l : List ℕ). n ∷ l) (omega (arith, x.high, y.high))
    (bits_tell s t x.rest y.rest (omega (arith, x.high, y.high)))

-- one byte more, from the back
pub bits_more : (i : ℕ) (s : List ℕ) → 0 < i → i ≤ length s → bits_of (drop (i - 1) s) ≡ bits_of (drop i s) * 128 + get_or s (i - 1) 0
unfolding bits_of
bits_more i s z l =
    let q : suc (i - 1) ≡ i = omega arith in
    ap bits_of (drop-cons s (i - 1) 0 (omega arith)) ∙ ap (λ k. get_or s (i - 1) 0 + 128 * bits_of (drop k s)) q ∙ omega arith

pub printed_more : (i : ℕ) (s : List ℕ) → 0 < i → i ≤ length s → 32 ≤ get_or s (i - 1) 0 → get_or s (i - 1) 0 ≤ 126
    → printable (drop i s) ≡ true → printable (drop (i - 1) s) ≡ true
unfolding printable
printed_more i s z l a b h =
    let q : suc (i - 1) ≡ i = omega arith in
    ap printable (drop-cons s (i - 1) 0 (omega arith))
    ∙ and_both _ _ (le-leb 32 _ a) (and_both _ _ (le-leb _ 126 b) (ap (λ k. printable (drop k s)) q ∙ h))

-- a front of a text with its last byte: the front before it, and where the byte stands
module _ (t front rest : List ℕ) (b : ℕ) (one : front ≡ rest ++ (b ∷ [])) (is : take (length front) t ≡ front) where
  pub one_more : length front ≡ length rest + 1
  one_more = ap length one ∙ length-append rest (b ∷ [])

  pub inside : length front ≤ length t
  inside = omega (arith, ap length is, length-take (length front) t)

  pub last_byte : get_or t (length front - 1) 0 ≡ b
  last_byte =
      let n : length front - 1 ≡ length rest = omega (arith, one_more) in
      sym (get_or-take (length front) t (length front - 1) 0 (omega (arith, one_more))) ∙ rw (is, n) (ap (λ l. get_or l (length rest) 0) one ∙ get_or-append_seam rest b [] 0)

  pub front_before : take (length rest) t ≡ rest
  front_before =
      sym (take-take (length rest) (length front) t (omega (arith, one_more))) ∙ rw (is, one) (take-append_seam rest (b ∷ []))

-- the walk from the back: where it begins, the room for one byte more, a byte that stops it, and where it ends
pub bits_begin : (s : List ℕ) → 0 ≡ bits_of (drop (length s) s)
unfolding bits_of
bits_begin s = sym (ap bits_of (drop_of_length-le s {i = length s} (omega arith)))

pub printed_begin : (s : List ℕ) → printable (drop (length s) s) ≡ true
unfolding printable
printed_begin s = ap printable (drop_of_length-le s {i = length s} (omega arith))

pub bits_room : (i : ℕ) (s : List ℕ) → 0 < i → length s ≤ 8 → printable (drop i s) ≡ true → bits_of (drop i s) < 562949953421312
bits_room i s z l h = bits_below 7 (drop i s) (omega (arith, length-drop i s)) h

pub bits_stop : (i : ℕ) (s : List ℕ) → i < length s → ((32 ≤ get_or s i 0) × (get_or s i 0 ≤ 126) → ⊥) → 0 ≡ bits_in s
unfolding bits_in
bits_stop i s l no-print = go (printable s) refl
  where
    go : (b : Bool) → printable s ≡ b → 0 ≡ cond b (bits_of s) 0
    go true e = absurd (no-print (byte-printed i s l e))
    go false e = refl

pub bits_end : (i : ℕ) (s : List ℕ) → i ≤ 0 → printable (drop i s) ≡ true → bits_of (drop i s) ≡ bits_in s
unfolding bits_in
bits_end zero s l h = rw h
bits_end (suc i) s l h = absurd (omega arith)

pub bits_fit : (s : List ℕ) → length s ≤ 8 → bits_in s < 72057594037927936
unfolding bits_in
bits_fit s l = go (printable s) refl
  where
    go : (b : Bool) → printable s ≡ b → cond b (bits_of s) 0 < 72057594037927936
    go true e = bits_below 8 s l e
    go false e = omega arith
