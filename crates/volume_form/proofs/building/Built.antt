-- A card built field by field on blanks.
use Prim.Native.Nat.{ℕ, zero, suc, ◌+◌, ◌-◌, ◌^◌, ◌≤◌, ◌<◌}
use native.Mathlib.Nat.{sub-zero, zero-sub, suc-sub-suc, zero-add}
use native.Mathlib.Omega.{arith}
use mathlib.Core.Path.{◌≡◌, sym, ap, ap₂, ◌∙◌}
use mathlib.Core.List.{List, [], ◌∷◌, ◌++◌, append_assoc}
use lib.ListN.{length, take, drop, replicate, length-append, length-replicate, length-drop}
use lib.Seq.{length-take-le, drop-drop}
use borrow.Rule.Slice.PartMut.{put_mid}
use Rattle.base_digits.specs.digits.Digits.{digits, size}
use Rattle.base_digits.proofs.digits.Spell.{digits-length}
use Rattle.base_digits.proofs.digits.Numbers.{size_le}
use Rattle.volume_form.specs.Moved.{laid_at}
use Rattle.volume_form.proofs.moving.Moves.{put_laid, length-laid_at, laid-behind}
use Rattle.volume_form.specs.Spelled.{spelled}
use Rattle.volume_form.specs.Rows.{Row}
use Rattle.volume_form.specs.Marked.{name_of, sequence_of, fielded, padded, entry_card, trailer_card}
use Rattle.volume_form.proofs.Spelling.{length-spelled}
use Rattle.volume_form.proofs.Cards.{Good, length_name, length_sequence}

drop-replicate : (j m x : ℕ) → drop j (replicate m x) ≡ replicate (m - j) x
drop-replicate zero m x = rw sub-zero
drop-replicate (suc j) zero x = rw zero-sub
drop-replicate (suc j) (suc m) x = rw suc-sub-suc (drop-replicate j m x)

-- a code on a blank card
pub laid-first : (t : List ℕ) → laid_at (replicate 80 32) 0 t ≡ padded t
unfolding laid_at padded
laid-first t = rw (zero-add (length t), drop-replicate)

-- one field more, a blank before it
pub laid-field : (s t : List ℕ) (n : ℕ) → length s + 1 ≡ n → n + length t ≤ 80 → laid_at (padded s) n t ≡ padded (s ++ (32 ∷ t))
unfolding padded
laid-field s t n e h =
    let p : List ℕ = s ++ (32 ∷ []) in
    let m : ℕ = 80 - n in
    let k : 80 - length s ≡ suc m = omega arith in
    let a : s ++ replicate (80 - length s) 32 ≡ p ++ replicate m 32 =
    ap (λ j. s ++ replicate j 32) k ∙ sym (append_assoc s (32 ∷ []) (replicate m 32)) in
    let z : m - length t ≡ 80 - length (s ++ (32 ∷ t)) = let q = length-append s (32 ∷ t) in omega arith in
    ap (λ l. laid_at l n t) a
    ∙ laid-behind p (replicate m 32) t n (length-append s (32 ∷ []) ∙ e)
    ∙ ap (λ l. p ++ (t ++ l)) (drop-replicate (length t) m 32 ∙ ap (λ j. replicate j 32) z)
    ∙ append_assoc s (32 ∷ []) _
    ∙ sym (append_assoc s (32 ∷ t) _)

-- two texts, one behind the other
laid_two : (s p q : List ℕ) (at n : ℕ) → at + length p ≡ n → n + length q ≤ length s
    → laid_at (laid_at s at p) n q ≡ laid_at s at (p ++ q)
unfolding laid_at
laid_two s p q at n e h =
    let x : List ℕ = drop (at + length p) s in
    let f : List ℕ = take at s ++ p in
    let l : length f ≡ n = length-append (take at s) p ∙ ap (λ k. k + length p) (length-take-le at s (omega arith)) ∙ e in
    let z : at + length p + length q ≡ at + length (p ++ q) = let w = length-append p q in omega arith in
    ap (λ r. laid_at r n q) (sym (append_assoc (take at s) p x))
    ∙ laid-behind f x q n l
    ∙ ap (λ r. f ++ (q ++ r)) (drop-drop (length q) (at + length p) s ∙ ap (λ k. drop k s) z)
    ∙ append_assoc (take at s) p _
    ∙ ap (λ r. take at s ++ r) (sym (append_assoc p q _))

-- blanks, and the digits behind them, are the number in its columns
pub number-laid : (s d : List ℕ) (at w n : ℕ) → at + w ≤ length s → size n ≤ w
    → d ≡ digits (length (take (at + w - (at + (w - size n))) (drop (at + (w - size n)) (laid_at s at (replicate (at + (w - size n) - at) 32))))) n
    → put_mid (at + (w - size n)) (at + w - (at + (w - size n))) (laid_at s at (replicate (at + (w - size n) - at) 32)) d ≡ laid_at s at (spelled w n)
unfolding spelled
number-laid s d at w n h g e =
    let k : ℕ = size n in
    let a : at + (w - k) - at ≡ w - k = omega arith in
    let b : at + w - (at + (w - k)) ≡ k = omega arith in
    let p : List ℕ = replicate (w - k) 32 in
    let p-long : length p ≡ w - k = length-replicate (w - k) 32 in
    let u : List ℕ = laid_at s at p in
    let u_long : length u ≡ length s = length-laid_at s at p (omega arith) in
    let c : length (take k (drop (at + (w - k)) u)) ≡ k = length-take-le k (drop (at + (w - k)) u) (rw length-drop (omega arith)) in
    let r : d ≡ digits k n = e ∙ ap₂ (λ i j. digits (length (take j (drop (at + (w - k)) (laid_at s at (replicate i 32))))) n) a b ∙ ap (λ j. digits j n) c in
    let r-long : length (digits k n) ≡ k = digits-length k n in
    ap₂ (λ i l. put_mid (at + (w - k)) (at + w - (at + (w - k))) (laid_at s at (replicate i 32)) l) a r
    ∙ ap (λ j. put_mid (at + (w - k)) j u (digits k n)) b
    ∙ put_laid (at + (w - k)) k u (digits k n) r-long
    ∙ laid_two s p (digits k n) at (at + (w - k)) (ap (λ j. at + j) p-long) (omega arith)

-- a number of so many digits has its columns
pub size-columns : (w n m : ℕ) → m ≡ w → 1 ≤ w → n < 10 ^ w → size n ≤ m
size-columns w n m e o h = rw e (size_le 20 n w h o)

module _ (f : Row) (good : Good f) (narrow : f.width ≤ 5) (at n : ℕ) (at_small : at < 10 ^ f.width) (n-small : n < 10 ^ f.width) where
  at_long : length (spelled f.width at) ≡ f.width
  at_long = length-spelled f.width at good.some at_small

  n_long : length (spelled f.width n) ≡ f.width
  n_long = length-spelled f.width n good.some n-small

  -- two numbers behind the fields s
  two_numbers : (s : List ℕ) (from : ℕ) → length s + 1 ≡ from → from ≤ 28
      → laid_at (laid_at (padded s) from (spelled f.width at)) (from + f.width + 1) (spelled f.width n)
      ≡ padded ((s ++ (32 ∷ spelled f.width at)) ++ (32 ∷ spelled f.width n))
  two_numbers s from e h =
      let w : ℕ = f.width in
      let a : List ℕ = spelled f.width at in
      let l : length (s ++ (32 ∷ a)) + 1 ≡ from + w + 1 = let q = length-append s (32 ∷ a) in omega (arith, at_long) in
      ap (λ r. laid_at r (from + w + 1) (spelled f.width n)) (laid-field s a from e (omega (arith, at_long)))
      ∙ laid-field (s ++ (32 ∷ a)) (spelled f.width n) (from + w + 1) l (omega (arith, n_long))

  pub trailer_built : (w : ℕ) → w ≡ f.width → (c r : List ℕ) → c ≡ padded f.trailer
      → r ≡ laid_at (laid_at c 6 (spelled w at)) (6 + w + 1) (spelled w n) → r ≡ trailer_card f at n
  unfolding trailer_card fielded
  trailer_built w p c r d e =
      e ∙ ap₂ (λ i l. laid_at (laid_at l 6 (spelled i at)) (6 + i + 1) (spelled i n)) p d ∙ two_numbers f.trailer 6 (ap (λ k. k + 1) good.trailer5) (omega arith)

  pub entry_built : (h : List ℕ) → 80 ≤ length h → (w : ℕ) → w ≡ f.width → (c d r : List ℕ) → c ≡ padded f.entry
      → d ≡ laid_at (laid_at c 6 (name_of h)) 23 (sequence_of h)
      → r ≡ laid_at (laid_at d 28 (spelled w at)) (28 + w + 1) (spelled w n) → r ≡ entry_card f h at n
  unfolding entry_card fielded
  entry_built h l w p c d r x y e =
      let s : List ℕ = f.entry ++ (32 ∷ name_of h) in
      let t : List ℕ = s ++ (32 ∷ sequence_of h) in
      let s-long : length s ≡ 22 = length-append f.entry (32 ∷ name_of h) ∙ ap₂ (λ i j. i + suc j) good.entry5 (length_name h l) in
      let t_long : length t ≡ 27 = length-append s (32 ∷ sequence_of h) ∙ ap₂ (λ i j. i + suc j) s-long (length_sequence h l) in
      let one : laid_at c 6 (name_of h) ≡ padded s =
      ap (λ m. laid_at m 6 (name_of h)) x ∙ laid-field f.entry (name_of h) 6 (ap (λ k. k + 1) good.entry5) (omega (arith, length_name h l)) in
      let two : d ≡ padded t =
      y ∙ ap (λ m. laid_at m 23 (sequence_of h)) one ∙ laid-field s (sequence_of h) 23 (ap (λ k. k + 1) s-long) (omega (arith, length_sequence h l)) in
      e ∙ ap₂ (λ i m. laid_at (laid_at m 28 (spelled i at)) (28 + i + 1) (spelled i n)) p two ∙ two_numbers t 28 (ap (λ k. k + 1) t_long) (omega arith)

pub number_laid' : (s u d : List ℕ) (at w n k : ℕ) → at + w ≤ length s → size n ≤ w → k ≡ size n
    → u ≡ laid_at s at (replicate (at + (w - k) - at) 32)
    → d ≡ digits (length (take (at + w - (at + (w - k))) (drop (at + (w - k)) u))) n
    → put_mid (at + (w - k)) (at + w - (at + (w - k))) u d ≡ laid_at s at (spelled w n)
number_laid' s u d at w n k h g q x y =
    ap₂ (λ i l. put_mid (at + (w - i)) (at + w - (at + (w - i))) l d) q (x ∙ ap (λ i. laid_at s at (replicate (at + (w - i) - at) 32)) q)
    ∙ number-laid s d at w n h g (y ∙ ap₂ (λ i l. digits (length (take (at + w - (at + (w - i))) (drop (at + (w - i)) l))) n) q (x ∙ ap (λ i. laid_at s at (replicate (at + (w - i) - at) 32)) q))
