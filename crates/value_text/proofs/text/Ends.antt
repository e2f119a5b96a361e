-- Where a text ends, whether it is printable and well formed, and what putting it leaves in the columns.
use Prim.Native.Nat.{ℕ, suc, ◌+◌, ◌-◌, ◌≤◌, ◌<◌}
use native.Mathlib.Omega.{arith}
use native.Mathlib.Numerals.{add-one}
use mathlib.Core.Path.{◌≡◌, refl, sym, ap, ap₂, ◌∙◌}
use mathlib.Core.List.{List, [], ◌∷◌, ◌++◌, reverse}
use mathlib.Core.Bool.{Bool, true, false, cond, ◌&&◌, and_assoc}
use lib.ListN.{length, get_or, take, drop, set, replicate, length-append, length-drop}
use lib.Seq.{take-suc, drop-cons, length-take-le, set_at, append_snoc, take-append_seam}
use lib.Dec.{eqb, leb, eqb-suc-zero}
use Rattle.std.specs.List.{prefix_len, list_all}
use Rattle.std.proofs.lemmas.List.{reverse-append, length-reverse}
use Rattle.std.proofs.lemmas.List.Folds.{prefix_len-append}
use Rattle.std.proofs.lemmas.List.Sums.{prefix_len-le-length}
use Rattle.std.proofs.lemmas.Bool.Decides.{nat_tests}
use borrow.Author.Tests.{ne_eqb, le-leb, lt-leb}
use borrow.Rule.Slice.PartMut.{put_mid}
use Rattle.base_refusal.specs.declared.Unwritten.TheVariants.{Unprintable, Malformed, NoRoom}
use Rattle.base_digits.specs.digits.Columns.{agreed, refused}
use Rattle.base_digits.proofs.digits.Parts.{put_rest, rest_length}
use Rattle.value_text.specs.text.Texts.{text_end, printable, leading_blank, well_formed, text_in}

-- a text ends where the blanks that stand at its end begin
pub end_is : (s : List ℕ) → length s - prefix_len (λ b. eqb b 32) (reverse s) ≡ text_end s
unfolding text_end
end_is [] = refl
end_is (b ∷ s) =
    let blank = λ (x : ℕ). eqb x 32 in
    rw (reverse-append (b ∷ []) s, prefix_len-append blank (reverse s) (b ∷ []), length-reverse s)
    (front (length s) (prefix_len blank (reverse s)) (text_end s) (eqb b 32) (rw length-reverse at (prefix_len-le-length blank (reverse s))) (end_is s))
  where
    front : (l p e : ℕ) (blank : Bool) → p ≤ l → l - p ≡ e → suc l - cond (eqb p l) (l + cond blank 1 0) p ≡ cond (eqb e 0 && blank) 0 (suc e)
    front l p e true h q = grind (arith, nat_tests)
    front l p e false h q = grind (arith, nat_tests)

-- every byte printable, as an iterator asks
pub printable_is : (s : List ℕ) → list_all (λ b. leb 32 b && leb b 126) s ≡ printable s
unfolding printable
printable_is [] = refl
printable_is (b ∷ s) = rw (printable_is s) (and_assoc (leb 32 b) (leb b 126) (printable s))

-- one more byte behind a text that is no blank
end_byte : (t : List ℕ) (b : ℕ) → (b ≡ 32 → ⊥) → text_end (t ++ (b ∷ [])) ≡ suc (length t)
unfolding text_end
end_byte [] b h = rw (ne_eqb b 32 h)
end_byte (x ∷ t) b h = rw (end_byte t b h, eqb-suc-zero (length t))

-- what does not end in a blank ends there
pub end_stops : (i : ℕ) (s : List ℕ) → 0 < i → i ≤ length s → (get_or s (i - 1) 0 ≡ 32 → ⊥) → text_end (take i s) ≡ i
end_stops i s some inside h =
    let e : i ≡ suc (i - 1) = omega arith in
    ap text_end (ap (λ k. take k s) e ∙ take-suc s (i - 1) 0 (omega arith))
    ∙ end_byte (take (i - 1) s) (get_or s (i - 1) 0) h
    ∙ ap suc (length-take-le (i - 1) s (omega arith)) ∙ sym e

-- one more byte copied to the front of d
pub copied : (i : ℕ) (t d : List ℕ) → i < length t → i < length d
    → set (take i t ++ drop i d) i (get_or t i 0) ≡ take (i + 1) t ++ drop (i + 1) d
copied i t d h k =
    ap (λ (l : List ℕ). set (take i t ++ l) i (get_or t i 0)) (drop-cons d i 0 k)
    ∙ set_at (take i t) (get_or d i 0) (drop (suc i) d) (get_or t i 0) i (length-take-le i t (omega arith))
    ∙ sym (append_snoc (take i t) (get_or t i 0) (drop (suc i) d))
    ∙ ap (λ (l : List ℕ). l ++ drop (suc i) d) (sym (take-suc t i 0 h))
    ∙ ap (λ k. take k t ++ drop k d) (sym (add-one i))

-- whether a text begins with a blank, and whether it may be put
pub blank_none : (s : List ℕ) → length s ≡ 0 → leading_blank s ≡ false
unfolding leading_blank
blank_none [] h = refl
blank_none (b ∷ s) h = absurd (omega arith)

pub blank_some : (s : List ℕ) → (length s ≡ 0 → ⊥) → leading_blank s ≡ eqb (get_or s 0 0) 32
unfolding leading_blank
blank_some [] h = absurd (h refl)
blank_some (b ∷ s) h = refl

module _ (lead : Bool) (w : ℕ) (t : List ℕ) where
  pub text_unprintable : printable t ≡ false → text_in lead w t ≡ refused Unprintable
  unfolding text_in
  text_unprintable h = rw h

  module _ (p : printable t ≡ true) where
    pub text_malformed : well_formed lead t ≡ false → text_in lead w t ≡ refused Malformed
    unfolding text_in
    text_malformed h = rw (p, h)

    module _ (f : well_formed lead t ≡ true) where
      pub text_no_room : w < length t → text_in lead w t ≡ refused NoRoom
      unfolding text_in
      text_no_room h = rw (p, f, lt-leb (length t) w h)

      pub text-agreed : length t ≤ w → text_in lead w t ≡ agreed (t ++ replicate (w - length t) 32)
      unfolding text_in
      text-agreed h = rw (p, f, le-leb (length t) w h)

-- the columns behind the text filled with blanks
pub filled : (d t l u : List ℕ) → length t ≤ length d → l ≡ t ++ drop (length t) d
    → u ≡ replicate (length (take (length l - length t) (drop (length t) l))) 32
    → put_mid (length t) (length l - length t) l u ≡ t ++ replicate (length d - length t) 32
filled d t l u h q e =
    put_rest (length t) l u
    ∙ ap₂ (λ (x y : List ℕ). x ++ y) (ap (take (length t)) q ∙ take-append_seam t (drop (length t) d))
    (e ∙ ap (λ n. replicate n 32) (rest_length (length t) l ∙ ap (λ n. n - length t) same))
  where
    same : length l ≡ length d
    same = ap length q ∙ length-append t (drop (length t) d) ∙ rw (length-drop (length t) d) (omega arith)
