-- A text that was read can be put back, and leaves the very columns it was read from.
use Prim.Native.Nat.{ℕ, zero, suc, ◌-◌, ◌≤◌}
use native.Mathlib.Omega.{arith}
use native.Mathlib.Nat.{sub-zero, suc-sub-suc}
use mathlib.Core.Path.{◌≡◌, refl, sym, ap, ap₂, ◌∙◌}
use mathlib.Core.List.{List, [], ◌∷◌, ◌++◌}
use mathlib.Core.Bool.{Bool, true, false, cond, ◌&&◌, ◌||◌, not}
use lib.ListN.{length, take, drop, replicate, take-append-drop}
use lib.Seq.{length-take-le}
use lib.Dec.{eqb, leb}
use borrow.Author.Tests.{eqb-true, ne_eqb, eq-eqb}
use Rattle.base_digits.specs.digits.Columns.{agreed}
use Rattle.base_digits.proofs.digits.Bools.{and_left, and_right, and_both}
use Rattle.value_text.specs.text.Texts.{text_end, text_of, printable, leading_blank, well_formed, text_in}
use Rattle.value_text.proofs.text.Ends.{text-agreed}

-- what stands behind a text is blank
pub blank_behind : (s : List ℕ) → drop (text_end s) s ≡ replicate (length s - text_end s) 32
unfolding text_end
blank_behind [] = refl
blank_behind (b ∷ s) = go (eqb (text_end s) 0 && eqb b 32) refl (blank_behind s)
  where
    go : (t : Bool) → (eqb (text_end s) 0 && eqb b 32) ≡ t → drop (text_end s) s ≡ replicate (length s - text_end s) 32
        → drop (cond t 0 (suc (text_end s))) (b ∷ s) ≡ replicate (suc (length s) - cond t 0 (suc (text_end s))) 32
    go true q h =
        let e : text_end s ≡ 0 = eqb-true (text_end s) 0 (and_left (eqb (text_end s) 0) (eqb b 32) q) in
        let f : b ≡ 32 = eqb-true b 32 (and_right (eqb (text_end s) 0) (eqb b 32) q) in
        let r : s ≡ replicate (length s) 32 = rw (e, sub-zero (length s)) at h in
        rw (sub-zero (suc (length s))) (ap₂ (λ x l. x ∷ l) f r)
    go false q h = rw (suc-sub-suc (length s) (text_end s)) h

pub end_le : (s : List ℕ) → text_end s ≤ length s
unfolding text_end
end_le [] = omega arith
end_le (b ∷ s) = go (eqb (text_end s) 0 && eqb b 32) (end_le s)
  where
    go : (t : Bool) → text_end s ≤ length s → cond t 0 (suc (text_end s)) ≤ suc (length s)
    go true h = omega arith
    go false h = omega arith

-- a text ends where it ends
end_front : (s : List ℕ) → text_end (take (text_end s) s) ≡ text_end s
unfolding text_end
end_front [] = refl
end_front (b ∷ s) = go (eqb (text_end s) 0 && eqb b 32) refl (end_front s)
  where
    go : (t : Bool) → (eqb (text_end s) 0 && eqb b 32) ≡ t → text_end (take (text_end s) s) ≡ text_end s
        → text_end (take (cond t 0 (suc (text_end s))) (b ∷ s)) ≡ cond t 0 (suc (text_end s))
    go true q h = refl
    go false q h = rw (h, q)

pub printable_front : (k : ℕ) (s : List ℕ) → printable s ≡ true → printable (take k s) ≡ true
unfolding printable
printable_front zero s h = refl
printable_front (suc k) [] h = refl
printable_front (suc k) (b ∷ s) h =
    let x = leb 32 b in
    let y = leb b 126 in
    let r = and_right x (y && printable s) h in
    and_both x (y && printable (take k s)) (and_left x (y && printable s) h)
    (and_both y (printable (take k s)) (and_left y (printable s) r) (printable_front k s (and_right y (printable s) r)))

lead_front : (k : ℕ) (s : List ℕ) → (k ≡ 0 → ⊥) → leading_blank (take k s) ≡ leading_blank s
unfolding leading_blank
lead_front zero s h = absurd (h refl)
lead_front (suc k) [] h = refl
lead_front (suc k) (b ∷ s) h = refl

module _ (lead : Bool) (s : List ℕ) (some : text_end s ≡ 0 → ⊥) (front : (lead || not (leading_blank s)) ≡ true) where
  text-length : length (take (text_end s) s) ≡ text_end s
  text-length = length-take-le (text_end s) s (end_le s)

  formed : well_formed lead (take (text_end s) s) ≡ true
  unfolding well_formed
  formed =
      rw (text-length, end_front s, ne_eqb (text_end s) 0 some, eq-eqb (text_end s) (text_end s) refl, lead_front (text_end s) s some) front

  pub text-again : printable s ≡ true → text_in lead (length s) (text_of s) ≡ agreed s
  unfolding text_of
  text-again p =
      text-agreed lead (length s) (take (text_end s) s) (printable_front (text_end s) s p) formed (rw text-length (end_le s))
      ∙ ap agreed
      (ap (λ k. take (text_end s) s ++ replicate (length s - k) 32) text-length
      ∙ ap (λ (l : List ℕ). take (text_end s) s ++ l) (sym (blank_behind s))
      ∙ take-append-drop (text_end s) s)
