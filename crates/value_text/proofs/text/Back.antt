-- A text that was put is the text that is handed back.
use Prim.Native.Nat.{ℕ, zero, suc, ◌+◌, ◌-◌, ◌≤◌}
use native.Mathlib.Omega.{arith}
use mathlib.Core.Path.{◌≡◌, refl, sym, ap, subst, ◌∙◌}
use mathlib.Core.List.{List, [], ◌∷◌, ◌++◌}
use mathlib.Core.Bool.{Bool, true, false, cond, ◌&&◌, ◌||◌, not}
use lib.ListN.{length, take, replicate, length-append, length-replicate}
use lib.Seq.{take-append_seam}
use lib.Dec.{eqb, leb}
use borrow.Author.Tests.{eqb-true, eqb-false, leb-true, not-true}
use Rattle.base_digits.specs.digits.Columns.{agreed, refused}
use Rattle.base_refusal.specs.declared.Unwritten.TheVariants.{Unprintable, Malformed, NoRoom}
use Rattle.base_digits.proofs.digits.Bools.{and_left, and_right}
use Rattle.value_text.specs.text.Texts.{text_end, text_of, printable, leading_blank, well_formed, text_in}

-- blanks behind a text are no part of it
pub end_blanks : (t : List ℕ) (k : ℕ) → text_end (t ++ replicate k 32) ≡ text_end t
unfolding text_end
end_blanks [] zero = refl
end_blanks [] (suc k) = rw (end_blanks [] k)
end_blanks (x ∷ t) k = rw (end_blanks t k)

lead_append : (t r : List ℕ) → (length t ≡ 0 → ⊥) → leading_blank (t ++ r) ≡ leading_blank t
unfolding leading_blank
lead_append [] r h = absurd (h refl)
lead_append (b ∷ t) r h = refl

shown : (s : List ℕ) → text_of s ≡ take (text_end s) s
unfolding text_of
shown s = refl

-- what is known of a text that may be put
record Formed (lead : Bool) (t : List ℕ) : Type 0 where
  some : length t ≡ 0 → ⊥
  whole : text_end t ≡ length t
  front : (lead || not (leading_blank t)) ≡ true

formed : (lead : Bool) (t : List ℕ) → well_formed lead t ≡ true → Formed lead t
unfolding well_formed
formed lead t e =
    let a = not (eqb (length t) 0) in
    let b = eqb (text_end t) (length t) in
    let f = lead || not (leading_blank t) in
    record {
      some = eqb-false (length t) 0 (not-true (eqb (length t) 0) (and_left a (b && f) e));
      whole = eqb-true (text_end t) (length t) (and_left b f (and_right a (b && f) e));
      front = and_right b f (and_right a (b && f) e);
    }

-- what stands in the columns of a text that was put
pub record PutText (lead : Bool) (w : ℕ) (t u : List ℕ) : Type 0 where
  pub text : text_of u ≡ t
  pub width : length u ≡ w
  pub some : text_end u ≡ 0 → ⊥
  pub front : (lead || not (leading_blank u)) ≡ true

pub text_back : (lead : Bool) (w : ℕ) (t u : List ℕ) → text_in lead w t ≡ agreed u → PutText lead w t u
unfolding text_in
text_back lead w t u e = go (printable t) (well_formed lead t) (leb (length t) w) refl refl e
  where
    put : Formed lead t → length t ≤ w → PutText lead w t (t ++ replicate (w - length t) 32)
    put f r =
        let end : text_end (t ++ replicate (w - length t) 32) ≡ length t = end_blanks t (w - length t) ∙ f.whole in
        record {
          text = shown (t ++ replicate (w - length t) 32) ∙ ap (λ k. take k (t ++ replicate (w - length t) 32)) end ∙ take-append_seam t (replicate (w - length t) 32);
          width = length-append t (replicate (w - length t) 32) ∙ ap (λ k. length t + k) (length-replicate (w - length t) 32) ∙ omega arith;
          some = λ z. f.some (sym end ∙ z);
          front = ap (λ b. lead || not b) (lead_append t (replicate (w - length t) 32) f.some) ∙ f.front;
        }

    go : (p f r : Bool) → well_formed lead t ≡ f → leb (length t) w ≡ r
        → cond (not p) (refused Unprintable) (cond (not f) (refused Malformed) (cond r (agreed (t ++ replicate (w - length t) 32)) (refused NoRoom))) ≡ agreed u
        → PutText lead w t u
    go true true true q r h =
        let is : t ++ replicate (w - length t) 32 ≡ u = cc in
        subst (λ (l : List ℕ). PutText lead w t l) is (put (formed lead t q) (leb-true (length t) w r))
    go true true false q r h = let x : ◌≡◌ {A = ℕ} 0 1 = cc in absurd (omega arith)
    go true false b q r h = let x : ◌≡◌ {A = ℕ} 0 1 = cc in absurd (omega arith)
    go false a b q r h = let x : ◌≡◌ {A = ℕ} 0 1 = cc in absurd (omega arith)
