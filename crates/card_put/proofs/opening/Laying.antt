-- What is laid on a new card, and which answer goes with it.
use Prim.Native.Nat.{ℕ, zero, suc, ◌+◌, ◌-◌, ◌≤◌, ◌<◌}
use native.Mathlib.Omega.{arith}
use native.Mathlib.Nat.{sub-zero}
use native.Mathlib.Decide.{ℕ_discrete}
use mathlib.Core.Path.{◌≡◌, refl, sym, ap, ap₂, ◌∙◌}
use mathlib.Core.List.{List, [], ◌∷◌, ◌++◌}
use lib.ListN.{length, get_or, take, drop, set, replicate, length-append, length-replicate, length-drop}
use lib.Seq.{take-append_seam}
use borrow.Author.Tests.{ne_eqb}
use borrow.Rule.Slice.PartMut.{put_mid}
use Rattle.base_digits.proofs.digits.Parts.{put_rest, rest_length}
use Rattle.value_text.proofs.text.Ends.{copied}
use Rattle.format_code.specs.declared.Code.{Code}
use Rattle.format_code.specs.declared.Code.TheVariants as code
use Rattle.format_code.specs.Codes.{code_of}
use Rattle.format_code.proofs.Walk.{wrong_length}
use Rattle.base_refusal.specs.Refusals.{refusal}
use Rattle.card_put.specs.opening.Opening.{labelled, new_card, code_answer, opened_of, card_with, opened_card}
use Rattle.std.specs.Prelude.{Err}

zero_one : ◌≡◌ {A = ℕ} 0 1 → ⊥
zero_one h = omega arith

-- a label with blanks behind it, byte by byte
blank_at : (n i : ℕ) → i < n → ◌≡◌ {A = ℕ} (get_or (replicate n 32) i 0) 32
blank_at zero i h = absurd (omega arith)
blank_at (suc n) zero h = refl
blank_at (suc n) (suc i) h = blank_at n i (omega arith)

padded_at : (l : List ℕ) (n i : ℕ) → i < length l + n → get_or (l ++ replicate n 32) i 0 ≡ get_or l i 32
padded_at [] n i h = blank_at n i (omega arith)
padded_at (x ∷ l) n zero h = refl
padded_at (x ∷ l) n (suc i) h = padded_at l n i (omega arith)

pub labelled-length : (l : List ℕ) (w : ℕ) → length l ≤ w → length (labelled l w) ≡ w
unfolding labelled
labelled-length l w h = length-append l (replicate (w - length l) 32) ∙ rw length-replicate (omega arith)

-- one more byte of them
pub laid_on : (i : ℕ) (l d : List ℕ) (b : ℕ) → length l ≤ length d → i < length d → b ≡ get_or l i 32
    → set (take i (labelled l (length d)) ++ drop i d) i b ≡ take (i + 1) (labelled l (length d)) ++ drop (i + 1) d
unfolding labelled
laid_on i l d b h k e =
    ap (set (take i (labelled l (length d)) ++ drop i d) i) (e ∙ sym (padded_at l (length d - length l) i (omega arith)))
    ∙ copied i (labelled l (length d)) d (omega (arith, labelled-length l (length d) h)) k

-- a code in front, and what is put behind it
pub laid-behind : (t s l u label : List ℕ) → length t ≡ 5 → length s ≡ 80 → l ≡ t ++ drop (length t) s
    → u ≡ labelled label (length (take (length l - 5) (drop 5 l))) → put_mid 5 (length l - 5) l u ≡ new_card t label
unfolding new_card
laid-behind t s l u label five whole q e =
    put_rest 5 l u
    ∙ ap₂ (λ (x y : List ℕ). x ++ y)
    (ap (λ n. take n l) (sym five) ∙ ap (take (length t)) q ∙ take-append_seam t (drop (length t) s))
    (e ∙ ap (labelled label) (rest_length 5 l ∙ room))
  where
    room : length l - 5 ≡ 75
    room = omega (arith, ap length q, length-append t (drop (length t) s), length-drop (length t) s)

pub no_label-behind : (n : ℕ) → labelled [] n ≡ replicate n 32
unfolding labelled
no_label-behind n = rw (sub-zero n)

-- the answer and the card, by the card's length and the code
module _ (t s : List ℕ) where
  pub open_none : length s ≡ 0 → opened_of t (length s) ≡ Err (refusal 1 0 0)
  unfolding opened_of
  open_none h = rw h

  pub open_odd : (length s ≡ 0 → ⊥) → (length s ≡ 80 → ⊥) → opened_of t (length s) ≡ Err (refusal 2 0 0)
  unfolding opened_of
  open_odd g h = rw (ne_eqb (length s) 0 g, ne_eqb (length s) 80 h)

  pub kept_odd : (length s ≡ 80 → ⊥) → opened_card t s ≡ s
  unfolding opened_card
  kept_odd h = rw (ne_eqb (length s) 80 h)

  module _ (whole : length s ≡ 80) (k : Code) (is : code_of t ≡ k) where
    pub open_coded : opened_of t (length s) ≡ code_answer k
    unfolding opened_of
    open_coded = rw (whole, is)

    pub card_coded : opened_card t s ≡ card_with k t s
    unfolding opened_card
    card_coded = rw (whole, is)

-- a code that is known has five bytes
known_length : (t : List ℕ) → (code.Unknown ≡ code_of t → ⊥) → length t ≡ 5
known_length t h = elim (ℕ_discrete (length t) 5) [ yes q ↦ q | no q ↦ absurd (h (wrong_length t q)) ]

pub passed_length : (t : List ℕ) → code_of t ≡ code.Passed → length t ≡ 5
passed_length t e = known_length t (λ q. apart (q ∙ e))
  where
    apart : code.Unknown ≡ code.Passed → ⊥
    apart h = zero_one cc

pub read_length : (t : List ℕ) (k : ℕ) → code_of t ≡ code.Read k → length t ≡ 5
read_length t k e = known_length t (λ q. apart (q ∙ e))
  where
    apart : code.Unknown ≡ code.Read k → ⊥
    apart h = zero_one cc
