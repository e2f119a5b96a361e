-- What is looked for in the columns that can carry a tie is looked for in all columns of a card.
use Prim.Native.Nat.{ℕ, zero, suc, ◌+◌, ◌≤◌}
use native.Mathlib.Nat.{add_comm}
use native.Mathlib.Numerals.{one-add}
use native.Mathlib.Omega.{arith}
use mathlib.Core.Path.{◌≡◌, refl, sym, ap, ◌∙◌}
use mathlib.Core.Bool.{Bool, true, false}
use mathlib.Core.List.{List, [], ◌∷◌}
use lib.ListN.{length, get_or}
use Rattle.base_lists.specs.Count.{bit, count}
use Rattle.base_lists.specs.Parts.{keep, kept, up_to}
use Rattle.base_lists.proofs.Counting.{count_none, count_same, count_split}
use Rattle.base_lists.proofs.Keeping.{length-kept}
use Rattle.tie_rules.specs.Ties.{can_tie, tie_columns}
use Rattle.tie_rules.proofs.columns.Tied.{none_at_zero, at_most_five}

-- a test that passes only where another does keeps the same of what that one keeps
pub kept-within {ℓ} : {A : Type ℓ} (q r : A → Bool) → ((a : A) → r a ≡ false → q a ≡ false) → (l : List A)
    → kept q (kept r l) ≡ kept q l
unfolding kept
kept-within q r f [] = refl
kept-within q r f (x ∷ l) = go (r x) refl (kept-within q r f l)
  where
    go : (b : Bool) → r x ≡ b → kept q (kept r l) ≡ kept q l → kept q (keep b x (kept r l)) ≡ keep (q x) x (kept q l)
    go true e ih = ap (keep (q x) x) ih
    go false e ih = rw (f x e) ih

-- as many of a list pass as of its places
length-kept_at : (p : ℕ → Bool) → p 0 ≡ false → (l : List ℕ) (n : ℕ) → length l ≤ n
    → length (kept p l) ≡ count (λ i. p (get_or l i 0)) n
unfolding kept count
length-kept_at p z [] n h = sym (count_none (λ i. p 0) n (λ i k. z))
length-kept_at p z (x ∷ l) zero h = absurd (omega arith)
length-kept_at p z (x ∷ l) (suc n) h =
    let rest = length-kept_at p z l n (omega arith) in
    let split = count_split (λ i. p (get_or (x ∷ l) i 0)) 1 n in
    let same : count (λ i. p (get_or (x ∷ l) (1 + i) 0)) n ≡ count (λ i. p (get_or l i 0)) n =
    count_same _ (λ i. p (get_or l i 0)) n (λ i k. ap (λ j. p (get_or (x ∷ l) j 0)) (one-add i)) in
    omega (arith, one (p x), ap (count (λ i. p (get_or (x ∷ l) i 0))) (one-add n))
  where
    one : (b : Bool) → length (keep b x (kept p l)) ≡ bit b + length (kept p l)
    one true = omega arith
    one false = omega arith

module _ (k : ℕ) (p : ℕ → Bool) (idle : (column : ℕ) → can_tie k column ≡ false → p column ≡ false) where
  pub kept_slots : kept p (tie_columns k) ≡ kept p (up_to 81)
  unfolding tie_columns
  kept_slots = kept-within p (can_tie k) idle (up_to 81)

  pub by_slots : count (λ j. p (j + 1)) 80 ≡ count (λ i. p (get_or (tie_columns k) i 0)) 5
  by_slots =
      let z : p 0 ≡ false = idle 0 (none_at_zero k) in
      let all : length (kept p (tie_columns k)) ≡ count p 81 = ap length kept_slots ∙ length-kept p 81 in
      let none : count p 1 ≡ 0 = count_none p 1 (λ i l. let e : i ≡ 0 = omega arith in ap p e ∙ z) in
      let same : count (λ j. p (j + 1)) 80 ≡ count (λ j. p (1 + j)) 80 =
      count_same _ (λ j. p (1 + j)) 80 (λ j l. ap p (add_comm j 1)) in
      omega (arith, count_split p 1 80, length-kept_at p z (tie_columns k) 5 (at_most_five k))
