-- What a chain over the numbers below n, or over what f makes of them, counts and finds: in the words of `count` and `first`.
use Prim.Native.Nat.{ℕ, zero, suc, ◌+◌, ◌≤◌}
use native.Mathlib.Nat.{add-zero, zero-add}
use native.Mathlib.Numerals.{add-one}
use native.Mathlib.Omega.{arith}
use mathlib.Core.Path.{◌≡◌, refl, sym, ap, ◌∙◌}
use mathlib.Core.Bool.{Bool, true, false, cond, not, ◌||◌}
use mathlib.Core.List.{List, [], ◌∷◌, map}
use lib.Dec.{ltb}
use lib.ListN.{length, length-map}
use borrow.Author.Tests.{lt-ltb, ltb-false}
use Rattle.std.specs.Prelude.{Some, None, unwrap_or, position}
use Rattle.std.specs.List.{range_with_len, filter, list_any, position_or_len}
use Rattle.std.proofs.lemmas.List.FromFn.{length-range_with_len}
use Rattle.base_lists.specs.Count.{bit, count, first, first_from}
use Rattle.base_lists.proofs.Counting.{count_same, count_split}
use Rattle.base_lists.proofs.Finding.{first_le}

module _ (p : ℕ → Bool) where
  -- the number a, and those behind it
  front : (n a : ℕ) → count (λ i. p (a + i)) (suc n) ≡ bit (p a) + count (λ i. p (a + 1 + i)) n
  unfolding count
  front n a =
      let q : ℕ → Bool = λ i. p (a + i) in
      let e : 1 + n ≡ suc n = omega arith in
      let same : count (λ i. q (1 + i)) n ≡ count (λ i. p (a + 1 + i)) n =
      count_same _ _ n (λ i l. let k : a + (1 + i) ≡ a + 1 + i = omega arith in ap p k) in
      omega (arith, ap (count q) e, count_split q 1 n, same, ap (λ m. bit (p m)) (add-zero a))

  from_zero : (n : ℕ) → count (λ i. p (0 + i)) n ≡ count p n
  from_zero n = count_same _ p n (λ i l. ap p (zero-add i))

  length-kept : (b : Bool) (x : ℕ) (xs : List ℕ) → length (cond b (x ∷ xs) xs) ≡ bit b + length xs
  length-kept true x xs = omega arith
  length-kept false x xs = omega arith

  length-filter_from : (n a : ℕ) → length (filter p (range_with_len a n)) ≡ count (λ i. p (a + i)) n
  unfolding count
  length-filter_from zero a = refl
  length-filter_from (suc n) a =
      length-kept (p a) a _ ∙ ap (λ k. bit (p a) + k) (length-filter_from n (a + 1)) ∙ sym (front n a)

  -- how many pass
  pub length-filter_range : (n : ℕ) → length (filter p (range_with_len 0 n)) ≡ count p n
  length-filter_range n = length-filter_from n 0 ∙ from_zero n

  or_more : (b : Bool) (n : ℕ) → (b || ltb 0 n) ≡ ltb 0 (bit b + n)
  or_more true n = sym (lt-ltb 0 (1 + n) (omega arith))
  or_more false n = ap (ltb 0) (sym (zero-add n))

  any_from : (n a : ℕ) → list_any p (range_with_len a n) ≡ ltb 0 (count (λ i. p (a + i)) n)
  unfolding count
  any_from zero a = refl
  any_from (suc n) a =
      ap (λ t. p a || t) (any_from n (a + 1)) ∙ or_more (p a) _ ∙ ap (ltb 0) (sym (front n a))

  -- whether one passes
  pub any_range : (n : ℕ) → list_any p (range_with_len 0 n) ≡ ltb 0 (count p n)
  any_range n = any_from n 0 ∙ ap (ltb 0) (from_zero n)

  position-step : (b : Bool) (n a k : ℕ) → a + 1 + k ≡ first_from p n (suc a) → a + cond (not b) (1 + k) 0 ≡ cond b a (first_from p n (suc a))
  position-step true n a k e = omega arith
  position-step false n a k e = omega (arith, e)

  position_from_lem : (n a : ℕ) → a + position_or_len p (range_with_len a n) ≡ first_from p n a
  unfolding first_from
  position_from_lem zero a = omega arith
  position_from_lem (suc n) a =
      position-step (p a) n a _ (position_from_lem n (a + 1) ∙ ap (first_from p n) (add-one a))

  read : (b : Bool) (n k : ℕ) → ltb k n ≡ b → k ≤ n → unwrap_or (cond b (Some k) None) n ≡ k
  read true n k e l = refl
  read false n k e l = omega (arith, ltb-false k n e, l)

  -- the first that passes, behind all of them where none does
  pub first_position : (n : ℕ) → unwrap_or (position p (range_with_len 0 n)) n ≡ first p n
  unfolding first
  first_position n =
      let e : position_or_len p (range_with_len 0 n) ≡ first p n = omega (arith, position_from_lem n 0) in
      rw (length-range_with_len 0 n, e) (read _ n (first p n) refl (first_le p n))

module _ {X : Type 0} (p : X → Bool) (f : ℕ → X) where
  -- what passes of what f makes of some numbers, and where the first of it stands
  length-filter_map : (xs : List ℕ) → length (filter p (map f xs)) ≡ length (filter (λ i. p (f i)) xs)
  length-filter_map [] = refl
  length-filter_map (x ∷ xs) = go (p (f x)) (length-filter_map xs)
    where
      go : (b : Bool) → length (filter p (map f xs)) ≡ length (filter (λ i. p (f i)) xs)
          → length (cond b (f x ∷ filter p (map f xs)) (filter p (map f xs))) ≡ length (cond b (x ∷ filter (λ i. p (f i)) xs) (filter (λ i. p (f i)) xs))
      go true e = ap suc e
      go false e = e

  position_map : (xs : List ℕ) → position_or_len p (map f xs) ≡ position_or_len (λ i. p (f i)) xs
  position_map [] = refl
  position_map (x ∷ xs) = ap (λ k. cond (not (p (f x))) (1 + k) 0) (position_map xs)

  pub length-filter_made : (n : ℕ) → length (filter p (map f (range_with_len 0 n))) ≡ count (λ i. p (f i)) n
  length-filter_made n = length-filter_map (range_with_len 0 n) ∙ length-filter_range (λ i. p (f i)) n

  pub first_position_made : (n : ℕ) → unwrap_or (position p (map f (range_with_len 0 n))) n ≡ first (λ i. p (f i)) n
  first_position_made n =
      rw (length-map (range_with_len 0 n) f, position_map (range_with_len 0 n)) (first_position (λ i. p (f i)) n)
