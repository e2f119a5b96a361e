-- What a walk over columns from the front knows at each step: over the digits of a number, and over the blanks before it.
use Prim.Native.Nat.{ℕ, zero, suc, ◌+◌, ◌-◌, ◌*◌, ◌≤◌, ◌<◌}
use native.Mathlib.Omega.{arith}
use native.Mathlib.Numerals.{add-one, one-add}
use native.Mathlib.Nat.{zero-add, add-zero}
use mathlib.Core.Path.{◌≡◌, refl, sym, ap, ap₂, ◌∙◌}
use mathlib.Core.List.{List, [], ◌∷◌, ◌++◌}
use mathlib.Core.Bool.{Bool, true, false, cond}
use lib.ListN.{length, get_or, take, drop, replicate, drop_of_length-le}
use lib.Seq.{drop-cons, take-length}
use lib.Dec.{eqb}
use Rattle.std.specs.List.{prefix_len}
use borrow.Author.Tests.{le-leb, lt-leb, eqb-true}
use Rattle.base_digits.specs.declared.digits.Run.{Run}
use Rattle.base_digits.specs.digits.Figures.{is_digit, blanks, unpadded, leading, value_from, limit, capped, run_of}

pub is_digit_lem : (b : ℕ) → 48 ≤ b → b ≤ 57 → is_digit b ≡ true
is_digit_lem b l m = simp (le-leb 48 b l, le-leb b 57 m)

pub below_digit : (b : ℕ) → b < 48 → is_digit b ≡ false
below_digit b l = simp (lt-leb 48 b l)

pub above_digit : (b : ℕ) → 57 < b → is_digit b ≡ false
above_digit b m = simp (le-leb 48 b (omega arith), lt-leb b 57 m)

-- what is capped early is capped late
pub cap_early : (n : ℕ) (t : List ℕ) → capped (value_from (capped n) t) ≡ capped (value_from n t)
unfolding value_from
cap_early n [] = omega arith
cap_early n (b ∷ t) =
    sym (cap_early (capped n * 10 + (b - 48)) t)
    ∙ ap (λ k. capped (value_from k t)) (omega arith)
    ∙ cap_early (n * 10 + (b - 48)) t

-- the walk's answer from place i on, n being the number so far
unfoldable pub run_from : ℕ → ℕ → List ℕ → Run
run_from n i t = record { number = capped (value_from n (leading t)); count = i + length (leading t) }

pub run_starts : (n : ℕ) (s : List ℕ) → run_of n s ≡ run_from (capped n) 0 (drop 0 s)
unfolding run_from
run_starts n s = simp (cap_early n (leading s), zero-add)

same_run : {m n i j : ℕ} → m ≡ n → i ≡ j → ◌≡◌ {A = Run} (record { number = m; count = i }) (record { number = n; count = j })
same_run p q = λ x. record { number = p x; count = q x }

module _ (n i : ℕ) (s : List ℕ) (inside : i < length s) where
  pub run_stops : n ≤ limit → is_digit (get_or s i 0) ≡ false → run_from n i (drop i s) ≡ record { number = n; count = i }
  unfolding run_from leading value_from
  run_stops h d = rw (drop-cons s i 0 inside, d) (same_run (omega arith) (add-zero i))

  pub run_goes : is_digit (get_or s i 0) ≡ true
      → run_from n i (drop i s) ≡ run_from (capped (n * 10 + (get_or s i 0 - 48))) (i + 1) (drop (i + 1) s)
  unfolding run_from leading value_from
  run_goes d =
      rw (drop-cons s i 0 inside, d, add-one i)
      (same_run (sym (cap_early (n * 10 + (get_or s i 0 - 48)) (leading (drop (suc i) s)))) (omega arith))

pub run_ends : (n i : ℕ) (s : List ℕ) → n ≤ limit → length s ≤ i → run_from n i (drop i s) ≡ record { number = n; count = i }
unfolding run_from leading value_from
run_ends n i s h e = rw (drop_of_length-le s e) (same_run (omega arith) (add-zero i))

-- how many blanks stand at the front, as an iterator takes them
pub blanks_are : (s : List ℕ) → prefix_len (λ b. eqb b 32) s ≡ blanks s
unfolding blanks
blanks_are [] = refl
blanks_are (b ∷ s) = rw (blanks_are s, one-add)

-- digits behind digits
pub value_append : (n : ℕ) (s t : List ℕ) → value_from n (s ++ t) ≡ value_from (value_from n s) t
unfolding value_from
value_append n [] t = refl
value_append n (b ∷ s) t = value_append (n * 10 + (b - 48)) s t

-- the digits at the front are a part of the front
pub leading-take : (s : List ℕ) → leading s ≡ take (length (leading s)) s
unfolding leading
leading-take [] = refl
leading-take (b ∷ s) = go (is_digit b) (leading-take s)
  where
    go : (d : Bool) → leading s ≡ take (length (leading s)) s
        → cond d (b ∷ leading s) [] ≡ take (length (cond d (b ∷ leading s) [])) (b ∷ s)
    go true h = ap (λ l. b ∷ l) h
    go false h = refl

-- digits alone are their own front
pub all-leading : (s : List ℕ) → length (leading s) ≡ length s → leading s ≡ s
all-leading s h = leading-take s ∙ ap (λ k. take k s) h ∙ take-length s

-- columns that are all blank
pub blank_all : (w : ℕ) → blanks (replicate w 32) ≡ w
unfolding blanks
blank_all zero = refl
blank_all (suc w) = ap suc (blank_all w)

pub all_blank : (s : List ℕ) → blanks s ≡ length s → s ≡ replicate (length s) 32
unfolding blanks
all_blank [] h = refl
all_blank (b ∷ s) h = go (eqb b 32) refl (λ k. all_blank s k) h
  where
    go : (t : Bool) → eqb b 32 ≡ t → (blanks s ≡ length s → s ≡ replicate (length s) 32)
        → cond t (suc (blanks s)) 0 ≡ suc (length s) → b ∷ s ≡ 32 ∷ replicate (length s) 32
    go true q r e = ap₂ (λ x l. x ∷ l) (eqb-true b 32 q) (r (omega arith))
    go false q r e = absurd (omega arith)

-- and nothing else is left of them without their blanks
pub unpadded-none : (s : List ℕ) → unpadded s ≡ [] → blanks s ≡ length s
unfolding unpadded blanks
unpadded-none [] h = refl
unpadded-none (b ∷ s) h = go (eqb b 32) (unpadded-none s) h
  where
    go : (t : Bool) → (drop (blanks s) s ≡ [] → blanks s ≡ length s) → drop (cond t (suc (blanks s)) 0) (b ∷ s) ≡ []
        → cond t (suc (blanks s)) 0 ≡ suc (length s)
    go true r e = ap suc (r e)
    go false r e = let x : ◌≡◌ {A = ℕ} 0 1 = cc in absurd (omega arith)
