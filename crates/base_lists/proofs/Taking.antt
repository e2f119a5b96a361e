-- Some of the numbers below n are taken away: those that stay close up, and so does what is made of them.
-- Assumes nothing.
use mathlib.Core.Path.{◌≡◌, refl, sym, ◌∙◌, ap}
use mathlib.Core.Bool.{Bool, true, false, not}
use mathlib.Core.List.{List, [], ◌∷◌, ◌++◌, flat_map, append-nil}
use Prim.Native.Nat.{ℕ, zero, suc, ◌+◌, ◌*◌, ◌≤◌, ◌<◌}
use native.Mathlib.Nat.{le_step, lt-suc_self, mul-zero, mul-one, mul-add, add-zero}
use native.Mathlib.Numerals.{add-one}
use native.Mathlib.Decide.{ℕ_discrete}
use native.Mathlib.Omega.{arith}
use lib.Dec.{ltb}
use lib.ListN.{length, length-append}
use lib.Seq.{take-length}
use borrow.Author.Tests.{lt-ltb, le-ltb, ltb-true, ltb-false}
use Rattle.base_lists.specs.Count.{bit, count, first}
use Rattle.base_lists.specs.Parts.{part, keep, kept, up_to}
use Rattle.base_lists.proofs.Counting.{bit_le, count_more, count_hit, count_miss, count_mono}
use Rattle.base_lists.proofs.Finding.{first_below, first_passes, first_unique, first-least}
use Rattle.base_lists.proofs.Keeping.{kept_more}
use Rattle.base_lists.proofs.Entries.{entries-append, entries_more}
use Rattle.base_lists.proofs.Moving.{Placed}
use Rattle.base_lists.proofs.Parting.{part_left, part_right}

-- those that fail a test and those that pass it are all
pub count-not : (p : ℕ → Bool) (n : ℕ) → count (λ i. not (p i)) n + count p n ≡ n
unfolding count
count-not p zero = refl
count-not p (suc n) = omega (arith, count-not p n, one (p n))
  where
    one : (b : Bool) → bit (not b) + bit b ≡ 1
    one true = refl
    one false = refl

module _ (stays : ℕ → Bool) where
  -- the number that takes a place: the first with more that stay up to it than there are places before
  abbrev pub taker : ℕ → ℕ → ℕ
  taker n j = first (λ i. ltb j (count stays (i + 1))) n

  -- it stays, and has that many before it that do
  pub record Takes (n j : ℕ) : Type 0 where
    pub below : taker n j < n
    pub passes : stays (taker n j) ≡ true
    pub place : count stays (taker n j) ≡ j

  taker_below : (n j : ℕ) → j < count stays n → taker n j < n
  unfolding count
  taker_below zero j l = absurd (omega arith)
  taker_below (suc n) j l =
      omega (arith, first-least (λ i. ltb j (count stays (i + 1))) (suc n) n (lt-ltb j (count stays (n + 1)) (rw (count_more stays n) l)))

  few-before : (i j : ℕ) → ((k : ℕ) → k < i → ltb j (count stays (k + 1)) ≡ false) → count stays i ≤ j
  unfolding count
  few-before zero j e = omega arith
  few-before (suc i) j e = rw (← count_more stays i) (ltb-false j (count stays (i + 1)) (e i (lt-suc_self i)))

  pub takes : (n j : ℕ) → j < count stays n → Takes n j
  takes n j h = record {
    below = low;
    passes = go (stays (taker n j)) refl;
    place = omega (arith, most, more, count_more stays (taker n j), bit_le (stays (taker n j)));
  }
    where
      low : taker n j < n
      low = taker_below n j h

      more : j < count stays (taker n j + 1)
      more = ltb-true j (count stays (taker n j + 1)) (first_passes (λ i. ltb j (count stays (i + 1))) n low)

      most : count stays (taker n j) ≤ j
      most = few-before (taker n j) j (first_below (λ i. ltb j (count stays (i + 1))) n)

      go : (b : Bool) → stays (taker n j) ≡ b → b ≡ true
      go true e = refl
      go false e = absurd (omega (arith, most, more, count_miss stays (taker n j) e))

  -- a number that stays takes the place that it goes to
  pub taken_back : (n i : ℕ) → i < n → stays i ≡ true → taker n (count stays i) ≡ i
  taken_back n i l t = first_unique (λ k. ltb (count stays i) (count stays (k + 1))) n i l
      (lt-ltb (count stays i) (count stays (i + 1)) (omega (arith, count_hit stays i t)))
      (λ k m. le-ltb (count stays i) (count stays (k + 1)) (count_mono stays (k + 1) i (omega arith)))

  -- before it come fewer that stay than there are
  pub below_all : (n i : ℕ) → i < n → stays i ≡ true → count stays i < count stays n
  below_all n i l t = omega (arith, count_hit stays i t, count_mono stays (i + 1) n (omega arith))

  -- a number that stays goes to the place that has as many before it as stay before the number
  abbrev pub closed_up : {n m : ℕ} → m ≡ count stays n → Placed stays n m
  closed_up {n} e = record {
    to = count stays;
    from = taker n;
    to_below = λ i l t. omega (arith, e, below_all n i l t);
    from_below = λ j l. (takes n j (omega arith)).below;
    from-stays = λ j l. (takes n j (omega arith)).passes;
    from-to = taken_back n;
    to-from = λ j l. (takes n j (omega arith)).place;
  }

  -- lists made of the places, one after the other, are those made of the numbers, if the others make nothing
  pub flat_closed : {A : Type 0} (g f : ℕ → List A) (n : ℕ) → ((i : ℕ) → i < n → stays i ≡ true → g (count stays i) ≡ f i)
      → ((i : ℕ) → i < n → stays i ≡ false → f i ≡ []) → flat_map g (up_to (count stays n)) ≡ flat_map f (up_to n)
  unfolding count up_to flat_map
  flat_closed g f zero same none = refl
  flat_closed g f (suc n) same none =
      go (stays n) refl (flat_closed g f n (λ i l. same i (le_step l)) (λ i l. none i (le_step l)))
    where
      go : (b : Bool) → stays n ≡ b → flat_map g (up_to (count stays n)) ≡ flat_map f (up_to n)
          → flat_map g (up_to (count stays n + bit (stays n))) ≡ flat_map f (up_to n ++ (n ∷ []))
      go true e ih = rw (e, add-one, entries_more g (up_to (count stays n)) (count stays n), entries_more f (up_to n) n, ih, same n (lt-suc_self n) e)
      go false e ih = rw (e, add-zero, entries_more f (up_to n) n, none n (lt-suc_self n) e, append-nil) ih

  -- entries of one size, made of those that stay, one after the other
  module _ {A : Type 0} (f : ℕ → List A) (size : ℕ) where
    abbrev pub made : ℕ → List A
    made n = flat_map f (kept stays (up_to n))

    made_more : (n : ℕ) → made (suc n) ≡ made n ++ flat_map f (keep (stays n) n [])
    made_more n = rw (← add-one n, kept_more stays n) (entries-append f (kept stays (up_to n)) (keep (stays n) n []))

    one_more : (b : Bool) (n : ℕ) → length (f n) ≡ size → length (flat_map f (keep b n [])) ≡ size * bit b
    unfolding flat_map
    one_more true n e = rw (append-nil, mul-one) e
    one_more false n e = sym (mul-zero size)

    -- they are as many as stay
    pub length_made : (n : ℕ) → ((i : ℕ) → i < n → length (f i) ≡ size) → length (made n) ≡ size * count stays n
    unfolding count up_to kept flat_map
    length_made zero sized = sym (mul-zero size)
    length_made (suc n) sized = rw (
      made_more n,
      length-append,
      length_made n (λ i l. sized i (le_step l)),
      one_more (stays n) n (sized n (lt-suc_self n)),
      mul-add,
    )

    whole_part : (s : List A) → length s ≡ size → part size (s ++ []) 0 ≡ s
    unfolding part
    whole_part s e = rw (append-nil, mul-zero, ← e) (take-length s)

    -- each stands at its new place
    pub part_made : (n : ℕ) → ((i : ℕ) → i < n → length (f i) ≡ size) → (i : ℕ) → i < n → stays i ≡ true
        → part size (made n) (count stays i) ≡ f i
    unfolding flat_map
    part_made zero sized i l t = absurd (omega arith)
    part_made (suc n) sized i l t = elim (ℕ_discrete i n) [
      | yes e ↦ rw (made_more n, e, ap stays (sym e) ∙ t, ← add-zero (count stays n))
          (part_right size (made n) (f n ++ []) (count stays n) before 0 ∙ whole_part (f n) (sized n (lt-suc_self n)))
      | no e ↦ rw (made_more n)
          (part_left size (made n) (flat_map f (keep (stays n) n [])) (count stays n) before (count stays i)
          (below_all n i (omega arith) t) ∙ part_made n (λ k m. sized k (le_step m)) i (omega arith) t)
    ]
      where
        before : length (made n) ≡ size * count stays n
        before = length_made n (λ k m. sized k (le_step m))
