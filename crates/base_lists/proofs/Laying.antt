-- Laws of `laid` and `stored`: as many whole entries as fit, from the front, the rest unchanged.
-- Assumes nothing.
use mathlib.Core.Path.{◌≡◌, sym, ◌∙◌, ap, ap₂}
use mathlib.Core.List.{List, [], ◌++◌}
use Prim.Native.Nat.{ℕ, suc, ◌+◌, ◌*◌, ◌-◌, ◌/◌, ◌≤◌, ◌<◌, min}
use native.Mathlib.Nat.{mul_comm, mul-suc, suc-mul, mul-le-mul_right, div-mul-le_self, le-div_iff_mul-le}
use native.Mathlib.Nat.{div-lt_iff_lt-mul, le_of_suc-le-suc, min-eq_left, min-eq_right}
use native.Mathlib.Decide.{dec_le}
use native.Mathlib.Omega.{arith}
use lib.ListN.{length, take, drop, get_or, length-append, length-drop}
use lib.Seq.{length-take-le, take-length, take_at, drop_at, take-take, get_or-take, get_or-drop}
use lib.Seq.{take-append-le, take-append_seam, drop-append-add, drop-drop, sets, sets-eq}
use borrow.Author.Tests.{le-leb, lt-leb}
use Rattle.base_lists.specs.Laid.{fitting, laid, stored}
use Rattle.base_lists.specs.Parts.{part}
use Rattle.base_lists.proofs.Parting.{part-take, part-drop}

-- k whole entries that a list can hold are within its whole entries
room_for : (size k n : ℕ) → 0 < size → size * k ≤ n → size * k ≤ n / size * size
room_for size k n s h = rw (mul_comm size k) (mul-le-mul_right size ((le-div_iff_mul-le s).1 (rw (mul_comm size k) at h)))

-- a list too short for one entry more has room for no more than k
room_full : (size k n : ℕ) → 0 < size → n < size * k + size → n / size * size ≤ size * k
room_full size k n s h =
    let e : suc k * size ≡ k * size + size = suc-mul k size in
    let q : size * k ≡ k * size = mul_comm size k in
    rw q (mul-le-mul_right size (le_of_suc-le-suc ((div-lt_iff_lt-mul s).1 (omega arith))))

module _ {ℓ} {A : Type ℓ} (l : List A) (at : ℕ) (e : List A) where
  -- an entry that fits
  pub stored-fits : at + length e ≤ length l → stored l at e ≡ take at l ++ e ++ drop (at + length e) l
  unfolding stored
  stored-fits h = rw (le-leb (at + length e) (length l) h)

  -- an entry that does not
  pub stored_full : length l < at + length e → stored l at e ≡ l
  unfolding stored
  stored_full h = rw (lt-leb (at + length e) (length l) h)

  -- an entry that fits, as one store after the other leaves it
  pub stored_sets : at + length e ≤ length l → stored l at e ≡ sets l at e
  stored_sets h = stored-fits h ∙ sym (sets-eq e l at h)

module _ {ℓ} {A : Type ℓ} (size : ℕ) where
  module _ (l w : List A) where
    -- no more is written than there is
    pub fitting-written : fitting size l w ≤ length w
    unfolding fitting
    fitting-written = omega arith

    -- no more is written than there is room for
    pub fitting-room : fitting size l w ≤ length l
    unfolding fitting
    fitting-room = omega (arith, div-mul-le_self (length l) size)

    front : length (take (fitting size l w) w) ≡ fitting size l w
    front = length-take-le (fitting size l w) w fitting-written

    -- writing does not change how long the list is
    pub length-laid : length (laid size l w) ≡ length l
    unfolding laid
    length-laid = rw (length-append, front, length-drop) (omega (arith, fitting-room))

    -- what is written is the beginning of w
    pub laid_front : take (fitting size l w) (laid size l w) ≡ take (fitting size l w) w
    unfolding laid
    laid_front = take_at (take (fitting size l w) w) (drop (fitting size l w) l) (fitting size l w) front

    -- what stands behind it is as it was
    pub laid-behind : drop (fitting size l w) (laid size l w) ≡ drop (fitting size l w) l
    unfolding laid
    laid-behind = drop_at (take (fitting size l w) w) (drop (fitting size l w) l) (fitting size l w) front

    -- the same of one place that is written
    pub laid_at_lem : (i : ℕ) (d : A) → i < fitting size l w → get_or (laid size l w) i d ≡ get_or w i d
    laid_at_lem i d h =
        sym (get_or-take (fitting size l w) (laid size l w) i d h) ∙ ap (λ r. get_or r i d) laid_front ∙ get_or-take (fitting size l w) w i d h

    -- and of one behind
    pub laid_past : (i : ℕ) (d : A) → fitting size l w ≤ i → get_or (laid size l w) i d ≡ get_or l i d
    laid_past i d h =
        let e : i ≡ fitting size l w + (i - fitting size l w) = omega arith in
        rw e
        (sym (get_or-drop (fitting size l w) (laid size l w) (i - fitting size l w) d)
        ∙ ap (λ r. get_or r (i - fitting size l w) d) laid-behind
        ∙ get_or-drop (fitting size l w) l (i - fitting size l w) d)

  -- to write nothing changes nothing
  pub laid-nothing : (l : List A) → laid size l [] ≡ l
  unfolding laid fitting
  laid-nothing l = let e : min 0 (length l / size * size) ≡ 0 = omega arith in rw e

  -- less room takes no more
  pub fitting_less : 0 < size → (l m w : List A) → length l ≤ length m → fitting size l w ≤ fitting size m w
  unfolding fitting
  fitting_less s l m w h =
      let le : length l / size * size ≤ length m = omega (arith, div-mul-le_self (length l) size) in
      omega (arith, mul-le-mul_right size ((le-div_iff_mul-le s).1 le))

  -- with less room, the first that fit
  pub laid_less : 0 < size → (l m w : List A) → length l ≤ length m
      → take (fitting size l w) (laid size l w) ≡ take (fitting size l w) (laid size m w)
  laid_less s l m w h =
      let le : fitting size l w ≤ fitting size m w = fitting_less s l m w h in
      laid_front l w
      ∙ sym (take-take (fitting size l w) (fitting size m w) w le)
      ∙ ap (take (fitting size l w)) (sym (laid_front m w))
      ∙ take-take (fitting size l w) (fitting size m w) (laid size m w) le

  module _ (l w : List A) (k : ℕ) (whole : length w ≡ size * k) where
    -- as many entries are written as there are, or as there is room for
    pub fitting-entries : fitting size l w ≡ size * min k (length l / size)
    unfolding fitting
    fitting-entries = elim (dec_le k (length l / size)) [
      | yes h ↦
          let e : k * size ≤ length l / size * size = mul-le-mul_right size h in
          rw (min-eq_left h) (omega (arith, mul_comm size k))
      | no h ↦
          let g : length l / size ≤ k = omega arith in
          let e : length l / size * size ≤ k * size = mul-le-mul_right size g in
          rw (min-eq_right g) (omega (arith, mul_comm size k, mul_comm size (length l / size)))
    ]

    -- each entry that is written is the one of w
    pub laid-entry : (i : ℕ) → i < min k (length l / size) → part size (laid size l w) i ≡ part size w i
    laid-entry i h =
        let m : ℕ = min k (length l / size) in
        sym (part-take size (laid size l w) m i h)
        ∙ ap (λ r. part size r i) (rw fitting-entries at (laid_front l w))
        ∙ part-take size w m i h

    -- each entry behind them is as it was
    pub laid-other : (i : ℕ) → min k (length l / size) ≤ i → part size (laid size l w) i ≡ part size l i
    laid-other i h =
        let m : ℕ = min k (length l / size) in
        let e : i ≡ m + (i - m) = omega arith in
        rw e
        (sym (part-drop size (laid size l w) m (i - m))
        ∙ ap (λ r. part size r (i - m)) (rw fitting-entries at (laid-behind l w))
        ∙ part-drop size l m (i - m))

  module _ (some : 0 < size) (l w : List A) (k : ℕ) (whole : length w ≡ size * k) where
    -- k entries that there is room for are all written
    pub fitting-whole : length w ≤ length l → fitting size l w ≡ length w
    unfolding fitting
    fitting-whole h = omega (arith, room_for size k (length l) some (rw whole at h))

    -- then the list begins with them, and the rest is as it was
    pub laid-whole : length w ≤ length l → laid size l w ≡ w ++ drop (length w) l
    unfolding laid
    laid-whole h = rw (fitting-whole h, take-length)

  -- where there is no room for more, no more is written
  laid_full : (l w e : List A) → length l / size * size ≤ length w → laid size l (w ++ e) ≡ laid size l w
  unfolding laid fitting
  laid_full l w e h =
      let q : fitting size l (w ++ e) ≡ fitting size l w = same in
      ap (λ n. take n (w ++ e) ++ drop n l) q
      ∙ ap (λ r. r ++ drop (fitting size l w) l) (take-append-le (fitting size l w) w e (fitting-written l w))
    where
      same : fitting size l (w ++ e) ≡ fitting size l w
      same = omega (arith, length-append w e)

  -- one entry more, for a loop that stores them one after the other
  pub laid-step : 0 < size → (l w : List A) (k : ℕ) → length w ≡ size * k → (e : List A) → length e ≡ size
      → stored (laid size l w) (length w) e ≡ laid size l (w ++ e)
  laid-step s l w k whole e one = elim (dec_le (length w + length e) (length l)) [ yes h ↦ fits h | no h ↦ full (omega arith) ]
    where
      sum : length (w ++ e) ≡ length w + length e
      sum = length-append w e

      more : length (w ++ e) ≡ size * suc k
      more = rw mul-suc (omega (arith, sum))

      fits : length w + length e ≤ length l → stored (laid size l w) (length w) e ≡ laid size l (w ++ e)
      fits h =
          let d : List A = drop (length w) l in
          rw (laid-whole s l w k whole (omega arith), laid-whole s l (w ++ e) (suc k) more (omega (arith, sum)))
          (stored-fits (w ++ d) (length w) e (rw (length-append, length-drop) (omega arith))
          ∙ ap₂ (λ a b. a ++ e ++ b) (take-append_seam w d) (drop-append-add w d (length e) ∙ drop-drop (length e) (length w) l ∙ ap (λ n. drop n l) (sym sum)))

      full : length l < length w + length e → stored (laid size l w) (length w) e ≡ laid size l (w ++ e)
      full h =
          stored_full (laid size l w) (length w) e (rw (length-laid l w) h)
          ∙ sym (laid_full l w e (rw whole (room_full size k (length l) s (omega arith))))
