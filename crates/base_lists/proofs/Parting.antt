-- Laws of `part`: a list as runs of equal size.
-- Assumes nothing.
use mathlib.Core.Path.{◌≡◌, sym, ◌∙◌, ap₂}
use mathlib.Core.List.{List, [], ◌∷◌, ◌++◌}
use Prim.Native.Nat.{ℕ, zero, suc, ◌+◌, ◌*◌, ◌-◌, ◌≤◌, ◌<◌, suc-le-suc}
use native.Mathlib.Nat.{sub-zero, zero-sub, suc-sub-suc, mul-zero, mul-suc, mul-add, mul-le-mul_left, add_comm}
use native.Mathlib.Omega.{arith}
use lib.ListN.{length, take, drop, get_or, length-drop, take-append-drop, drop_of_length-le}
use lib.Seq.{length-take-le, get_or-take, get_or-drop, drop-drop, take-take, take-append-le, drop-append-le, drop-append-add, take-nil}
use Rattle.base_lists.specs.Parts.{part}

-- a run with a number below k ends within k runs
run_ends : (size k i : ℕ) → i < k → size * i + size ≤ size * k
run_ends size k i h = rw (← mul-suc size i) (mul-le-mul_left size h)

drop-take {ℓ} : {A : Type ℓ} (m n : ℕ) (l : List A) → drop m (take n l) ≡ take (n - m) (drop m l)
drop-take zero n l = rw sub-zero
drop-take (suc m) zero l = rw zero-sub
drop-take (suc m) (suc n) [] = sym (take-nil (suc n - suc m))
drop-take (suc m) (suc n) (x ∷ l) = rw suc-sub-suc (drop-take m n l)

module _ {ℓ} {A : Type ℓ} (size : ℕ) where
  -- a part inside the list has its size
  pub part_length : (l : List A) (i : ℕ) → size * i + size ≤ length l → length (part size l i) ≡ size
  unfolding part
  part_length l i h = length-take-le size (drop (size * i) l) (rw length-drop (omega arith))

  -- past the end there is nothing
  pub part_beyond : (l : List A) (i : ℕ) → length l ≤ size * i → part size l i ≡ []
  unfolding part
  part_beyond l i h = rw (drop_of_length-le l h) (take-nil size)

  -- an element of a part is one of the list
  pub part-get_d : (l : List A) (i j : ℕ) (d : A) → j < size → get_or (part size l i) j d ≡ get_or l (size * i + j) d
  unfolding part
  part-get_d l i j d h = rw (get_or-take, get_or-drop)

  module _ (a b : List A) (k : ℕ) (whole : length a ≡ size * k) where
    -- the parts of the first of two lists
    pub part_left : (i : ℕ) → i < k → part size (a ++ b) i ≡ part size a i
    unfolding part
    part_left i h =
        let e : size * i + size ≤ size * k = run_ends size k i h in
        rw (drop-append-le (size * i) a b (omega arith))
        (take-append-le size (drop (size * i) a) b (rw length-drop (omega arith)))

    -- the parts of the second
    pub part_right : (i : ℕ) → part size (a ++ b) (k + i) ≡ part size b i
    unfolding part
    part_right i = rw (mul-add size k i, ← whole, drop-append-add a b (size * i))

  -- the parts of the first k
  pub part-take : (l : List A) (k i : ℕ) → i < k → part size (take (size * k) l) i ≡ part size l i
  unfolding part
  part-take l k i h =
      let e : size * i + size ≤ size * k = run_ends size k i h in
      rw (drop-take (size * i) (size * k) l) (take-take size (size * k - size * i) (drop (size * i) l) (omega arith))

  -- the parts after the first k
  pub part-drop : (l : List A) (k i : ℕ) → part size (drop (size * k) l) i ≡ part size l (k + i)
  unfolding part
  part-drop l k i = rw (mul-add size k i, drop-drop)

  part-zero : (l : List A) → part size l 0 ≡ take size l
  unfolding part
  part-zero l = rw mul-zero

  part-suc : (l : List A) (i : ℕ) → part size l (suc i) ≡ part size (drop size l) i
  unfolding part
  part-suc l i = rw (mul-suc size i, drop-drop, add_comm size (size * i))

  -- two lists with the same parts are the same
  pub parts_equal : (n : ℕ) (l m : List A) → length l ≡ size * n → length m ≡ size * n
      → ((i : ℕ) → i < n → part size l i ≡ part size m i) → l ≡ m
  parts_equal zero l m e f h = nothing l (e ∙ mul-zero size) ∙ sym (nothing m (f ∙ mul-zero size))
    where
      nothing : (r : List A) → length r ≡ 0 → r ≡ []
      nothing r q = drop_of_length-le r {i = 0} (omega arith)
  parts_equal (suc n) l m e f h =
      let front : take size l ≡ take size m = sym (part-zero l) ∙ h 0 (omega arith) ∙ part-zero m in
      let rest : drop size l ≡ drop size m =
      parts_equal n (drop size l) (drop size m) (left l e) (left m f)
      (λ i k. sym (part-suc l i) ∙ h (suc i) (suc-le-suc k) ∙ part-suc m i) in
      sym (take-append-drop size l) ∙ ap₂ ◌++◌ front rest ∙ take-append-drop size m
    where
      left : (r : List A) → length r ≡ size * suc n → length (drop size r) ≡ size * n
      left r q = let s : size * suc n ≡ size * n + size = mul-suc size n in rw length-drop (omega arith)
