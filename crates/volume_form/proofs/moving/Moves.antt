-- Laws of `moved` and `laid_at`: what one store does to the work that remains.
-- Assumes nothing.
use mathlib.Core.Path.{◌≡◌, sym, ◌∙◌, ap, ap₂}
use mathlib.Core.List.{List, [], ◌∷◌, ◌++◌, append_assoc, append-nil}
use Prim.Native.Nat.{ℕ, zero, suc, ◌+◌, ◌-◌, ◌≤◌, ◌<◌}
use native.Mathlib.Nat.{add-zero, add-suc}
use native.Mathlib.Omega.{arith}
use lib.ListN.{length, take, drop, set, get_or, length-append, length-drop, take-append-drop, drop_of_length-le}
use borrow.Rule.Slice.PartMut.{put_mid}
use lib.Seq.{take_all, take_at, drop-append-add, drop-drop, take-append_seam, drop-cons, take-suc, get_or-drop, drop-set-lt, drop-set-add, take-set-le, take-suc-set, get_or-set_same, lt-length-set, length-take-le}
use Rattle.volume_form.specs.Moved.{laid_at, moved}

module _ {ℓ} {A : Type ℓ} where
  -- nothing to move
  pub moved_none : (s : List A) (f t : ℕ) → moved s f t 0 ≡ s
  unfolding moved
  moved_none s f t = rw (add-zero t) (take-append-drop t s)

  -- moved where it stands is as it was, length and all
  pub length_moved : (s : List A) (f t k : ℕ) → t + k ≤ length s → f + k ≤ length s → length (moved s f t k) ≡ length s
  unfolding moved
  length_moved s f t k h g =
      rw (length-append, length-append, length-take-le t s (omega arith), length-take-le k (drop f s) (rw length-drop (omega arith)), length-drop)
      (omega arith)

  -- what stands from a place on, once it is written
  placed : (j : ℕ) (a d : A) (s : List A) → j < length s → drop j (set s j a) ≡ a ∷ drop (suc j) s
  placed j a d s h =
      drop-cons (set s j a) j d (lt-length-set s j a h)
      ∙ ap₂ (λ x t. x ∷ t) (get_or-set_same s j a d h) (drop-set-lt (suc j) s j a (omega arith))

  -- the last byte first: its store leaves one byte less to move
  pub up_step : (s : List A) (f t i : ℕ) (d : A) → f ≤ t → t + suc i ≤ length s
      → moved s f t (suc i) ≡ moved (set s (t + i) (get_or s (f + i) d)) f t i
  unfolding moved
  up_step s f t i d h g =
      let v : A = get_or s (f + i) d in
      let e : t + i ≡ f + (t - f + i) = omega arith in
      let front : take t (set s (t + i) v) ≡ take t s = take-set-le t s (t + i) v (omega arith) in
      let mid : take i (drop f (set s (t + i) v)) ≡ take i (drop f s) =
      ap (λ n. take i (drop f (set s n v))) e ∙ ap (take i) (drop-set-add f s (t - f + i) v) ∙ take-set-le i (drop f s) (t - f + i) v (omega arith) in
      let back : drop (t + i) (set s (t + i) v) ≡ v ∷ drop (suc (t + i)) s = placed (t + i) v d s (omega arith) in
      let more : take (suc i) (drop f s) ≡ take i (drop f s) ++ (v ∷ []) =
      take-suc (drop f s) i d (rw length-drop (omega arith)) ∙ ap (λ x. take i (drop f s) ++ (x ∷ [])) (get_or-drop f s i d) in
      rw (front, mid, back, more, add-suc t i) (ap (λ l. take t s ++ l) (append_assoc (take i (drop f s)) (v ∷ []) (drop (suc (t + i)) s)))

  -- the first byte first
  pub down_step : (s : List A) (f t k : ℕ) (d : A) → t ≤ f → f + suc k ≤ length s
      → moved s f t (suc k) ≡ moved (set s t (get_or s f d)) (suc f) (suc t) k
  unfolding moved
  down_step s f t k d h g =
      let v : A = get_or s f d in
      let front : take (suc t) (set s t v) ≡ take t s ++ (v ∷ []) = take-suc-set s t v (omega arith) in
      let mid : drop (suc f) (set s t v) ≡ drop (suc f) s = drop-set-lt (suc f) s t v (omega arith) in
      let back : drop (suc t + k) (set s t v) ≡ drop (suc t + k) s = drop-set-lt (suc t + k) s t v (omega arith) in
      let first : drop f s ≡ v ∷ drop (suc f) s = drop-cons s f d (omega arith) in
      let e : t + suc k ≡ suc t + k = omega arith in
      rw (front, mid, back, first, e) (sym (append_assoc (take t s) (v ∷ []) (take k (drop (suc f) s) ++ drop (suc t + k) s)))

  pub length-laid_at : (s : List A) (at : ℕ) (t : List A) → at + length t ≤ length s → length (laid_at s at t) ≡ length s
  unfolding laid_at
  length-laid_at s at t h = rw (length-append, length-append, length-take-le at s (omega arith), length-drop) (omega arith)

  -- the same, for a loop that counts down
  pub up_goes : (s : List A) (f t i : ℕ) (d : A) → 0 < i → f ≤ t → t + i ≤ length s
      → moved s f t i ≡ moved (set s (t + (i - 1)) (get_or s (f + (i - 1)) d)) f t (i - 1)
  up_goes s f t zero d z h g = absurd (omega arith)
  up_goes s f t (suc i) d z h g = let e : suc i - 1 ≡ i = omega arith in rw e (up_step s f t i d h g)

  -- and for one that counts up
  pub down_goes : (s : List A) (f t k i : ℕ) (d : A) → i < k → t ≤ f → f + k ≤ length s
      → moved s (f + i) (t + i) (k - i) ≡ moved (set s (t + i) (get_or s (f + i) d)) (f + (i + 1)) (t + (i + 1)) (k - (i + 1))
  down_goes s f t k i d z h g =
      let e : k - i ≡ suc (k - (i + 1)) = omega arith in
      let a : f + (i + 1) ≡ suc (f + i) = omega arith in
      let b : t + (i + 1) ≡ suc (t + i) = omega arith in
      rw (e, a, b) (down_step s (f + i) (t + i) (k - (i + 1)) d (omega arith) (omega arith))

  -- the front with the stretch behind it, and what lies behind both
  pub take-moved : (s : List A) (f t k : ℕ) → t ≤ length s → f + k ≤ length s → take (t + k) (moved s f t k) ≡ take t s ++ take k (drop f s)
  unfolding moved
  take-moved s f t k h g =
      let l : length (take t s ++ take k (drop f s)) ≡ t + k =
      length-append (take t s) (take k (drop f s)) ∙ ap₂ ◌+◌ (length-take-le t s h) (length-take-le k (drop f s) (rw length-drop (omega arith))) in
      ap (take (t + k)) (sym (append_assoc (take t s) (take k (drop f s)) (drop (t + k) s))) ∙ take_at (take t s ++ take k (drop f s)) (drop (t + k) s) (t + k) l

  pub drop-moved : (s : List A) (f t k : ℕ) → t ≤ f → f + k ≤ length s → drop (f + k) (moved s f t k) ≡ drop (f + k) s
  unfolding moved
  drop-moved s f t k h g =
      let p : List A = take t s ++ take k (drop f s) in
      let l : length p ≡ t + k =
      length-append (take t s) (take k (drop f s)) ∙ ap₂ ◌+◌ (length-take-le t s (omega arith)) (length-take-le k (drop f s) (rw length-drop (omega arith))) in
      let e : f + k ≡ t + k + (f - t) = omega arith in
      let r : f + k ≡ length p + (f - t) = omega arith in
      ap₂ drop r (sym (append_assoc (take t s) (take k (drop f s)) (drop (t + k) s)))
      ∙ drop-append-add p (drop (t + k) s) (f - t)
      ∙ drop-drop (f - t) (t + k) s ∙ ap (λ m. drop m s) (sym e)

-- a part that was lent, once it is filled
pub put_laid : (f n : ℕ) (s t : List ℕ) → length t ≡ n → put_mid f n s t ≡ laid_at s f t
unfolding laid_at
put_laid f n s t e = rw (e, drop-drop n f s)

-- a text laid where a front ends
pub laid-behind : (b y t : List ℕ) (n : ℕ) → length b ≡ n → laid_at (b ++ y) n t ≡ b ++ (t ++ drop (length t) y)
unfolding laid_at
laid-behind b y t n e = rw (← e, take-append_seam b y, drop-append-add b y (length t))

-- the part from a place on, once a text is at its front
pub put_copied : (at : ℕ) (s t r : List ℕ) → at + length t ≤ length s
    → r ≡ t ++ drop (length t) (take (length s - at) (drop at s)) → put_mid at (length s - at) s r ≡ laid_at s at t
unfolding laid_at
put_copied at s t r h e =
    let a : take (length s - at) (drop at s) ≡ drop at s = take_all (length s - at) (drop at s) (rw length-drop (omega arith)) in
    let b : r ≡ t ++ drop (at + length t) s = e ∙ ap (λ l. t ++ drop (length t) l) a ∙ ap (λ l. t ++ l) (drop-drop (length t) at s) in
    let z : at + (length s - at) ≡ length s = omega arith in
    let c : drop (length s - at) (drop at s) ≡ [] = drop_of_length-le (drop at s) {i = length s - at} (rw length-drop (omega arith)) in
    rw (c, b) (ap (λ l. take at s ++ l) (append-nil (t ++ drop (at + length t) s)))
