-- Laws of `kept` and `up_to`: the elements that pass a test, and the numbers below n.
-- Assumes nothing.
use mathlib.Core.Path.{◌≡◌, refl, sym, ◌∙◌, ap}
use mathlib.Core.Logic.{⊎_elim, ◌⊎◌, inl, inr}
use mathlib.Core.Bool.{Bool, true, false, false≢true}
use mathlib.Core.List.{List, [], ◌∷◌, ◌++◌, map, append-nil}
use mathlib.Core.List.Memᴰ
use mathlib.Core.List.{Memᴰ}
use Prim.Native.Nat.{ℕ, zero, suc, ◌+◌, ◌≤◌, ◌<◌}
use native.Mathlib.Nat.{add-zero, add-suc, le_step, le_dest, not-suc-le-zero}
use native.Mathlib.Numerals.{add-one}
use native.Mathlib.Decide.{ℕ_discrete}
use native.Mathlib.Omega.{arith}
use lib.ListN.{length, length-append}
use Rattle.base_lists.specs.Count.{bit, count}
use Rattle.base_lists.specs.Parts.{keep, kept, up_to}

module _ {ℓ} {A : Type ℓ} where
  keep_append : (b : Bool) (x : A) (s t : List A) → keep b x (s ++ t) ≡ keep b x s ++ t
  keep_append true x s t = refl
  keep_append false x s t = refl

  length-keep : (b : Bool) (x : A) (s : List A) → length (keep b x s) ≡ length s + bit b
  length-keep true x s = omega arith
  length-keep false x s = omega arith

  out_of_keep : (b : Bool) {x a : A} {s : List A} → Memᴰ a (keep b x s) → ((a ≡ x) × (b ≡ true)) ⊎ Memᴰ a s
  out_of_keep true m = ⊎_elim (λ e. inl (e, refl)) inr (Memᴰ.cases_cons m)
  out_of_keep false m = inr m

  into_keep : (b : Bool) {x a : A} {s : List A} → ((a ≡ x) × (b ≡ true)) ⊎ Memᴰ a s → Memᴰ a (keep b x s)
  into_keep true (inl e) = Memᴰ.head e.0
  into_keep true (inr m) = Memᴰ.tail m
  into_keep false (inl e) = absurd (false≢true e.1)
  into_keep false (inr m) = m

  module _ (p : A → Bool) where
    -- two lists, one after the other
    pub kept_append : (s t : List A) → kept p (s ++ t) ≡ kept p s ++ kept p t
    unfolding kept
    kept_append [] t = refl
    kept_append (x ∷ s) t = rw (kept_append s t) (keep_append (p x) x (kept p s) (kept p t))

    -- what was kept is of the list, and passes
    pub out_of_kept : (l : List A) {a : A} → Memᴰ a (kept p l) → Memᴰ a l × (p a ≡ true)
    unfolding kept
    out_of_kept [] m = absurd (Memᴰ.not-nil m)
    out_of_kept (x ∷ l) {a} m = ⊎_elim
        (λ e. (Memᴰ.head e.0, ap p e.0 ∙ e.1))
        (λ n. let r = out_of_kept l n in (Memᴰ.tail r.0, r.1))
        (out_of_keep (p x) m)

    -- what is of the list, and passes, was kept
    pub into_kept : (l : List A) {a : A} → Memᴰ a l → p a ≡ true → Memᴰ a (kept p l)
    unfolding kept
    into_kept [] m t = elim m [ ]
    into_kept (x ∷ l) (Memᴰ.head e) t = into_keep (p x) (inl (e, ap p (sym e) ∙ t))
    into_kept (x ∷ l) (Memᴰ.tail m) t = into_keep (p x) (inr (into_kept l m t))

  -- tests that agree on every member keep the same
  pub kept_same : (p q : A → Bool) (l : List A) → ((a : A) → Memᴰ a l → p a ≡ q a) → kept p l ≡ kept q l
  unfolding kept
  kept_same p q [] h = refl
  kept_same p q (x ∷ l) h = rw (h x (Memᴰ.head refl), kept_same p q l (λ a m. h a (Memᴰ.tail m)))

-- keeping from a list of images is taking the images of what is kept
pub kept_map {ℓ κ} : {A : Type ℓ} {B : Type κ} (f : A → B) (p : B → Bool) (l : List A) → kept p (map f l) ≡ map f (kept (λ x. p (f x)) l)
unfolding kept
kept_map {A} f p [] = refl
kept_map {A} f p (x ∷ l) = rw (kept_map f p l) (sym (through (p (f x)) (kept (λ y. p (f y)) l)))
  where
    through : (b : Bool) (s : List A) → map f (keep b x s) ≡ keep b (f x) (map f s)
    through true s = refl
    through false s = refl

-- there are n numbers below n
pub length-up_to : (n : ℕ) → length (up_to n) ≡ n
unfolding up_to
length-up_to zero = refl
length-up_to (suc n) = rw (length-append, length-up_to n) (omega arith)

-- a member is a number below n
pub out-of-up_to : (n i : ℕ) → Memᴰ i (up_to n) → i < n
unfolding up_to
out-of-up_to zero i m = absurd (Memᴰ.not-nil m)
out-of-up_to (suc n) i m = ⊎_elim
    (λ k. le_step (out-of-up_to n i k))
    (λ k. let e : i ≡ n = Memᴰ.eq_of_singleton k in omega arith)
    (Memᴰ.append_cases (up_to n) m)

-- a number below n is a member
pub into-up_to : (n i : ℕ) → i < n → Memᴰ i (up_to n)
unfolding up_to
into-up_to zero i h = absurd (not-suc-le-zero h)
into-up_to (suc n) i h = elim (ℕ_discrete i n) [
  | yes e ↦ Memᴰ.append_right (up_to n) (Memᴰ.head e)
  | no e ↦ Memᴰ.append_left (n ∷ []) (into-up_to n i (omega arith))
]

module _ (p : ℕ → Bool) where
  kept-suc : (n : ℕ) → kept p (up_to (suc n)) ≡ kept p (up_to n) ++ keep (p n) n []
  unfolding up_to kept
  kept-suc n = kept_append p (up_to n) (n ∷ [])

  -- one number more, for a loop that counts n up
  pub kept_more : (n : ℕ) → kept p (up_to (n + 1)) ≡ kept p (up_to n) ++ keep (p n) n []
  kept_more n = rw add-one (kept-suc n)

  -- as many numbers are kept as pass
  pub length-kept : (n : ℕ) → length (kept p (up_to n)) ≡ count p n
  unfolding up_to kept count
  length-kept zero = refl
  length-kept (suc n) = rw (kept-suc n, length-append, length-kept n, length-keep) (omega arith)

  -- a stretch where all fail adds nothing
  pub kept_skip : (m n : ℕ) → m ≤ n → ((i : ℕ) → m ≤ i → i < n → p i ≡ false) → kept p (up_to n) ≡ kept p (up_to m)
  kept_skip m n h none = let d = le_dest h in
      ap (λ k. kept p (up_to k)) (sym d.1) ∙ go d.0 (λ i a b. none i a (omega (arith, d.1)))
    where
      go : (k : ℕ) → ((i : ℕ) → m ≤ i → i < m + k → p i ≡ false) → kept p (up_to (m + k)) ≡ kept p (up_to m)
      go zero fail = rw add-zero
      go (suc k) fail =
          rw (add-suc m k, kept-suc (m + k), fail (m + k) (omega arith) (omega arith))
          (append-nil (kept p (up_to (m + k))) ∙ go k (λ i a b. fail i a (omega arith)))
