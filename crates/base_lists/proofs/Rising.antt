-- Laws of `Rising`: a list whose keys go up has each element once, and keeps both when elements are left out.
-- Assumes nothing.
use mathlib.Core.Path.{◌≡◌, refl, ap}
use mathlib.Core.Bool.{Bool, true, false}
use mathlib.Core.List.{List, [], ◌∷◌, ◌++◌, map, Memᴰ}
use Prim.Native.Nat.{ℕ, zero, suc, ◌≤◌, ◌<◌, suc-le-suc}
use native.Mathlib.Nat.{le_trans, le_of_suc-le-suc, not-suc-le-zero}
use native.Mathlib.Decide.{dec_lt}
use native.Mathlib.Omega.{arith}
use lib.ListN.{length, get_or}
use Rattle.base_lists.specs.Parts.{keep, kept, RisingFrom, Rising, up_to}
use Rattle.base_lists.proofs.Keeping.{out-of-up_to}

module _ {ℓ} {A : Type ℓ} (key : A → ℕ) where
  -- what rises from a number rises from a smaller one
  pub rising_less : (l : List A) (m k : ℕ) → k ≤ m → RisingFrom key m l → RisingFrom key k l
  rising_less [] m k h r = tt
  rising_less (x ∷ l) m k h r = (le_trans h r.0, r.1)

  -- a rising list stays so when only some elements are kept
  pub rising_kept : (p : A → Bool) (l : List A) (k : ℕ) → RisingFrom key k l → RisingFrom key k (kept p l)
  unfolding kept
  rising_kept p [] k r = tt
  rising_kept p (x ∷ l) k r = go (p x) (rising_kept p l (suc (key x)) r.1)
    where
      go : (b : Bool) → RisingFrom key (suc (key x)) (kept p l) → RisingFrom key k (keep b x (kept p l))
      go true s = (r.0, s)
      go false s = rising_less (kept p l) (suc (key x)) k (omega (arith, r.0)) s

  -- two rising lists, the second beginning above the first
  pub rising_append : (s t : List A) (k m : ℕ) → k ≤ m → RisingFrom key k s → ((x : A) → Memᴰ x s → key x < m)
      → RisingFrom key m t → RisingFrom key k (s ++ t)
  rising_append [] t k m h r below u = rising_less t m k h u
  rising_append (x ∷ s) t k m h r below u =
      (r.0, rising_append s t (suc (key x)) m (below x (Memᴰ.head refl)) r.1 (λ y i. below y (Memᴰ.tail i)) u)

  module _ (d : A) where
    -- no key is below the number that the list rises from
    pub rising_least : (l : List A) (k : ℕ) → RisingFrom key k l → (i : ℕ) → i < length l → k ≤ key (get_or l i d)
    rising_least [] k r i h = absurd (not-suc-le-zero h)
    rising_least (x ∷ l) k r zero h = r.0
    rising_least (x ∷ l) k r (suc i) h = omega (arith, r.0, rising_least l (suc (key x)) r.1 i (le_of_suc-le-suc h))

    -- of two indices, the later has the greater key
    pub rising_order : (l : List A) (k : ℕ) → RisingFrom key k l → (i j : ℕ) → i < j → j < length l → key (get_or l i d) < key (get_or l j d)
    rising_order [] k r i j h n = absurd (not-suc-le-zero n)
    rising_order (x ∷ l) k r i zero h n = absurd (not-suc-le-zero h)
    rising_order (x ∷ l) k r zero (suc j) h n = rising_least l (suc (key x)) r.1 j (le_of_suc-le-suc n)
    rising_order (x ∷ l) k r (suc i) (suc j) h n = rising_order l (suc (key x)) r.1 i j (le_of_suc-le-suc h) (le_of_suc-le-suc n)

    -- a list in which the later has the greater key is rising
    pub order_rising : (l : List A) (k : ℕ) → ((i : ℕ) → i < length l → k ≤ key (get_or l i d))
        → ((i j : ℕ) → i < j → j < length l → key (get_or l i d) < key (get_or l j d))
        → RisingFrom key k l
    order_rising [] k least up = tt
    order_rising (x ∷ l) k least up = (
      least 0 (suc-le-suc (omega arith)),
      order_rising l (suc (key x)) (λ i h. up 0 (suc i) (omega arith) (suc-le-suc h)) (λ i j h n. up (suc i) (suc j) (suc-le-suc h) (suc-le-suc n)),
    )

    -- nothing stands in it twice: two indices with the same element are one
    pub rising_once : (l : List A) → Rising key l → (i j : ℕ) → i < length l → j < length l → get_or l i d ≡ get_or l j d → i ≡ j
    rising_once l r i j h n e =
        let q : key (get_or l i d) ≡ key (get_or l j d) = ap key e in
        elim (dec_lt i j) [
          | yes u ↦ absurd (omega (arith, rising_order l 0 r i j u n))
          | no u ↦ elim (dec_lt j i) [ yes v ↦ absurd (omega (arith, rising_order l 0 r j i v h)) | no v ↦ omega arith ]
        ]

-- images rise where their keys do
pub rising-map {ℓ κ} : {A : Type ℓ} {B : Type κ} (f : A → B) (key : B → ℕ) (l : List A) (k : ℕ)
    → RisingFrom (λ x. key (f x)) k l → RisingFrom key k (map f l)
rising-map f key [] k r = tt
rising-map f key (x ∷ l) k r = (r.0, rising-map f key l (suc (key (f x))) r.1)

-- the numbers below n rise
pub rising-up_to : (n : ℕ) → Rising (λ i. i) (up_to n)
unfolding up_to
rising-up_to zero = tt
rising-up_to (suc n) = rising_append (λ i. i) (up_to n) (n ∷ []) 0 n (omega arith) (rising-up_to n) (λ i m. out-of-up_to n i m) (omega arith, tt)
