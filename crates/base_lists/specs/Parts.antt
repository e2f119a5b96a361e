-- A list as runs of equal size, the elements that pass a test, and lists whose keys go up.
-- Assumes nothing.
use Rattle.std.specs.Prelude.{Bool, true, false, ◌&&◌, List, [], ◌∷◌, ◌++◌, ℕ, zero, suc, ◌*◌, ◌≤◌, eqb, take, drop}

module _ {ℓ} {A : Type ℓ} where
  -- the i-th run of `size` elements
  unfoldable pub part : ℕ → List A → ℕ → List A
  part size l i = take size (drop (size * i) l)

  -- the element in front, where its test passed
  abbrev pub keep : Bool → A → List A → List A
  keep true x xs = x ∷ xs
  keep false x xs = xs

  -- the elements that pass, in their order
  unfoldable pub kept : (A → Bool) → List A → List A
  kept p [] = []
  kept p (x ∷ xs) = keep (p x) x (kept p xs)

  -- each key is greater than the one before, and the first is at least `least`
  abbrev pub RisingFrom : (A → ℕ) → ℕ → List A → Type 0
  RisingFrom key least [] = Unit {0}
  RisingFrom key least (x ∷ xs) = (least ≤ key x) × RisingFrom key (suc (key x)) xs

  -- each key is greater than the one before
  abbrev pub Rising : (A → ℕ) → List A → Type 0
  Rising key l = RisingFrom key 0 l

-- the numbers below n, in order
unfoldable pub up_to : ℕ → List ℕ
up_to zero = []
up_to (suc n) = up_to n ++ (n ∷ [])

-- two lists of numbers are the same
unfoldable pub alike : List ℕ → List ℕ → Bool
alike [] [] = true
alike [] (y ∷ ys) = false
alike (x ∷ xs) [] = false
alike (x ∷ xs) (y ∷ ys) = eqb x y && alike xs ys
