-- Laws of `flat_map` where each element becomes an entry of one size, and of laying such entries.
-- Assumes nothing.
use mathlib.Core.Path.{◌≡◌, refl, sym, ◌∙◌, ap}
use mathlib.Core.Bool.{Bool, true, false, cond}
use mathlib.Core.List.{List, [], ◌∷◌, ◌++◌, flat_map, append_assoc, append-nil}
use Prim.Native.Nat.{ℕ, zero, suc, ◌+◌, ◌*◌, ◌<◌}
use native.Mathlib.Nat.{mul-zero, mul-suc, mul-one, add_comm, le_of_suc-le-suc, not-suc-le-zero}
use native.Mathlib.Numerals.{one-add}
use lib.Seq.{take_at}
use lib.ListN.{length, get_or, length-append}
use Rattle.base_lists.specs.Count.{count}
use Rattle.base_lists.specs.Laid.{laid, stored}
use Rattle.base_lists.specs.Parts.{part, keep, kept, up_to}
use Rattle.base_lists.proofs.Keeping.{kept_more, length-kept}
use Rattle.base_lists.proofs.Laying.{laid-nothing, laid-step}
use Rattle.base_lists.proofs.Parting.{part_right}

module _ {ℓ} {A B : Type ℓ} (f : A → List B) where
  -- the entries of two lists, one after the other
  pub entries-append : (s t : List A) → flat_map f (s ++ t) ≡ flat_map f s ++ flat_map f t
  unfolding flat_map
  entries-append [] t = refl
  entries-append (x ∷ s) t = rw (entries-append s t) (sym (append_assoc (f x) (flat_map f s) (flat_map f t)))

  -- one entry more
  pub entries_more : (s : List A) (x : A) → flat_map f (s ++ (x ∷ [])) ≡ flat_map f s ++ f x
  unfolding flat_map
  entries_more s x = entries-append s (x ∷ []) ∙ ap (λ r. flat_map f s ++ r) (append-nil (f x))

  module _ (size : ℕ) (sized : (x : A) → length (f x) ≡ size) where
    -- so many entries of that size
    pub length-entries : (l : List A) → length (flat_map f l) ≡ size * length l
    unfolding flat_map
    length-entries [] = sym (mul-zero size)
    length-entries (x ∷ l) = rw (length-append, sized x, length-entries l, mul-suc) (add_comm size (size * length l))

    -- the i-th is that of the i-th element
    pub part-entries : (l : List A) (i : ℕ) (d : A) → i < length l → part size (flat_map f l) i ≡ f (get_or l i d)
    unfolding flat_map part
    part-entries [] i d h = absurd (not-suc-le-zero h)
    part-entries (x ∷ l) zero d h = rw mul-zero (take_at (f x) (flat_map f l) size (sized x))
    part-entries (x ∷ l) (suc i) d h =
        let next : part size (f x ++ flat_map f l) (1 + i) ≡ part size (flat_map f l) i =
        part_right size (f x) (flat_map f l) 1 (sized x ∙ sym (mul-one size)) i in
        ap (part size (f x ++ flat_map f l)) (sym (one-add i)) ∙ next ∙ part-entries l i d (le_of_suc-le-suc h)

    -- one entry more, stored behind those that were laid
    pub laid_more : 0 < size → (l : List B) (s : List A) (x : A)
        → stored (laid size l (flat_map f s)) (size * length s) (f x) ≡ laid size l (flat_map f (s ++ (x ∷ [])))
    laid_more pos l s x = rw (entries_more, ← length-entries s) (laid-step size pos l (flat_map f s) (length s) (length-entries s) (f x) (sized x))

    -- the same of an element that is kept only where its test passed
    pub laid-keep : 0 < size → (l : List B) (s : List A) (b : Bool) (x : A)
        → cond b (stored (laid size l (flat_map f s)) (size * length s) (f x)) (laid size l (flat_map f s)) ≡ laid size l (flat_map f (s ++ keep b x []))
    laid-keep pos l s true x = laid_more pos l s x
    laid-keep pos l s false x = rw append-nil

-- A loop that counts i up and lays the entries of the numbers that pass keeps its list at
-- `laid size l (flat_map f (kept p (up_to i)))`.

-- it begins so
pub laid-begins : {B : Type 0} (f : ℕ → List B) (size : ℕ) (p : ℕ → Bool) (l : List B) → laid size l (flat_map f (kept p (up_to 0))) ≡ l
unfolding flat_map kept up_to
laid-begins f size p l = laid-nothing size l

-- it goes on with i where i passes
pub laid_next : {B : Type 0} (f : ℕ → List B) (size : ℕ) → ((i : ℕ) → length (f i) ≡ size) → 0 < size → (p : ℕ → Bool) (l : List B) (i : ℕ)
    → cond (p i) (stored (laid size l (flat_map f (kept p (up_to i)))) (size * count p i) (f i)) (laid size l (flat_map f (kept p (up_to i))))
    ≡ laid size l (flat_map f (kept p (up_to (i + 1))))
laid_next f size sized pos p l i = rw (kept_more p i, ← length-kept p i) (laid-keep f size sized pos l (kept p (up_to i)) (p i) i)
