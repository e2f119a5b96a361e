-- Lists of the form f 0, f 1, .., and the arrays of that form that `array::from_fn` makes.
-- Assumes nothing.
use Prim.Native.Nat.{ℕ, zero, suc, ◌+◌, ◌≤◌, ◌<◌}
use native.Mathlib.Omega.{arith}
use native.Mathlib.Decide.{dec_lt, ℕ_discrete}
use denote.Param.Members.{Mut}
use mathlib.Core.Path.{◌≡◌, refl, sym, ap, ap₂, subst, ◌∙◌}
use mathlib.Core.List.{List, [], ◌∷◌, ◌++◌, map, map-append}
use lib.ListN.{length, get_or, length-map, get_or-append}
use lib.Seq.{get_or_at, ext_get_or}
use Rattle.std.specs.Array.{IsFromFnResultFrom, IsFromFnResult}
use Rattle.std.specs.Fn.{Called}
use Rattle.base_lists.specs.Parts.{up_to}
use Rattle.base_lists.proofs.Keeping.{length-up_to}

module _ {A : Type 0} (f : ℕ → A) where
  more : (n : ℕ) → map f (up_to (suc n)) ≡ map f (up_to n) ++ (f n ∷ [])
  unfolding up_to
  more n = map-append f (up_to n) (n ∷ [])

  pub length-listed : (n : ℕ) → length (map f (up_to n)) ≡ n
  length-listed n = length-map (up_to n) f ∙ length-up_to n

  pub at_listed : (n i : ℕ) (d : A) → i < n → get_or (map f (up_to n)) i d ≡ f i
  at_listed zero i d h = absurd (omega arith)
  at_listed (suc n) i d h = ap (λ l. get_or l i d) (more n) ∙ (elim (dec_lt i n) [
    | yes l ↦ get_or-append (map f (up_to n)) (f n ∷ []) d i (omega (arith, length-listed n)) ∙ at_listed n i d l
    | no l ↦
        let e : i ≡ n = omega arith in
        rw e (get_or_at (map f (up_to n)) (f n) [] d n (length-listed n))
  ])

-- lists of that form are the same where the functions are
pub listed_same : {A : Type 0} (f g : ℕ → A) (n : ℕ) → ((i : ℕ) → i < n → f i ≡ g i) → map f (up_to n) ≡ map g (up_to n)
unfolding up_to
listed_same f g zero h = refl
listed_same f g (suc n) h =
    more f n ∙ ap₂ (λ l x. l ++ (x ∷ [])) (listed_same f g n (λ i l. h i (omega arith))) (h n (omega arith)) ∙ sym (more g n)

-- what `array::from_fn` makes, where the closure gives f of each index and stays as it was
module _ {F B : Type 0} (g : Mut F (ℕ × Unit {0}) B) (c : F) (f : ℕ → B) (n : ℕ)
    (each : (i : ℕ) (y : B) (q : F) → i < n → Called g c (i, tt) y q → (q ≡ c) × (y ≡ f i)) where
  made_at : (ys : List B) (i k : ℕ) → i + k ≡ n → IsFromFnResultFrom g c ys i k
      → (j : ℕ) → i ≤ j → j < n → get_or ys j (f 0) ≡ f j
  made_at ys i zero s w j a b = absurd (omega arith)
  made_at ys i (suc k) s w j a b =
      let e = each i w.1 w.0 (omega arith) w.3 in
      elim (ℕ_discrete i j) [
        | yes q ↦ subst (λ m. get_or ys m (f 0) ≡ f m) q (w.2.1 (f 0) ∙ e.1)
        | no q ↦ made_at ys (i + 1) k (omega arith) (subst (λ d. IsFromFnResultFrom g d ys (i + 1) k) e.0 w.4) j
            (omega arith) b
      ]

  pub made_of : (ys : List B) → IsFromFnResult g c ys n → ys ≡ map f (up_to n)
  made_of ys r =
      ext_get_or (f 0) ys (map f (up_to n)) (r.long ∙ sym (length-listed f n))
      (λ i l. made_at ys 0 n (omega arith) r.each i (omega arith) (omega (arith, r.long))
      ∙ sym (at_listed f n i (f 0) (omega (arith, r.long))))
