-- Entries stored one after the other, as far as they fit, are laid.
use Prim.Native.Nat.{ℕ, suc, ◌+◌, ◌*◌}
use native.Mathlib.Nat.{add-zero}
use native.Mathlib.Numerals.{add-one}
use native.Mathlib.Decide.{dec_le}
use native.Mathlib.Omega.{arith}
use lib.Seq.{length-sets}
use mathlib.Core.Path.{◌≡◌, refl, sym, ap, ◌∙◌}
use mathlib.Core.Bool.{Bool, true, false, cond}
use mathlib.Core.List.{List, [], ◌∷◌, ◌++◌, append_assoc, append-nil}
use lib.ListN.{length, length-append}
use Rattle.base_lists.specs.Count.{bit}
use Rattle.base_lists.specs.Parts.{keep}
use Rattle.base_lists.specs.Laid.{laid, stored}
use Rattle.tie_rules.specs.Faults.{entry_size}
use Rattle.base_lists.proofs.Laying.{laid-nothing, laid-step, stored_sets, stored_full}
use Rattle.tie_check.specs.declared.entries.Broken.{Broken}
use Rattle.tie_check.specs.packed.Stored.{joined, stored_all, Sized, entries_for}

-- two runs of entries, one after the other
pub stored-append : (a b : List (List ℕ)) (l : List ℕ) (k : ℕ)
    → stored_all (stored_all l k a) (k + length a) b ≡ stored_all l k (a ++ b)
unfolding stored_all
stored-append [] b l k = rw add-zero
stored-append (e ∷ a) b l k =
    let q : k + suc (length a) ≡ suc k + length a = omega arith in
    rw q (stored-append a b (stored l (entry_size * k) e) (suc k))

-- entries of one size, stored behind what was laid
laid_on : (es : List (List ℕ)) → Sized es → (l w : List ℕ) (k : ℕ) → length w ≡ entry_size * k
    → stored_all (laid entry_size l w) k es ≡ laid entry_size l (w ++ joined es)
unfolding stored_all joined
laid_on [] t l w k e = rw append-nil
laid_on (x ∷ es) t l w k e =
    let step : stored (laid entry_size l w) (entry_size * k) x ≡ laid entry_size l (w ++ x) =
    rw (← e) (laid-step entry_size (omega arith) l w k e x t.0) in
    let long : length (w ++ x) ≡ entry_size * suc k = rw length-append (omega (arith, t.0)) in
    rw step (laid_on es t.1 l (w ++ x) (suc k) long ∙ ap (laid entry_size l) (append_assoc w x (joined es)))

-- all entries from the front
pub stored-laid : (es : List (List ℕ)) → Sized es → (l : List ℕ) → stored_all l 0 es ≡ laid entry_size l (joined es)
stored-laid es t l = ap (λ r. stored_all r 0 es) (sym (laid-nothing entry_size l)) ∙ laid_on es t l [] 0 refl

-- one kind after the other
kind_more : (t : Bool) (e : List ℕ) (es : List (List ℕ)) (l m : List ℕ) (k j : ℕ)
    → m ≡ cond t (stored l (entry_size * k) e) l → j ≡ k + bit t
    → (stored_all m j es ≡ stored_all l k (keep t e es)) × (j + length es ≡ k + length (keep t e es))
unfolding stored_all
kind_more true e es l m k j p q = (rw (p, q, add-one k), omega arith)
kind_more false e es l m k j p q = (rw (p, q, add-zero k), omega arith)

pub all_kinds : (b : Broken) (m : Bool) (card column vessel found : ℕ) (l₀ l₁ l₂ l₃ l₄ l₅ l₆ : List ℕ) (k₁ k₂ k₃ k₄ k₅ k₆ : ℕ)
    → l₁ ≡ cond b.undefined (stored l₀ (entry_size * found) (card ∷ column ∷ 1 ∷ vessel ∷ [])) l₀ → k₁ ≡ found + bit b.undefined
    → l₂ ≡ cond b.redefined (stored l₁ (entry_size * k₁) (card ∷ column ∷ 2 ∷ vessel ∷ [])) l₁ → k₂ ≡ k₁ + bit b.redefined
    → l₃ ≡ cond b.ambiguous (stored l₂ (entry_size * k₂) (card ∷ column ∷ 3 ∷ vessel ∷ [])) l₂ → k₃ ≡ k₂ + bit b.ambiguous
    → l₄ ≡ cond b.contradicted (stored l₃ (entry_size * k₃) (card ∷ column ∷ 4 ∷ vessel ∷ [])) l₃ → k₄ ≡ k₃ + bit b.contradicted
    → l₅ ≡ cond b.miscounted (stored l₄ (entry_size * k₄) (card ∷ column ∷ 5 ∷ vessel ∷ [])) l₄ → k₅ ≡ k₄ + bit b.miscounted
    → l₆ ≡ cond m (stored l₅ (entry_size * k₅) (card ∷ column ∷ 6 ∷ vessel ∷ [])) l₅ → k₆ ≡ k₅ + bit m
    → (l₆ ≡ stored_all l₀ found (entries_for b m card column vessel)) × (k₆ ≡ found + length (entries_for b m card column vessel))
unfolding entries_for stored_all
all_kinds b m card column vessel found l₀ l₁ l₂ l₃ l₄ l₅ l₆ k₁ k₂ k₃ k₄ k₅ k₆ p₁ q₁ p₂ q₂ p₃ q₃ p₄ q₄ p₅ q₅ p₆ q₆ =
    let z = kind_more m _ [] l₅ l₆ k₅ k₆ p₆ q₆ in
    let a = kind_more b.miscounted _ _ l₄ l₅ k₄ k₅ p₅ q₅ in
    let d = kind_more b.contradicted _ _ l₃ l₄ k₃ k₄ p₄ q₄ in
    let e = kind_more b.ambiguous _ _ l₂ l₃ k₂ k₃ p₃ q₃ in
    let f = kind_more b.redefined _ _ l₁ l₂ k₁ k₂ p₂ q₂ in
    let g = kind_more b.undefined _ _ l₀ l₁ found k₁ p₁ q₁ in
    (z.0 ∙ a.0 ∙ d.0 ∙ e.0 ∙ f.0 ∙ g.0, sym (add-zero k₆) ∙ z.1 ∙ a.1 ∙ d.1 ∙ e.1 ∙ f.1 ∙ g.1)

-- storing does not change how long the list is
length-stored : (l : List ℕ) (at : ℕ) (e : List ℕ) → length (stored l at e) ≡ length l
length-stored l at e = elim (dec_le (at + length e) (length l)) [
  | yes h ↦ ap length (stored_sets l at e h) ∙ length-sets l at e
  | no h ↦ ap length (stored_full l at e (omega arith))
]

pub length-stored-all : (es : List (List ℕ)) (l : List ℕ) (k : ℕ) → length (stored_all l k es) ≡ length l
unfolding stored_all
length-stored-all [] l k = refl
length-stored-all (e ∷ es) l k = length-stored-all es (stored l (entry_size * k) e) (suc k) ∙ length-stored l (entry_size * k) e
