-- From what stands in the columns to the number that tells it.
use Prim.Native.Nat.{ℕ, zero, suc, ◌+◌, ◌≤◌, ◌<◌}
use native.Mathlib.Omega.{arith}
use native.Mathlib.Decide.{dec_lt}
use mathlib.Core.Path.{◌≡◌, refl, ap, ◌∙◌}
use mathlib.Core.List.{List}
use mathlib.Core.Bool.{Bool, true, false, cond, not, ◌&&◌}
use lib.Dec.{eqb}
use lib.ListN.{length, get_or, drop, length-drop}
use borrow.Author.Tests.{ne_eqb, lt-ltb, le-ltb}
use Rattle.base_digits.specs.signs.Signs.{signed_of}
use Rattle.base_digits.specs.digits.Figures.{blanks, limit}
use Rattle.value_number.specs.number.Reading.{figures_of, held_of, sign_at, number_of}
use Rattle.value_number.proofs.number.Parsing.{number-signed}
use Rattle.value_number.specs.packed.Shapes.{is_units, mark_in, size_by, sized, size_of}
use Rattle.base_value.specs.Reading.{offence_of}
use Rattle.value_number.proofs.shapes.Small.{Small, figures_small}
use Rattle.std.specs.Prelude.{Option, Some, None}
use Rattle.value_number.specs.declared.number.Figures.{Figures}

-- its shape
pub shape_held : (minus : Bool) (f : Option Figures) → Small f → cond (is_units f) 0 9 ≡ offence_of (held_of minus f)
unfolding held_of
shape_held minus None h = refl
shape_held minus (Some f) h = rw (lt-ltb f.units limit h)

-- its size
pub size-held : (minus : Bool) (f : Option Figures) → size_by minus (mark_in f) ≡ size_of (held_of minus f)
unfolding held_of size_by signed_of
size-held minus None = refl
size-held minus (Some f) = elim (dec_lt f.units limit) [
  | yes h ↦ rw (lt-ltb f.units limit h, ne_eqb (f.units + 1) 0 (λ e. omega arith), le-ltb limit (f.units + 1) (omega arith)) (below minus f.units)
  | no h ↦ rw (le-ltb f.units limit (omega arith), ne_eqb (f.units + 1) 0 (λ e. omega arith), lt-ltb limit (f.units + 1) (omega arith))
]
  where
    below : (minus : Bool) (n : ℕ) → cond (minus && not (eqb (n + 1) 1)) 3 (n + 1 + 3) ≡ sized (signed_of minus n)
    below false n = omega arith
    below true zero = refl
    below true (suc n) = rw (ne_eqb (suc n + 1) 1 (λ e. omega arith))

-- columns with something in them; of a decimal no more than eighteen

module _ (s : List ℕ) (at : ℕ) (e : at ≡ blanks s) (inside : at < length s) (k : ℕ) (q : k ≡ sign_at (get_or s at 0)) where
  from : drop (at + k) s ≡ drop (at + sign_at (get_or s at 0)) s
  from = ap (λ (j : ℕ). drop (at + j) s) q

  pub shape_short : length s ≤ 18 → (u : Bool) → u ≡ is_units (figures_of true (drop (at + k) s)) → cond u 0 9 ≡ offence_of (number_of true s)
  shape_short few u h =
      ap (λ (b : Bool). cond b 0 9) (h ∙ ap (λ (t : List ℕ). is_units (figures_of true t)) from)
      ∙ shape_held (eqb (get_or s at 0) 45) (figures_of true (drop (at + sign_at (get_or s at 0)) s))
      (figures_small true (drop (at + sign_at (get_or s at 0)) s) (omega (arith, length-drop (at + sign_at (get_or s at 0)) s)))
      ∙ ap offence_of (number-signed true s at e inside)

  pub size_short : (m r : ℕ) → m ≡ mark_in (figures_of false (drop (at + k) s)) → r ≡ size_by (eqb (get_or s at 0) 45) m
      → r ≡ size_of (number_of false s)
  size_short m r h w =
      let f : m ≡ mark_in (figures_of false (drop (at + sign_at (get_or s at 0)) s)) = h ∙ ap (λ (t : List ℕ). mark_in (figures_of false t)) from in
      w ∙ ap (size_by (eqb (get_or s at 0) 45)) f
      ∙ size-held (eqb (get_or s at 0) 45) (figures_of false (drop (at + sign_at (get_or s at 0)) s))
      ∙ ap size_of (number-signed false s at e inside)
