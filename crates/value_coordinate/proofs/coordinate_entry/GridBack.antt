-- What is written of a grid coordinate is read as that coordinate.
use Prim.Native.Nat.{ℕ, ◌+◌, ◌-◌}
use native.Mathlib.Omega.{arith}
use mathlib.Core.Path.{◌≡◌, refl, sym, ◌∙◌}
use mathlib.Core.List.{List, [], ◌∷◌, ◌++◌}
use mathlib.Core.Bool.{Bool, true, false, cond}
use lib.ListN.{length, length-append}
use lib.Seq.{take-append_seam, get_or-append_seam}
use lib.Dec.{eqb}
use borrow.Author.Tests.{eq-eqb, ne_eqb, eqb-false}
use Rattle.base_refusal.specs.declared.Unwritten.TheVariants.{NoRoom}
use Rattle.base_digits.specs.digits.Figures.{blanks}
use Rattle.base_digits.specs.digits.Columns.{agreed, refused}
use Rattle.value_number.specs.number.Reading.{number_of}
use Rattle.value_number.specs.number_entry.Spelling.{decimal_in}
use Rattle.base_value.specs.declared.Decimal.{Decimal}
use Rattle.value_number.proofs.number_entry.Back.{number_back}
use Rattle.base_value.specs.declared.Value.TheVariants as value
use Rattle.value_coordinate.specs.axes.Axes.{letter_of}
use Rattle.value_coordinate.specs.grid.Grid.{present_of, grid_of}
use Rattle.value_coordinate.specs.coordinate_entry.Plotting.{lettered, grid_in}
use Rattle.value_coordinate.specs.declared.axes.Axis.{Axis}
use Rattle.base_digits.proofs.digits.Blank.{blank_at}
use Rattle.value_coordinate.proofs.axes.Letters.{letter_blank}
use Rattle.std.specs.Prelude.{Ok, Option, None, Some}

-- a number with its letter
grid_read : (a : Axis) (d : Decimal) (u : List ℕ) → number_of true u ≡ Ok (value.Decimal d) → grid_of a (u ++ (letter_of a false ∷ [])) ≡ Ok (value.Decimal d)
unfolding grid_of present_of
grid_read a d u h =
    let l = letter_of a false in
    let s = u ++ (l ∷ []) in
    let w : length s ≡ length u + 1 = length-append u (l ∷ []) in
    let k : length s - 1 ≡ length u = omega arith in
    rw (ne_eqb (blanks s) (length s) (λ q. letter_blank a false (sym (get_or-append_seam u l [] 0) ∙ blank_at s (length u) q (omega arith))), k, get_or-append_seam u l [] 0, eq-eqb l l refl, take-append_seam u (l ∷ []), h)

pub grid_back : (a : Axis) (w : ℕ) (d : Decimal) (t : List ℕ) → grid_in a w d ≡ agreed t → (grid_of a t ≡ Ok (value.Decimal d)) × (length t ≡ w)
unfolding grid_in
grid_back a w d t h = go (eqb w 0) refl (decimal_in (w - 1) d) refl h
  where
    go : (b : Bool) → eqb w 0 ≡ b → (o : Option (List ℕ)) → decimal_in (w - 1) d ≡ o
        → cond b (refused NoRoom) (lettered (letter_of a false) o) ≡ agreed t → (grid_of a t ≡ Ok (value.Decimal d)) × (length t ≡ w)
    go true p o q e = absurd (let x : ◌≡◌ {A = ℕ} 0 1 = cc in omega arith)
    go false p None q e = absurd (let x : ◌≡◌ {A = ℕ} 0 1 = cc in omega arith)
    go false p (Some u) q e =
        let s : u ++ (letter_of a false ∷ []) ≡ t = cc in
        let r = number_back true (w - 1) d u (λ h. refl) q in
        let k : length u ≡ w - 1 = r.1 in
        let n : w ≡ 0 → ⊥ = eqb-false w 0 p in
        (rw s at (grid_read a d u r.0), rw s at (length-append u (letter_of a false ∷ [])) ∙ omega arith)
