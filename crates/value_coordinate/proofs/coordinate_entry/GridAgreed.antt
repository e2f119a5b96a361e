-- A grid coordinate that is read can be written into the columns it stood in.
use Prim.Native.Nat.{ℕ, ◌-◌}
use native.Mathlib.Omega.{arith}
use mathlib.Core.Path.{◌≡◌, refl}
use mathlib.Core.List.{List, [], ◌∷◌, ◌++◌}
use mathlib.Core.Bool.{Bool, true, false, cond, true≢false}
use lib.ListN.{length, get_or, take}
use lib.Seq.{length-take-le}
use lib.Dec.{eqb}
use borrow.Author.Tests.{ne_eqb}
use Rattle.base_digits.specs.digits.Figures.{blanks}
use Rattle.base_digits.specs.digits.Columns.{agreed}
use Rattle.value_number.specs.number.Reading.{number_of}
use Rattle.base_value.specs.declared.Decimal.{Decimal}
use Rattle.base_value.specs.declared.Value.TheVariants as value
use Rattle.base_value.specs.declared.Unread.TheVariants.{Malformed, OutOfRange}
use Rattle.value_number.proofs.number_entry.Agreed.{decimal-agreed}
use Rattle.value_coordinate.specs.axes.Axes.{letter_of}
use Rattle.value_coordinate.specs.grid.Grid.{present_of, grid_of}
use Rattle.value_coordinate.specs.coordinate_entry.Plotting.{grid_in}
use Rattle.value_coordinate.specs.declared.axes.Axis.{Axis}
use Rattle.std.specs.Prelude.{Result, Ok, Err}
use Rattle.base_value.specs.declared.Unread.{Unread}
use Rattle.base_value.specs.declared.Value.{Value}

-- a number that is there
number-there : (n : Result Value Unread) (d : Decimal) → present_of n ≡ Ok (value.Decimal d) → n ≡ Ok (value.Decimal d)
unfolding present_of
number-there (Ok value.Absent) d h = cc
number-there (Ok (value.Whole z)) d h = h
number-there (Ok (value.Decimal e)) d h = h
number-there (Ok (value.Angle z)) d h = h
number-there (Ok (value.Date e)) d h = h
number-there (Ok (value.Text c)) d h = h
number-there (Err Malformed) d h = cc
number-there (Err OutOfRange) d h = cc

some-columns : (s : List ℕ) → eqb (blanks s) (length s) ≡ false → length s ≡ 0 → ⊥
unfolding blanks
some-columns [] h k = true≢false h
some-columns (b ∷ s) h k = omega arith

pub grid_agreed : (a : Axis) (s : List ℕ) (d : Decimal) → grid_of a s ≡ Ok (value.Decimal d) → (t : List ℕ) × (grid_in a (length s) d ≡ agreed t)
unfolding grid_of grid_in
grid_agreed a s d h = go (eqb (blanks s) (length s)) refl (eqb (get_or s (length s - 1) 0) (letter_of a false)) h
  where
    front : List ℕ
    front = take (length s - 1) s

    go : (b : Bool) → eqb (blanks s) (length s) ≡ b → (c : Bool)
        → cond b (Ok value.Absent) (cond c (present_of (number_of true front)) (Err Malformed)) ≡ Ok (value.Decimal d) → (t : List ℕ) × (grid_in a (length s) d ≡ agreed t)
    go true p c e = absurd (let x : ◌≡◌ {A = ℕ} 0 1 = cc in omega arith)
    go false p false e = absurd (let x : ◌≡◌ {A = ℕ} 0 1 = cc in omega arith)
    go false p true e =
        let k : length front ≡ length s - 1 = length-take-le (length s - 1) s (omega arith) in
        let u = decimal-agreed true front d (number-there (number_of true front) d e) (length s - 1) (omega arith) in
        (u.0 ++ (letter_of a false ∷ []), rw (ne_eqb (length s) 0 (some-columns s p), u.1))
