-- What each way through the reading of a grid coordinate finds.
use Prim.Native.Nat.{ℕ, ◌-◌}
use mathlib.Core.Path.{◌≡◌, sym, ◌∙◌}
use mathlib.Core.List.{List}
use mathlib.Core.Bool.{true, false}
use lib.ListN.{length, get_or, take}
use lib.Dec.{eqb}
use borrow.Author.Tests.{eq-eqb, ne_eqb}
use Rattle.base_digits.specs.digits.Figures.{blanks}
use Rattle.value_number.specs.number.Reading.{number_of}
use Rattle.base_value.specs.declared.Value.{Value}
use Rattle.base_value.specs.declared.Value.TheVariants.{Absent}
use Rattle.base_value.specs.declared.Unread.TheVariants.{Malformed}
use Rattle.value_coordinate.specs.axes.Axes.{letter_of}
use Rattle.value_coordinate.specs.grid.Grid.{present_of, grid_of}
use Rattle.value_coordinate.specs.declared.axes.Axis.{Axis}
use Rattle.std.specs.Prelude.{Result, Ok, Err}
use Rattle.base_value.specs.declared.Unread.{Unread}

module _ (a : Axis) (s : List ℕ) (at : ℕ) (e : at ≡ blanks s) where
  pub grid_absent : at ≡ length s → Ok Absent ≡ grid_of a s
  unfolding grid_of
  grid_absent h = rw (eq-eqb (blanks s) (length s) (sym e ∙ h))

  module _ (present : at ≡ length s → ⊥) where
    some_present : eqb (blanks s) (length s) ≡ false
    some_present = ne_eqb (blanks s) (length s) (λ q. present (e ∙ q))

    module _ (l : ℕ) (k : l ≡ letter_of a false) where
      pub grid_other : (get_or s (length s - 1) 0 ≡ l → ⊥) → (Err Malformed) ≡ grid_of a s
      unfolding grid_of
      grid_other h = rw (some_present, ← k, ne_eqb (get_or s (length s - 1) 0) l h)

      pub grid_number : get_or s (length s - 1) 0 ≡ l → (n : Result Value Unread) → n ≡ number_of true (take (length s - 1) s) → present_of n ≡ grid_of a s
      unfolding grid_of
      grid_number h n q = rw (some_present, ← k, eq-eqb (get_or s (length s - 1) 0) l h, ← q)
