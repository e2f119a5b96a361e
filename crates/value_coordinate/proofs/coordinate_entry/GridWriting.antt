-- What each way through the writing of a grid coordinate leaves in the columns.
use Prim.Native.Nat.{ℕ, ◌-◌}
use native.Mathlib.Omega.{arith}
use mathlib.Core.Path.{◌≡◌, refl, sym, ap, ◌∙◌}
use mathlib.Core.List.{List, ◌++◌}
use mathlib.Core.Bool.{true, false, true≢false, false≢true}
use lib.ListN.{length, take, drop, set, take-append-drop}
use lib.Seq.{length-take-le}
use borrow.Author.Tests.{eq-eqb, ne_eqb}
use Rattle.base_refusal.specs.declared.Unwritten.TheVariants.{NoRoom}
use Rattle.base_digits.specs.digits.Columns.{agreed, refused, fits, written}
use Rattle.value_number.specs.number_entry.Spelling.{decimal_in}
use Rattle.base_value.specs.declared.Decimal.{Decimal}
use Rattle.value_coordinate.specs.axes.Axes.{letter_of}
use Rattle.value_coordinate.specs.coordinate_entry.Plotting.{grid_in}
use Rattle.value_coordinate.specs.declared.axes.Axis.{Axis}
use Rattle.value_number.proofs.number_entry.Writing.{put_letter}
use Rattle.std.specs.Prelude.{Option, None, Some}

module _ (a : Axis) (s : List ℕ) (d : Decimal) where
  pub grid_empty : length s ≡ 0 → grid_in a (length s) d ≡ refused NoRoom
  unfolding grid_in
  grid_empty h = rw (eq-eqb (length s) 0 h)

  module _ (some-column : length s ≡ 0 → ⊥) (t : List ℕ) where
    front : length (take (length s - 1) s) ≡ length s - 1
    front = length-take-le (length s - 1) s (omega arith)

    pub grid_no_room : fits (decimal_in (length (take (length s - 1) s)) d) ≡ false
        → t ≡ written (decimal_in (length (take (length s - 1) s)) d) (take (length s - 1) s)
        → (grid_in a (length s) d ≡ refused NoRoom) × (t ++ drop (length s - 1) s ≡ s)
    unfolding grid_in
    grid_no_room g h = go (decimal_in (length s - 1) d) refl (rw front at g) (rw front at h)
      where
        go : (o : Option (List ℕ)) → decimal_in (length s - 1) d ≡ o → fits o ≡ false → t ≡ written o (take (length s - 1) s)
            → (grid_in a (length s) d ≡ refused NoRoom) × (t ++ drop (length s - 1) s ≡ s)
        go (Some u) e g h = absurd (true≢false g)
        go None e g h = (rw (ne_eqb (length s) 0 some-column, e), rw h (take-append-drop (length s - 1) s))

    pub grid_written : (l : ℕ) → l ≡ letter_of a false → length t ≡ length (take (length s - 1) s)
        → fits (decimal_in (length (take (length s - 1) s)) d) ≡ true
        → t ≡ written (decimal_in (length (take (length s - 1) s)) d) (take (length s - 1) s)
        → grid_in a (length s) d ≡ agreed (set (t ++ drop (length s - 1) s) (length s - 1) l)
    unfolding grid_in
    grid_written l q k g h = go (decimal_in (length s - 1) d) refl (rw front at g) (rw front at h)
      where
        go : (o : Option (List ℕ)) → decimal_in (length s - 1) d ≡ o → fits o ≡ true → t ≡ written o (take (length s - 1) s)
            → grid_in a (length s) d ≡ agreed (set (t ++ drop (length s - 1) s) (length s - 1) l)
        go (Some u) e g h =
            rw (ne_eqb (length s) 0 some-column, e, ← q, ← h)
            (ap agreed (sym (put_letter s t (length s - 1) l (k ∙ front) (omega arith))))
        go None e g h = absurd (false≢true g)
