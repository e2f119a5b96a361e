-- What each way through the writing of an angle leaves in the columns.
use Prim.Native.Nat.{ℕ, ◌≤◌, ◌<◌}
use native.Mathlib.Omega.{arith}
use mathlib.Core.Path.{◌≡◌, ap, ◌∙◌}
use mathlib.Core.List.{List, [], ◌∷◌, ◌++◌}
use lib.ListN.{length, take, drop, set}
use lib.Seq.{length-take-le}
use lib.IntN.{ℤ, nat_abs}
use borrow.Author.Tests.{eq-eqb, ne_eqb, le-leb, lt-leb}
use Rattle.base_refusal.specs.declared.Unwritten.TheVariants.{OutOfRange as Outside, NoRoom}
use Rattle.base_digits.specs.digits.Columns.{agreed, refused, written}
use Rattle.base_digits.specs.signs.Signs.{is_minus}
use Rattle.value_number.specs.number_entry.Spelling.{plain, plain_in}
use Rattle.value_number.proofs.number_entry.Writing.{plain_exact, put_letter}
use Rattle.value_coordinate.specs.axes.Axes.{bound_of, letter_of}
use Rattle.value_coordinate.specs.coordinate_entry.Plotting.{figures_in, angle_in}
use Rattle.value_coordinate.specs.declared.axes.Axis.{Axis}

module _ (a : Axis) (w : ℕ) (z : ℤ) (n : ℕ) (e : n ≡ nat_abs z) (b : ℕ) (f : b ≡ bound_of a) where
  pub angle_outside : b < n → angle_in a w z ≡ refused Outside
  unfolding angle_in
  angle_outside h = rw (← e, ← f, lt-leb n b h)

  module _ (within : n ≤ b) where
    pub angle_no_room : (w ≡ 12 → ⊥) → angle_in a w z ≡ refused NoRoom
    unfolding angle_in
    angle_no_room h = rw (← e, ← f, le-leb n b within, ne_eqb w 12 h)

    pub angle_room : w ≡ 12 → (l : ℕ) → l ≡ letter_of a (is_minus z) → angle_in a w z ≡ agreed (plain 7 3 (figures_in n) ++ (l ∷ []))
    unfolding angle_in
    angle_room h l q = rw (← e, ← f, le-leb n b within, eq-eqb w 12 h, ← q)

pub angle_written : (s t : List ℕ) (m n l : ℕ) → length s ≡ 12 → length t ≡ length (take 11 s) → m ≡ figures_in n
    → t ≡ written (plain_in (length (take 11 s)) 3 m) (take 11 s) → set (t ++ drop 11 s) 11 l ≡ plain 7 3 (figures_in n) ++ (l ∷ [])
angle_written s t m n l w k q h =
    put_letter s t 11 l (k ∙ front) w
    ∙ ap (λ (r : List ℕ). r ++ (l ∷ [])) (h ∙ ap (λ o. written o (take 11 s)) (plain_exact (length (take 11 s)) 3 m 7 front) ∙ ap (plain 7 3) q)
  where
    front : length (take 11 s) ≡ 11
    front = length-take-le 11 s (omega arith)
