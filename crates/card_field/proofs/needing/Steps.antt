-- What each way to a field's need finds.
use Prim.Native.Nat.{ℕ, suc, ◌+◌, ◌≤◌, ◌<◌}
use native.Mathlib.Omega.{arith}
use native.Mathlib.Numerals.{add-one}
use mathlib.Core.Path.{◌≡◌, refl, sym, ap, ap₂, ◌∙◌}
use mathlib.Core.List.{List, [], ◌∷◌}
use mathlib.Core.Bool.{Bool, false, ◌&&◌, ◌||◌, not}
use lib.ListN.{length, get_or, drop, drop_of_length-le}
use lib.Seq.{drop-cons}
use lib.Dec.{eqb}
use borrow.Author.Tests.{le-leb, ne_eqb}
use Rattle.format_layout.specs.declared.Field.{Field}
use Rattle.format_layout.specs.Layouts.{field_of, fields_of, no_field}
use Rattle.card_field.specs.needing.Needs.{second_at, second_by, any_second, other_second, needed_on, needed_after}
use Rattle.std.specs.Prelude.{Option, Some, None}

-- the second set but for one field, field by field
other_more : (s : List ℕ) (n m : ℕ) (fs : List Field) (i : ℕ) → i < length fs
    → other_second s n m (drop i fs) ≡ ((not (eqb m n) && second_at s (get_or fs i no_field)) || other_second s n (suc m) (drop (i + 1) fs))
unfolding other_second
other_more s n m fs i h = rw (drop-cons fs i no_field h, add-one i)

module _ (s : List ℕ) (k n i : ℕ) (inside : i < length (fields_of k)) where
  numbered : field_of k (i + 1) ≡ Some (get_or (fields_of k) i no_field)
  unfolding field_of
  numbered =
      rw (le-leb 1 (i + 1) (omega arith), le-leb (i + 1) (length (fields_of k)) (omega arith))
      (ap (λ j. Some (get_or (fields_of k) j no_field)) (omega arith))

  by_number : second_by s (field_of k (i + 1)) ≡ second_at s (get_or (fields_of k) i no_field)
  unfolding second_by
  by_number = rw numbered

  pub other-is : (b : Bool) → (not (eqb (i + 1) n) && second_by s (field_of k (i + 1))) ≡ b
      → other_second s n (i + 1) (drop i (fields_of k)) ≡ (b || other_second s n (i + 1 + 1) (drop (i + 1) (fields_of k)))
  other-is b h =
      other_more s n (i + 1) (fields_of k) i inside
      ∙ ap₂ (λ x m. (not (eqb (i + 1) n) && x) || other_second s n m (drop (i + 1) (fields_of k))) (sym by_number) (sym (add-one (i + 1)))
      ∙ ap (λ x. x || other_second s n (i + 1 + 1) (drop (i + 1) (fields_of k))) h

pub other-over : (s : List ℕ) (k n m i : ℕ) → length (fields_of k) ≤ i → other_second s n m (drop i (fields_of k)) ≡ false
unfolding other_second
other-over s k n m i h = rw (drop_of_length-le (fields_of k) h)

-- no field has the number 0
none_left_out : (s : List ℕ) (m : ℕ) (fs : List Field) → other_second s 0 (suc m) fs ≡ any_second s fs
unfolding other_second any_second
none_left_out s m [] = refl
none_left_out s m (f ∷ fs) = rw (ne_eqb (suc m) 0 (λ q. omega (arith, q)), none_left_out s (suc m) fs)

pub need_now : (k : ℕ) (s : List ℕ) (f : Field) → needed_after k s 0 f ≡ needed_on k s f
unfolding needed_after needed_on
need_now k s f = ap (λ b. f.needed && (not f.second || b)) (none_left_out s 0 (fields_of k))

pub second_none : (s : List ℕ) (o : Option Field) → o ≡ None → second_by s o ≡ false
unfolding second_by
second_none s o q = rw q

pub second_is : (s : List ℕ) (o : Option Field) (f : Field) → o ≡ Some f → second_by s o ≡ second_at s f
unfolding second_by
second_is s o f q = rw q
