-- What each way through the reading and the writing of a date finds.
use Prim.Native.Nat.{ℕ, ◌<◌}
use native.Mathlib.Omega.{arith}
use mathlib.Core.Path.{◌≡◌, sym, ap, ap₂, ◌∙◌}
use mathlib.Core.List.{List}
use mathlib.Core.Bool.{Bool, true, false}
use lib.ListN.{length}
use lib.Dec.{eqb}
use borrow.Author.Tests.{eq-eqb, ne_eqb}
use Rattle.base_digits.specs.declared.digits.Run.{Run}
use Rattle.base_refusal.specs.declared.Unwritten.TheVariants.{OutOfRange as Outside, NoRoom}
use Rattle.base_digits.specs.digits.Figures.{blanks, leading, value_from, run_of}
use Rattle.base_digits.specs.digits.Digits.{digits}
use Rattle.base_digits.specs.digits.Columns.{agreed, refused}
use Rattle.base_digits.proofs.digits.Numbers.{value_below}
use Rattle.base_digits.proofs.digits.Walk.{all-leading}
use Rattle.value_date.specs.Calendar.{is_date}
use Rattle.value_date.specs.Dates.{number_of, parts_of, dated_of, date_of, date_in}
use Rattle.base_value.specs.declared.Date.{Date}
use Rattle.base_value.specs.declared.Value.TheVariants as value
use Rattle.base_value.specs.declared.Unread.TheVariants.{Malformed, OutOfRange}
use Rattle.std.specs.Prelude.{Ok, Err}

module _ (s : List ℕ) (at : ℕ) (e : at ≡ blanks s) where
  pub date_absent : at ≡ length s → Ok value.Absent ≡ date_of s
  unfolding date_of
  date_absent h = rw (eq-eqb (blanks s) (length s) (sym e ∙ h))

  module _ (present : at ≡ length s → ⊥) where
    some_present : eqb (blanks s) (length s) ≡ false
    some_present = ne_eqb (blanks s) (length s) (λ q. present (e ∙ q))

    pub date-width : (length s ≡ 8 → ⊥) → (Err Malformed) ≡ date_of s
    unfolding date_of
    date-width h = rw (some_present, ne_eqb (length s) 8 h)

    module _ (r : Run) (q : r ≡ run_of 0 s) (wide : length s ≡ 8) where
      count-is : r.count ≡ length (leading s)
      count-is = ap (λ (x : Run). x.count) q

      pub date-other : (r.count ≡ 8 → ⊥) → (Err Malformed) ≡ date_of s
      unfolding date_of
      date-other h =
          rw (some_present, eq-eqb (length s) 8 wide, ne_eqb (length (leading s)) (length s) (λ p. h (count-is ∙ p ∙ wide)))

      module _ (full : r.count ≡ 8) where
        small : value_from 0 (leading s) < 100000000
        small = rw (sym count-is ∙ full) at (value_below 0 s)

        number_is : r.number ≡ value_from 0 (leading s)
        number_is = ap (λ (x : Run). x.number) q ∙ (let h : value_from 0 (leading s) < 100000000 = small in omega arith)

        pub date-small : r.number < 100000000
        date-small = rw number_is small

        pub date-digits : dated_of (parts_of r.number) ≡ date_of s
        unfolding date_of
        date-digits =
            ap (λ n. dated_of (parts_of n)) (number_is ∙ ap (value_from 0) (all-leading s all))
            ∙ rw (some_present, eq-eqb (length s) 8 wide, eq-eqb (length (leading s)) (length s) all)
          where
            all : length (leading s) ≡ length s
            all = sym count-is ∙ full ∙ sym wide

-- a date, and none
module _ (d : Date) (b : Bool) (e : b ≡ is_date d) where
  pub dated_held : b ≡ true → Ok (value.Date d) ≡ dated_of d
  unfolding dated_of
  dated_held h = rw (← e, h)

  pub dated_outside : b ≡ false → (Err OutOfRange) ≡ dated_of d
  unfolding dated_of
  dated_outside h = rw (← e, h)

  module _ (w : ℕ) where
    pub in_outside : b ≡ false → date_in w d ≡ refused Outside
    unfolding date_in
    in_outside h = rw (← e, h)

    pub in_short : b ≡ true → (w ≡ 8 → ⊥) → date_in w d ≡ refused NoRoom
    unfolding date_in
    in_short h k = rw (← e, h, ne_eqb w 8 k)

    pub in_eight : b ≡ true → w ≡ 8 → (n : ℕ) → n ≡ number_of d → date_in w d ≡ agreed (digits w n)
    unfolding date_in
    in_eight h k n q = rw (← e, h, eq-eqb w 8 k) (ap₂ (λ v m. agreed (digits v m)) (sym k) (sym q))
