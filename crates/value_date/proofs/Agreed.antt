-- A date that is read is written with the very columns it stood in.
use Prim.Native.Nat.{ℕ}
use native.Mathlib.Omega.{arith}
use native.Mathlib.Nat.{zero-add}
use mathlib.Core.Path.{◌≡◌, refl, sym, ap, ◌∙◌}
use mathlib.Core.List.{List}
use mathlib.Core.Bool.{Bool, true, false, cond, ◌&&◌}
use lib.ListN.{length}
use lib.Dec.{eqb}
use borrow.Author.Tests.{eqb-true}
use Rattle.base_digits.specs.digits.Figures.{blanks, leading, value_from}
use Rattle.base_digits.specs.digits.Digits.{digits}
use Rattle.base_digits.specs.digits.Columns.{agreed}
use Rattle.value_number.specs.number.Reading.{all_digits}
use Rattle.value_date.specs.Calendar.{is_date}
use Rattle.value_date.specs.Dates.{number_of, parts_of, dated_of, date_of, date_in}
use Rattle.base_value.specs.declared.Date.{Date}
use Rattle.base_value.specs.declared.Value.TheVariants as value
use Rattle.base_value.specs.declared.Unread.TheVariants.{Malformed, OutOfRange}
use Rattle.value_date.proofs.Filled.{value_digits}
use Rattle.std.specs.Prelude.{Ok, Err}

-- eight digits are those of their number's parts
same_digits : (s : List ℕ) → eqb (length s) 8 ≡ true → all_digits s ≡ true → digits 8 (number_of (parts_of (value_from 0 s))) ≡ s
unfolding digits
same_digits s w a =
    let n = value_from 0 s in
    let l : length s ≡ 8 = eqb-true (length s) 8 w in
    let e : number_of (parts_of n) ≡ n = omega arith in
    rw e (ap (λ k. digits k n) (sym l ∙ sym (zero-add (length s))) ∙ value_digits 0 0 s (eqb-true (length (leading s)) (length s) a))

pub date-agreed : (s : List ℕ) (d : Date) → date_of s ≡ Ok (value.Date d) → date_in (length s) d ≡ agreed s
unfolding date_of dated_of date_in
date-agreed s d h = go (eqb (blanks s) (length s)) (eqb (length s) 8) refl (all_digits s) refl (is_date (parts_of (value_from 0 s))) refl h
  where
    go : (a b : Bool) → eqb (length s) 8 ≡ b → (c : Bool) → all_digits s ≡ c → (k : Bool) → is_date (parts_of (value_from 0 s)) ≡ k
        → cond a (Ok value.Absent) (cond (b && c) (cond k (Ok (value.Date (parts_of (value_from 0 s)))) (Err OutOfRange)) (Err Malformed)) ≡ Ok (value.Date d)
        → date_in (length s) d ≡ agreed s
    go true b p c q k r e = cc
    go false false p c q k r e = cc
    go false true p false q k r e = cc
    go false true p true q false r e = cc
    go false true p true q true r e = let f : parts_of (value_from 0 s) ≡ d = cc in rw (← f, r, p) (ap agreed (same_digits s p q))
