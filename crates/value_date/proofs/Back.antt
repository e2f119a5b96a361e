-- What is written of a date is read as that date.
use Prim.Native.Nat.{ℕ, ◌≤◌}
use native.Mathlib.Omega.{arith}
use mathlib.Core.Path.{◌≡◌, refl, sym, ap, ◌∙◌}
use mathlib.Core.List.{List}
use mathlib.Core.Bool.{Bool, true, false, cond, ◌&&◌}
use lib.ListN.{length}
use lib.Dec.{eqb, leb}
use borrow.Author.Tests.{eq-eqb, ne_eqb, leb-true, eqb-true}
use Rattle.base_refusal.specs.declared.Unwritten.TheVariants.{OutOfRange as Outside, NoRoom}
use Rattle.base_digits.specs.digits.Figures.{blanks, leading, value_from}
use Rattle.base_digits.specs.digits.Digits.{digits}
use Rattle.base_digits.specs.digits.Columns.{agreed, refused}
use Rattle.base_digits.proofs.digits.Bools.{and_left, and_right}
use Rattle.base_digits.proofs.digits.Numbers.{digits_value, no_blanks}
use Rattle.base_digits.proofs.digits.Spell.{digits-length}
use Rattle.value_date.specs.Calendar.{is_leap, is_short, days_in, is_date}
use Rattle.value_date.specs.Dates.{number_of, parts_of, dated_of, date_of, date_in}
use Rattle.base_value.specs.declared.Date.{Date}
use Rattle.base_value.specs.declared.Value.TheVariants as value
use Rattle.value_date.proofs.Filled.{digits_fill}
use Rattle.std.specs.Prelude.{Ok}

days_most : (year month : ℕ) → days_in year month ≤ 31
unfolding days_in
days_most year month = go (eqb month 2) (is_leap year) (is_short month)
  where
    go : (a b c : Bool) → cond a (cond b 29 28) (cond c 30 31) ≤ 31
    go true true c = omega arith
    go true false c = omega arith
    go false b true = omega arith
    go false b false = omega arith

-- each part of a date has its columns
bounds : (d : Date) → is_date d ≡ true → (d.year ≤ 9999) × (d.month ≤ 12) × (d.day ≤ 31)
unfolding is_date
bounds d h =
    let rest = and_right (leb 1 d.year && leb d.year 9999) _ h in
    let day = and_right (leb 1 d.day) _ (and_right (leb 1 d.month && leb d.month 12) _ rest) in (
      leb-true d.year 9999 (and_right (leb 1 d.year) _ (and_left _ _ h)),
      leb-true d.month 12 (and_right (leb 1 d.month) _ (and_left _ _ rest)),
      omega (arith, days_most d.year d.month, leb-true d.day (days_in d.year d.month) day),
    )

-- and is found again in the number
parts_back : (d : Date) → is_date d ≡ true → parts_of (value_from 0 (digits 8 (number_of d))) ≡ d
parts_back d h =
    let b = bounds d h in
    let y : d.year ≤ 9999 = b.0 in
    let m : d.month ≤ 12 = b.1 in
    let k : d.day ≤ 31 = b.2 in
    let v : value_from 0 (digits 8 (number_of d)) ≡ number_of d = digits_value 0 8 (number_of d) ∙ omega arith in
    ap parts_of v ∙ same (omega arith) (omega arith) (omega arith)
  where
    same : {y m k : ℕ} → y ≡ d.year → m ≡ d.month → k ≡ d.day → ◌≡◌ {A = Date} (record { year = y; month = m; day = k }) d
    same p q r = λ i. record { year = p i; month = q i; day = r i }

read_back : (d : Date) → is_date d ≡ true → date_of (digits 8 (number_of d)) ≡ Ok (value.Date d)
unfolding date_of dated_of
read_back d h =
    let t = digits 8 (number_of d) in
    let l : length t ≡ 8 = digits-length 8 (number_of d) in
    let z : blanks t ≡ 0 = no_blanks t (digits_fill 8 (number_of d)) (omega arith) in
    rw (ne_eqb (blanks t) (length t) (λ q. omega arith), eq-eqb (length t) 8 l, eq-eqb (length (leading t)) (length t) (digits_fill 8 (number_of d)), parts_back d h, h)

pub date_back : (w : ℕ) (d : Date) (t : List ℕ) → date_in w d ≡ agreed t → (date_of t ≡ Ok (value.Date d)) × (length t ≡ w)
unfolding date_in
date_back w d t h = go (is_date d) refl (eqb w 8) refl h
  where
    go : (a : Bool) → is_date d ≡ a → (b : Bool) → eqb w 8 ≡ b
        → cond a (cond b (agreed (digits 8 (number_of d))) (refused NoRoom)) (refused Outside) ≡ agreed t → (date_of t ≡ Ok (value.Date d)) × (length t ≡ w)
    go true p true q e =
        let s : digits 8 (number_of d) ≡ t = cc in
        (rw s at (read_back d p), rw s at (digits-length 8 (number_of d)) ∙ sym (eqb-true w 8 q))
    go true p false q e = (cc, absurd (let z : ◌≡◌ {A = ℕ} 0 1 = cc in omega arith))
    go false p b q e = (cc, absurd (let z : ◌≡◌ {A = ℕ} 0 1 = cc in omega arith))
