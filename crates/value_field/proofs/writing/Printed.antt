-- What an entry agreed to write is printable: bytes 32 to 126 alone.
use Prim.Native.Nat.{ℕ, zero, suc, ◌+◌, ◌-◌, ◌/◌, ◌%◌, ◌^◌, ◌≤◌, ◌<◌, max}
use native.Mathlib.Omega.{arith}
use native.Mathlib.Nat.{mod-lt}
use mathlib.Core.Path.{◌≡◌, refl, sym, subst, ◌∙◌}
use mathlib.Core.List.{List, [], ◌∷◌, ◌++◌}
use mathlib.Core.Bool.{Bool, true, false, cond, ◌&&◌, not}
use lib.ListN.{length, replicate}
use lib.Dec.{leb, ltb, eqb}
use lib.IntN.{ℤ, nat_abs}
use borrow.Author.Tests.{le-leb}
use Rattle.base_digits.specs.digits.Figures.{limit}
use Rattle.base_digits.specs.digits.Digits.{digits, size}
use Rattle.base_digits.specs.digits.Columns.{agreed, refused, right_adjusted, or_else}
use Rattle.base_refusal.specs.declared.Unwritten.TheVariants as unwritten
use Rattle.base_digits.proofs.digits.Bools.{and_left, and_right, and_both}
use Rattle.base_value.specs.declared.Decimal.{Decimal as DecimalOf}
use Rattle.base_digits.specs.signs.Signs.{is_minus}
use Rattle.value_number.specs.number_entry.Spelling.{sign, plain, spelled, units_in as units_at, decimal_in}
use Rattle.value_number.proofs.number_entry.Back.{adjusted_back}
use Rattle.base_value.specs.declared.Date.{Date as DateOf}
use Rattle.value_date.specs.Calendar.{is_date}
use Rattle.value_date.specs.Dates.{number_of, date_in}
use Rattle.value_coordinate.specs.declared.axes.Axis.{Axis}
use Rattle.value_coordinate.specs.declared.axes.Axis.TheVariants.{Y, X}
use Rattle.value_coordinate.specs.axes.Axes.{bound_of, letter_of}
use Rattle.value_coordinate.specs.coordinate_entry.Plotting.{figures_in, angle_in, lettered, grid_in}
use Rattle.value_text.specs.text.Texts.{printable, well_formed, text_in}
use Rattle.base_value.specs.declared.Value.{Value}
use Rattle.base_value.specs.declared.Value.TheVariants.{Absent, Whole, Decimal, Angle, Date, Text}
use Rattle.value_field.specs.declared.spelling.Spelling.{Spelling}
use Rattle.value_field.specs.declared.spelling.Spelling.TheVariants as spelling
use Rattle.value_field.specs.writing.Writing.{blanked, no_value_in, whole_in, units_in, day_in, arc_in, grid_entry_in, entry_of, text_entry_of}
use Rattle.value_field.proofs.spelling.Absence.{zero_one}
use Rattle.value_field.proofs.writing.Back.{never, room-is}
use Rattle.std.specs.Prelude.{Option, None, Some}

-- one byte, and bytes behind bytes
one : (b : ℕ) (s : List ℕ) → 32 ≤ b → b ≤ 126 → printable s ≡ true → printable (b ∷ s) ≡ true
unfolding printable
one b s l m h = rw (le-leb 32 b l, le-leb b 126 m) h

pub both : (s t : List ℕ) → printable s ≡ true → printable t ≡ true → printable (s ++ t) ≡ true
unfolding printable
both [] t h k = k
both (b ∷ s) t h k =
    let x = leb 32 b in
    let y = leb b 126 in
    let r = and_right x (y && printable s) h in
    and_both x (y && printable (s ++ t)) (and_left x (y && printable s) h)
    (and_both y (printable (s ++ t)) (and_left y (printable s) r) (both s t (and_right y (printable s) r) k))

nothing : printable [] ≡ true
unfolding printable
nothing = refl

spaces : (w : ℕ) → printable (replicate w 32) ≡ true
unfolding printable
spaces zero = refl
spaces (suc w) = spaces w

figures : (k n : ℕ) → printable (digits k n) ≡ true
unfolding digits
figures zero n = nothing
figures (suc k) n =
    let h : n % 10 < 10 = mod-lt n (omega arith) in
    both (digits k (n / 10)) ((48 + n % 10) ∷ []) (figures k (n / 10)) (one (48 + n % 10) [] (omega arith) (omega arith) nothing)

plain-printed : (k p n : ℕ) → printable (plain k p n) ≡ true
unfolding plain
plain-printed k zero n = figures k n
plain-printed k (suc p) n =
    both (digits k (n / 10 ^ suc p)) (46 ∷ digits (suc p) n) (figures k (n / 10 ^ suc p))
    (one 46 (digits (suc p) n) (omega arith) (omega arith) (figures (suc p) n))

spelled-printed : (m : Bool) (k p n : ℕ) → printable (spelled m k p n) ≡ true
unfolding spelled sign
spelled-printed true k p n = one 45 (plain k p n) (omega arith) (omega arith) (plain-printed k p n)
spelled-printed false k p n = plain-printed k p n

adjusted_printed : (w : ℕ) (x t : List ℕ) → printable x ≡ true → right_adjusted w x ≡ Some t → printable t ≡ true
adjusted_printed w x t h e =
    subst (λ (l : List ℕ). printable l ≡ true) (sym (adjusted_back w x t e).0) (both (replicate (w - length x) 32) x (spaces (w - length x)) h)

decimal-printed : (w : ℕ) (d : DecimalOf) (t : List ℕ) → decimal_in w d ≡ Some t → printable t ≡ true
unfolding decimal_in units_at
decimal-printed w d t e = go (ltb n limit) (right_adjusted w full) refl e
  where
    n : ℕ
    n = nat_abs d.units

    full : List ℕ
    full = spelled (is_minus d.units) (max (size n) (d.places + 1) - d.places) d.places n

    least : List ℕ
    least = spelled (is_minus d.units) (max (size n) d.places - d.places) d.places n

    go : (b : Bool) (o : Option (List ℕ)) → right_adjusted w full ≡ o → cond b (or_else o (right_adjusted w least)) None ≡ Some t → printable t ≡ true
    go false o q h = absurd (zero_one cc)
    go true (Some u) q h = adjusted_printed w full t (spelled-printed (is_minus d.units) _ d.places n) (q ∙ h)
    go true None q h = adjusted_printed w least t (spelled-printed (is_minus d.units) _ d.places n) h

letter_printed : (a : Axis) (m : Bool) → printable (letter_of a m ∷ []) ≡ true
unfolding letter_of printable
letter_printed Y false = refl
letter_printed Y true = refl
letter_printed X false = refl
letter_printed X true = refl

date-printed : (w : ℕ) (d : DateOf) (t : List ℕ) → date_in w d ≡ agreed t → printable t ≡ true
unfolding date_in
date-printed w d t e = go (is_date d) (eqb w 8) e
  where
    go : (a b : Bool) → cond a (cond b (agreed (digits 8 (number_of d))) (refused unwritten.NoRoom)) (refused unwritten.OutOfRange) ≡ agreed t → printable t ≡ true
    go true true h = let q : digits 8 (number_of d) ≡ t = cc in subst (λ (l : List ℕ). printable l ≡ true) q (figures 8 (number_of d))
    go true false h = absurd (never h)
    go false b h = absurd (never h)

angle_printed : (a : Axis) (w : ℕ) (z : ℤ) (t : List ℕ) → angle_in a w z ≡ agreed t → printable t ≡ true
unfolding angle_in
angle_printed a w z t e = go (leb (nat_abs z) (bound_of a)) (eqb w 12) e
  where
    text : List ℕ
    text = plain 7 3 (figures_in (nat_abs z)) ++ (letter_of a (is_minus z) ∷ [])

    go : (b c : Bool)
        → cond b (cond c (agreed (plain 7 3 (figures_in (nat_abs z)) ++ (letter_of a (is_minus z) ∷ []))) (refused unwritten.NoRoom)) (refused unwritten.OutOfRange) ≡ agreed t
        → printable t ≡ true
    go true true h =
        let q : plain 7 3 (figures_in (nat_abs z)) ++ (letter_of a (is_minus z) ∷ []) ≡ t = cc in
        subst (λ (l : List ℕ). printable l ≡ true) q
        (both (plain 7 3 (figures_in (nat_abs z))) (letter_of a (is_minus z) ∷ []) (plain-printed 7 3 (figures_in (nat_abs z))) (letter_printed a (is_minus z)))
    go true false h = absurd (never h)
    go false c h = absurd (never h)

grid_printed : (a : Axis) (w : ℕ) (d : DecimalOf) (t : List ℕ) → grid_in a w d ≡ agreed t → printable t ≡ true
unfolding grid_in
grid_printed a w d t e = go (eqb w 0) (decimal_in (w - 1) d) refl e
  where
    go : (b : Bool) (o : Option (List ℕ)) → decimal_in (w - 1) d ≡ o → cond b (refused unwritten.NoRoom) (lettered (letter_of a false) o) ≡ agreed t
        → printable t ≡ true
    go true o q h = absurd (never h)
    go false None q h = absurd (never h)
    go false (Some u) q h =
        let r : u ++ (letter_of a false ∷ []) ≡ t = cc in
        subst (λ (l : List ℕ). printable l ≡ true) r (both u (letter_of a false ∷ []) (decimal-printed (w - 1) d u q) (letter_printed a false))

module _ (w : ℕ) (t : List ℕ) where
  blank_printed : blanked w ≡ agreed t → printable t ≡ true
  blank_printed e = let q : replicate w 32 ≡ t = cc in subst (λ (l : List ℕ). printable l ≡ true) q (spaces w)

  nothing-printed : (v : Value) → no_value_in w v ≡ agreed t → printable t ≡ true
  unfolding no_value_in
  nothing-printed Absent e = blank_printed e
  nothing-printed (Whole z) e = absurd (never e)
  nothing-printed (Decimal d) e = absurd (never e)
  nothing-printed (Angle z) e = absurd (never e)
  nothing-printed (Date d) e = absurd (never e)
  nothing-printed (Text c) e = absurd (never e)

  whole-printed : (v : Value) → whole_in w v ≡ agreed t → printable t ≡ true
  unfolding whole_in
  whole-printed Absent e = blank_printed e
  whole-printed (Whole z) e = decimal-printed w (record { units = z; places = 0 }) t (room-is (decimal_in w (record { units = z; places = 0 })) t e)
  whole-printed (Decimal d) e = absurd (never e)
  whole-printed (Angle z) e = absurd (never e)
  whole-printed (Date d) e = absurd (never e)
  whole-printed (Text c) e = absurd (never e)

  units_printed : (v : Value) → units_in w v ≡ agreed t → printable t ≡ true
  unfolding units_in
  units_printed Absent e = blank_printed e
  units_printed (Whole z) e = absurd (never e)
  units_printed (Decimal d) e = decimal-printed w d t (room-is (decimal_in w d) t e)
  units_printed (Angle z) e = absurd (never e)
  units_printed (Date d) e = absurd (never e)
  units_printed (Text c) e = absurd (never e)

  day_printed : (v : Value) → day_in w v ≡ agreed t → printable t ≡ true
  unfolding day_in
  day_printed Absent e = blank_printed e
  day_printed (Whole z) e = absurd (never e)
  day_printed (Decimal d) e = absurd (never e)
  day_printed (Angle z) e = absurd (never e)
  day_printed (Date d) e = date-printed w d t e
  day_printed (Text c) e = absurd (never e)

  arc_printed : (a : Axis) (v : Value) → arc_in a w v ≡ agreed t → printable t ≡ true
  unfolding arc_in
  arc_printed a Absent e = blank_printed e
  arc_printed a (Whole z) e = absurd (never e)
  arc_printed a (Decimal d) e = absurd (never e)
  arc_printed a (Angle z) e = angle_printed a w z t e
  arc_printed a (Date d) e = absurd (never e)
  arc_printed a (Text c) e = absurd (never e)

  grid_entry-printed : (a : Axis) (v : Value) → grid_entry_in a w v ≡ agreed t → printable t ≡ true
  unfolding grid_entry_in
  grid_entry-printed a Absent e = blank_printed e
  grid_entry-printed a (Whole z) e = absurd (never e)
  grid_entry-printed a (Decimal d) e = grid_printed a w d t e
  grid_entry-printed a (Angle z) e = absurd (never e)
  grid_entry-printed a (Date d) e = absurd (never e)
  grid_entry-printed a (Text c) e = absurd (never e)

  pub value_printed : (k : Spelling) (v : Value) → entry_of k w v ≡ agreed t → printable t ≡ true
  unfolding entry_of
  value_printed spelling.Text v e = nothing-printed v e
  value_printed spelling.Comment v e = nothing-printed v e
  value_printed spelling.Whole v e = whole-printed v e
  value_printed spelling.Decimal v e = units_printed v e
  value_printed spelling.Date v e = day_printed v e
  value_printed spelling.Latitude v e = arc_printed Y v e
  value_printed spelling.Longitude v e = arc_printed X v e
  value_printed spelling.Northing v e = grid_entry-printed Y v e
  value_printed spelling.Easting v e = grid_entry-printed X v e

  text_in-printed : (lead : Bool) (x : List ℕ) → text_in lead w x ≡ agreed t → printable t ≡ true
  unfolding text_in
  text_in-printed lead x e = go (printable x) refl (well_formed lead x) (leb (length x) w) e
    where
      go : (p : Bool) → printable x ≡ p → (f r : Bool)
          → cond (not p) (refused unwritten.Unprintable) (cond (not f) (refused unwritten.Malformed) (cond r (agreed (x ++ replicate (w - length x) 32)) (refused unwritten.NoRoom))) ≡ agreed t
          → printable t ≡ true
      go true q true true h =
          let u : x ++ replicate (w - length x) 32 ≡ t = cc in
          subst (λ (l : List ℕ). printable l ≡ true) u (both x (replicate (w - length x) 32) q (spaces (w - length x)))
      go true q true false h = absurd (never h)
      go true q false r h = absurd (never h)
      go false q f r h = absurd (never h)

  pub text-printed : (k : Spelling) (x : List ℕ) → text_entry_of k w x ≡ agreed t → printable t ≡ true
  unfolding text_entry_of
  text-printed spelling.Text x e = text_in-printed false x e
  text-printed spelling.Comment x e = text_in-printed true x e
  text-printed spelling.Whole x e = absurd (never e)
  text-printed spelling.Decimal x e = absurd (never e)
  text-printed spelling.Date x e = absurd (never e)
  text-printed spelling.Latitude x e = absurd (never e)
  text-printed spelling.Longitude x e = absurd (never e)
  text-printed spelling.Northing x e = absurd (never e)
  text-printed spelling.Easting x e = absurd (never e)
