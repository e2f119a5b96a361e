-- What each way through the functions that read a card answers.
use Prim.Native.Nat.{ℕ, suc, ◌+◌, ◌-◌, ◌/◌, ◌%◌, ◌≤◌, ◌<◌}
use native.Mathlib.Omega.{arith}
use native.Mathlib.Decide.{ℕ_discrete}
use mathlib.Core.Path.{◌≡◌, refl, sym, ap, ◌∙◌}
use mathlib.Core.List.{List, [], ◌∷◌}
use mathlib.Core.Bool.{Bool, true, false}
use lib.IntN.{ℤ, pos, negsuc}
use lib.ListN.{length, take, drop, drop_of_length-le, length-drop}
use lib.Seq.{take-nil, take_all}
use borrow.Author.Tests.{le-leb, lt-leb}
use Rattle.base_digits.proofs.digits.Parts.{rest_part}
use Rattle.value_number.specs.number.Reading.{number_of}
use Rattle.value_number.specs.packed.Shapes.{sized, size_of}
use Rattle.base_value.specs.declared.Value.TheVariants.{Absent, Whole, Decimal, Angle, Date, Text}
use Rattle.base_value.specs.declared.Unread.TheVariants.{Malformed, OutOfRange}
use Rattle.value_field.specs.spelling.Reading.{number_in, whole_reading, reading_of}
use Rattle.value_text.specs.text.Texts.{text_of}
use Rattle.header_check.specs.forms.Cards.{byte_in}
use Rattle.tie_rules.specs.Offered.{whole_offered}
use Rattle.tie_rules.specs.packed.Numbers.{packed}
use Rattle.tie_rules.proofs.packing.Steps.{none-packed, offered_none}
use Rattle.tie_rules.specs.Ties.{Source, digit, whole, serial, waypoint, only, allotted, nothing, has_vessel}
use Rattle.tie_rules.proofs.columns.Picked.{by_part}
use Rattle.tie_rules.specs.Keys.{is_none, between, whole_key, whole_in, paired, in_part}
use Rattle.tie_rules.specs.packed.Rows.{part_at, class_in, source_by, source_in, found_by, found_in, vessel_by, marked, mark_of, unmarked}
use Rattle.std.specs.Prelude.{Result, Ok, Err}
use Rattle.base_value.specs.declared.Unread.{Unread}
use Rattle.base_value.specs.declared.Value.{Value}

-- columns of a card, from being the one before the first
module _ (s : List ℕ) (first last from : ℕ) (is : from ≡ first - 1) where
  pub past_card : length s ≤ from → [] ≡ between first last s
  unfolding between
  past_card l = rw (← is, drop_of_length-le s l) (sym (take-nil (last - from)))

  pub no_width : last ≤ from → [] ≡ between first last s
  unfolding between
  no_width l = let z : last - from ≡ 0 = omega arith in rw (← is, z)

  pub to_end : length s ≤ last → take (length s - from) (drop from s) ≡ between first last s
  unfolding between
  to_end l = rw (← is) (rest_part from s ∙ sym (take_all (last - from) (drop from s) (omega (arith, length-drop from s))))

  pub of_width : take (last - from) (drop from s) ≡ between first last s
  unfolding between
  of_width = rw (← is)

-- the vessel digit in a card's code
pub vessel_digit : (k : ℕ) (s : List ℕ) (b : Bool) (n : ℕ) → b ≡ has_vessel k → b ≡ true → n ≡ byte_in s 4 - 48 → n ≡ vessel_by k s
unfolding vessel_by
vessel_digit k s b n e q h = rw (← e, q) h

pub vessel_none : (k : ℕ) (s : List ℕ) (b : Bool) → b ≡ has_vessel k → b ≡ false → 10 ≡ vessel_by k s
unfolding vessel_by
vessel_none k s b e q = rw (← e, q)

-- a size tells the number
module _ (size : ℕ) where
  small-mark : (z : ℤ) → size ≡ sized z → size < 4 → 0 ≡ marked (whole_key (Ok (Whole z)))
  unfolding marked whole_key
  small-mark (pos m) e h = absurd (omega arith)
  small-mark (negsuc m) e h = refl

  pub no_mark : (n : Result Value Unread) → size ≡ size_of n → size < 4 → 0 ≡ mark_of n
  unfolding mark_of marked whole_key whole_reading
  no_mark (Ok Absent) e h = refl
  no_mark (Ok (Whole z)) e h = small-mark z e h
  no_mark (Ok (Decimal d)) e h = small-mark d.units e h
  no_mark (Ok (Angle z)) e h = refl
  no_mark (Ok (Date d)) e h = refl
  no_mark (Ok (Text c)) e h = refl
  no_mark (Err Malformed) e h = refl
  no_mark (Err OutOfRange) e h = refl

  large_mark : (z : ℤ) → size ≡ sized z → 4 ≤ size → size - 4 + 1 ≡ marked (whole_key (Ok (Whole z)))
  unfolding marked whole_key
  large_mark (pos m) e h = omega arith
  large_mark (negsuc m) e h = absurd (omega arith)

  pub a_mark : (n : Result Value Unread) → size ≡ size_of n → 4 ≤ size → size - 4 + 1 ≡ mark_of n
  unfolding mark_of marked whole_key whole_reading
  a_mark (Ok Absent) e h = absurd (omega arith)
  a_mark (Ok (Whole z)) e h = large_mark z e h
  a_mark (Ok (Decimal d)) e h = large_mark d.units e h
  a_mark (Ok (Angle z)) e h = absurd (omega arith)
  a_mark (Ok (Date d)) e h = absurd (omega arith)
  a_mark (Ok (Text c)) e h = absurd (omega arith)
  a_mark (Err Malformed) e h = absurd (omega arith)
  a_mark (Err OutOfRange) e h = absurd (omega arith)

pub whole-marked : (s : List ℕ) (first last : ℕ) (t u : List ℕ) (r : ℕ) → t ≡ between first last s → u ≡ text_of t
    → r ≡ mark_of (number_of false u) → r ≡ marked (whole_in first last s)
unfolding whole_in reading_of number_in mark_of
whole-marked s first last t u r e f h = h ∙ ap (λ x. mark_of (number_of false x)) (f ∙ ap text_of e)

-- a mark tells the number
pub mark_tells : (r : Result Value Unread) → whole_key r ≡ unmarked (marked (whole_key r))
unfolding whole_key marked
mark_tells (Ok (Whole (pos n))) = refl
mark_tells (Ok (Whole (negsuc n))) = refl
mark_tells (Ok Absent) = refl
mark_tells (Ok (Decimal d)) = refl
mark_tells (Ok (Angle z)) = refl
mark_tells (Ok (Date d)) = refl
mark_tells (Ok (Text c)) = refl
mark_tells (Err Malformed) = refl
mark_tells (Err OutOfRange) = refl

module _ (s : List ℕ) (first last m : ℕ) (is : m ≡ marked (whole_in first last s)) where
  told : whole_in first last s ≡ unmarked m
  unfolding whole_in
  told = mark_tells _ ∙ ap unmarked (sym is)

  pub none-there : m ≡ 0 → whole_in first last s ≡ []
  none-there z = told ∙ ap unmarked z

  pub one_there : (m ≡ 0 → ⊥) → whole_in first last s ≡ (m - 1) ∷ []
  one_there z = let q : m ≡ suc (m - 1) = omega arith in told ∙ ap unmarked q

  pub no_number : (class : ℕ) → m ≡ 0 → 0 ≡ packed class (whole_offered class (whole_in first last s))
  no_number class z = rw (none-there z) (sym (offered_none class))

  pub a_number : (class n : ℕ) → (m ≡ 0 → ⊥) → n ≡ packed class (whole_offered class ((m - 1) ∷ []))
      → n ≡ packed class (whole_offered class (whole_in first last s))
  a_number class n z h = rw (one_there z) h

  -- and whether it is one of a part of its range
  module _ (class least most : ℕ) where
    abbrev offered : ℕ
    offered = packed class (whole_offered class (in_part least most (whole_in first last s)))

    pub before-part : m ≤ least → 0 ≡ offered
    unfolding in_part
    before-part l = elim (ℕ_discrete m 0) [
      | yes z ↦ rw (none-there z) (sym (offered_none class))
      | no z ↦ rw (one_there z, lt-leb least (m - 1) (omega arith)) (sym (offered_none class))
    ]

    pub behind-part : (m ≤ least → ⊥) → most < m - 1 → 0 ≡ offered
    unfolding in_part
    behind-part n l =
        rw (one_there (λ z. n (omega arith)), le-leb least (m - 1) (omega arith), lt-leb (m - 1) most l) (sym (offered_none class))

    pub in_part_lem : (n : ℕ) → least < m → m - 1 ≤ most → n ≡ packed class (whole_offered class ((m - 1) ∷ [])) → n ≡ offered
    unfolding in_part
    in_part_lem n l k h = rw (one_there (λ z. omega arith), le-leb least (m - 1) (omega arith), le-leb (m - 1) most k) h

-- a pair is there where both numbers are
paired_none : (a : List ℕ) → paired a [] ≡ []
unfolding paired is_none
paired_none [] = refl
paired_none (n ∷ ns) = refl

pub no_first : (a b : List ℕ) → a ≡ [] → 0 ≡ packed 7 (paired a b)
unfolding paired is_none
no_first a b e = rw e (sym (none-packed 7))

pub no_second : (a b : List ℕ) → b ≡ [] → 0 ≡ packed 7 (paired a b)
no_second a b e = rw (e, paired_none a) (sym (none-packed 7))

pub both_there : (a b : List ℕ) (m n r : ℕ) → a ≡ m ∷ [] → b ≡ n ∷ [] → r ≡ packed 7 (m ∷ n ∷ []) → r ≡ packed 7 (paired a b)
unfolding paired is_none
both_there a b m n r p q h = rw (p, q) h

-- how a line finds its key
module _ (line : ℕ) where
  abbrev how : ℕ
  how = line / 65536 % 16

  pub is_digit_lem : how ≡ 1 → source_in line ≡ digit
  unfolding source_in source_by
  is_digit_lem e = rw e

  pub is_whole : how ≡ 2 → source_in line ≡ whole (line / 256 % 256) (line % 256)
  unfolding source_in source_by
  is_whole e = rw e

  pub is-serial : how ≡ 3 → source_in line ≡ serial (line / 256 % 256) (line % 256)
  unfolding source_in source_by
  is-serial e = rw e

  pub is-waypoint : how ≡ 4 → source_in line ≡ waypoint (line / 256 % 256) (line % 256)
  unfolding source_in source_by
  is-waypoint e = rw e

  pub is-only : how ≡ 5 → source_in line ≡ only
  unfolding source_in source_by
  is-only e = rw e

  pub is-nothing : how ≡ 0 → source_in line ≡ nothing
  unfolding source_in source_by
  is-nothing e = rw e

  pub is-part : 6 ≤ how → source_in line ≡ allotted (line / 256 % 256) (line % 256) (part_at (how - 6) / 65536) (part_at (how - 6) % 65536)
  unfolding source_in
  is-part l = by_part how (line / 256 % 256) (line % 256) l

-- the key that a line finds, by where it stands
module _ (line : ℕ) (s : List ℕ) where
  pub found : (src : Source) (r : ℕ) → source_in line ≡ src → r ≡ found_by (line / 1048576) src s → r ≡ found_in line s
  unfolding found_in class_in
  found src r e h = rw e h
