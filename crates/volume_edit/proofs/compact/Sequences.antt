-- Sequence numbers are equal as the code tells them apart where their sorts and sizes are.
use Prim.Native.Nat.{ℕ}
use Rattle.std.proofs.Common.{arith}
use Rattle.std.proofs.lemmas.Bool.Decides.{nat_tests}
use mathlib.Core.Path.{◌≡◌, refl, ap₂, ◌∙◌}
use mathlib.Core.Bool.{Bool}
use lib.IntN.{pos, negsuc, nat_abs}
use Rattle.std.specs.Prelude.{Result, Ok, Err, eqb, ◌&&◌}
use Rattle.base_value.specs.declared.Value.{Value}
use Rattle.base_value.specs.declared.Value.TheVariants.{Absent, Whole, Decimal, Angle, Date, Text}
use Rattle.base_value.specs.declared.Unread.{Unread}
use Rattle.base_value.specs.declared.Unread.TheVariants.{Malformed, OutOfRange}
use Rattle.volume_rules.specs.SameLine.{sign_in, sort_of, size_of}
use Rattle.volume_edit.specs.declared.compact.Sequence.{Sequence}
use Rattle.volume_edit.specs.declared.compact.Sequence.TheVariants as sequence
use Rattle.volume_edit.specs.contracts.compact.SequencePartialEq.TheImpl.{eq-value}
use Rattle.volume_edit.specs.Sequences.{sequence_of}

-- `==` of the code
abbrev equals : Sequence → Sequence → Bool
equals = eq-value.it

sort_in : Sequence → ℕ
sort_in sequence.Absent = 0
sort_in (sequence.Number z) = sign_in z
sort_in sequence.Odd = 3

size_in : Sequence → ℕ
size_in sequence.Absent = 0
size_in (sequence.Number z) = nat_abs z
size_in sequence.Odd = 0

sort-read : (r : Result Value Unread) → sort_in (sequence_of r) ≡ sort_of r
unfolding sequence_of sort_of sort_in
sort-read (Ok Absent) = refl
sort-read (Ok (Whole z)) = refl
sort-read (Ok (Decimal d)) = refl
sort-read (Ok (Angle z)) = refl
sort-read (Ok (Date d)) = refl
sort-read (Ok (Text c)) = refl
sort-read (Err Malformed) = refl
sort-read (Err OutOfRange) = refl

size-read : (r : Result Value Unread) → size_in (sequence_of r) ≡ size_of r
unfolding sequence_of size_of size_in
size-read (Ok Absent) = refl
size-read (Ok (Whole z)) = refl
size-read (Ok (Decimal d)) = refl
size-read (Ok (Angle z)) = refl
size-read (Ok (Date d)) = refl
size-read (Ok (Text c)) = refl
size-read (Err Malformed) = refl
size-read (Err OutOfRange) = refl

equal_by : (q r : Sequence) → equals q r ≡ eqb (sort_in q) (sort_in r) && eqb (size_in q) (size_in r)
unfolding sort_in size_in
equal_by sequence.Absent sequence.Absent = refl
equal_by sequence.Absent (sequence.Number (pos n)) = refl
equal_by sequence.Absent (sequence.Number (negsuc n)) = refl
equal_by sequence.Absent sequence.Odd = refl
equal_by (sequence.Number (pos m)) sequence.Absent = refl
equal_by (sequence.Number (negsuc m)) sequence.Absent = refl
equal_by (sequence.Number (pos m)) (sequence.Number (pos n)) = grind (arith, nat_tests)
equal_by (sequence.Number (pos m)) (sequence.Number (negsuc n)) = refl
equal_by (sequence.Number (negsuc m)) (sequence.Number (pos n)) = refl
equal_by (sequence.Number (negsuc m)) (sequence.Number (negsuc n)) = grind (arith, nat_tests)
equal_by (sequence.Number (pos m)) sequence.Odd = refl
equal_by (sequence.Number (negsuc m)) sequence.Odd = refl
equal_by sequence.Odd sequence.Absent = refl
equal_by sequence.Odd (sequence.Number (pos n)) = refl
equal_by sequence.Odd (sequence.Number (negsuc n)) = refl
equal_by sequence.Odd sequence.Odd = refl

pub equal_read : (q r : Result Value Unread)
    → equals (sequence_of q) (sequence_of r) ≡ eqb (sort_of q) (sort_of r) && eqb (size_of q) (size_of r)
equal_read q r =
    equal_by (sequence_of q) (sequence_of r)
    ∙ ap₂ ◌&&◌ (ap₂ eqb (sort-read q) (sort-read r)) (ap₂ eqb (size-read q) (size-read r))
