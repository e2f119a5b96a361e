-- `base_digits::filling::fill_digits` meets its contract.
use Rattle.std.proofs.Common.{◌≡◌, ◌/◌, ◌^◌, ◌++◌, length, drop}
use Rattle.base_digits.specs.digits.Digits.{digits}
use Rattle.base_digits.proofs.filling.fill_digits.Given as goal

abbrev pub invariant-loop-i : goal.invariant-loop-i
invariant-loop-i l =
    let w = length l.initial.columns in
    (digits w l.n ≡ digits l.i l.rest ++ drop l.i l.columns) × (l.n / 10 ^ w ≡ l.rest / 10 ^ l.i)
