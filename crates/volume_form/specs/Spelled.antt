-- A number in w columns: right adjusted, no zeros in front; and the number that stands in some columns, whatever stands there.
use Rattle.std.specs.Prelude.{ℕ, ◌-◌, List, ◌++◌, replicate}
use Rattle.base_digits.specs.digits.Digits.{digits, size}
use Rattle.base_digits.specs.digits.Figures.{value_from}

unfoldable pub spelled : ℕ → ℕ → List ℕ
spelled w n = replicate (w - size n) 32 ++ digits (size n) n

-- a blank counts as a zero: what was spelled reads as itself, and what reads as n but is not its spelling is told by comparing
unfoldable pub standing : List ℕ → ℕ
standing s = value_from 0 s
