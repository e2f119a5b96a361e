-- What the digits of an unsigned number are worth.
use Rattle.std.specs.Prelude.{ℕ}
use Rattle.value_number.specs.declared.number.Figures.{Figures}

abbrev pub figures : ℕ → ℕ → Figures
figures units places = record { units = units; places = places }
