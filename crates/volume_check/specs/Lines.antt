-- A line of a volume, as its directory tells it.
use Rattle.std.specs.Prelude.{ℕ}
use Rattle.volume_check.specs.declared.LinePlace.{LinePlace}

abbrev pub line_place : ℕ → ℕ → ℕ → LinePlace
line_place first cards entry = record { first = first; cards = cards; entry = entry }
