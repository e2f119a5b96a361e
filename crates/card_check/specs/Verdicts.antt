-- An offence of a card: the paper's number, and the column.
use Rattle.std.specs.Prelude.{ℕ}
use Rattle.card_check.specs.declared.Offence.{Offence}

abbrev pub offending : ℕ → ℕ → Offence
offending n column = record { number = n; column = column }
