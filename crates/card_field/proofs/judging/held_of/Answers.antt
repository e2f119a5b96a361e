-- `card_field::judging::held_of` meets its contract.
use native.Mathlib.Omega.{arith}
use mathlib.Core.Path.{ap}
use Rattle.card_field.specs.judging.Fields.{read_last}
use Rattle.card_field.proofs.judging.held_of.Goals as goal

pub value_of-requires : goal.value_of-requires
value_of-requires c = omega (arith, c.requires, ap read_last c.in-Ok.is)
