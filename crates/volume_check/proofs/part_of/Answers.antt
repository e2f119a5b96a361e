-- `volume_check::part_of` meets its contract.
use mathlib.Core.Path.{sym, ap, ◌∙◌}
use Rattle.volume_check.proofs.Placing.{line-inside}
use Rattle.volume_check.specs.Answers.{part_of}
use Rattle.volume_check.proofs.part_of.Goals as goal

pub cards_from-requires : goal.cards_from-requires
cards_from-requires c = line-inside _ _ _ _ _ c.in-Ok.is c.requires

pub returns-in-Ok : goal.returns-in-Ok
returns-in-Ok c = c.cards_from.ensures ∙ sym (ap (λ x. part_of x c.args.volume.now) c.in-Ok.is)
