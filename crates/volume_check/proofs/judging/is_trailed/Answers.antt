-- `volume_check::judging::is_trailed` meets its contract.
use mathlib.Core.Path.{ap, ◌∙◌}
use Rattle.volume_form.specs.Rows.{row_of}
use Rattle.volume_form.proofs.Cards.{good_row}
use lib.ListN.{length}
use Rattle.volume_check.proofs.judging.Parts.{last_long}
use Rattle.volume_rules.specs.Sound.{points}
use native.Mathlib.Omega.{arith}
use Rattle.volume_check.proofs.judging.is_trailed.Goals as goal

pub last_card-requires : goal.last_card-requires
last_card-requires c = c.requires.0

pub is_trailer-requires : goal.is_trailer-requires
is_trailer-requires c =
    (ap length c.last_card.ensures ∙ last_long _ _ c.requires.0, omega (arith, c.requires.1, (good_row c.args.form).roomy))

pub returns : goal.returns
returns c = c.is_trailer.ensures ∙ ap (points (row_of c.args.form) c.args.cards) c.last_card.ensures
