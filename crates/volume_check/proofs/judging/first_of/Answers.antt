-- `volume_check::judging::first_of` meets its contract.
use mathlib.Core.Path.{ap, ◌∙◌}
use Rattle.volume_form.specs.Rows.{row_of}
use lib.ListN.{length}
use Rattle.volume_check.proofs.judging.Parts.{last_long}
use Rattle.volume_form.specs.Marked.{first_on}
use Rattle.volume_rules.specs.Sound.{first_of}
use Rattle.volume_check.proofs.judging.first_of.Goals as goal

pub first_on-requires : goal.first_on-requires
first_on-requires c = ap length c.last_card.ensures ∙ last_long _ _ c.requires

pub returns : goal.returns
unfolding first_of
returns c = c.first_on.ensures ∙ ap (first_on (row_of c.args.form)) c.last_card.ensures
