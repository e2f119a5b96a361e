-- `volume_form::building::entry_card` meets its contract.
use Rattle.volume_form.specs.Marked.{padded}
use Rattle.volume_form.proofs.building.Built.{size-columns, entry_built}
use Rattle.volume_form.specs.Rows.{row_of}
use Rattle.volume_form.proofs.Cards.{good_row}
use mathlib.Core.Path.{ap, ◌∙◌}
use native.Mathlib.Omega.{arith}
use Rattle.volume_form.proofs.building.entry_card.Goals as goal

pub numbered-requires : goal.numbered-requires
numbered-requires c =
    let x = c.width_of-width.ensures in let g = good_row c.args.form in (omega arith, x.within.1, size-columns _ _ _ x.width g.some c.requires.1, size-columns _ _ _ x.width g.some c.requires.2)

pub returns : goal.returns
returns c =
    let x = c.width_of-width.ensures in entry_built (row_of c.args.form) (good_row c.args.form) (omega arith) _ _ c.requires.1 c.requires.2 _ c.requires.0 _ x.width _ _ _ (c.coded-card.ensures ∙ ap padded c.entry_code.ensures) c.named.ensures c.numbered.ensures
