-- `volume_check::judging::judge_cards` meets its contract.
use mathlib.Core.Path.{sym, ap, ◌∙◌}
use Rattle.volume_form.proofs.Cards.{good_row}
use Rattle.volume_check.proofs.judging.Parts.{body_fits, parts_said, no_trailer}
use Rattle.volume_check.proofs.judging.judge_cards.Goals as goal
use Rattle.std.specs.Prelude.{Err}

pub body_of-body-requires : goal.body_of-body-requires
body_of-body-requires c =
    (record { cards = c.requires.0; few = c.requires.1; trailer = sym c.is_trailed.ensures ∙ c.if-is_trailed.true })

pub directory_of-directory-requires : goal.directory_of-directory-requires
directory_of-directory-requires c =
    (record { cards = c.requires.0; few = c.requires.1; trailer = sym c.is_trailed.ensures ∙ c.if-is_trailed.true })

pub judge_parts-requires : goal.judge_parts-requires
judge_parts-requires c =
    body_fits _ _ _ (record { cards = c.requires.0; few = c.requires.1; trailer = sym c.is_trailed.ensures ∙ c.if-is_trailed.true }) (good_row c.args.form) _ c.body_of-body.ensures

pub returns-then-is_trailed : goal.returns-then-is_trailed
returns-then-is_trailed c =
    parts_said _ _ _ (record { cards = c.requires.0; few = c.requires.1; trailer = sym c.is_trailed.ensures ∙ c.if-is_trailed.true }) _ _ _ c.body_of-body.ensures c.directory_of-directory.ensures c.judge_parts.ensures

pub returns : goal.returns
returns c =
    ap Err c.refuse.ensures ∙ no_trailer _ _ _ (sym c.is_trailed.ensures ∙ c.if-is_trailed.false)
