-- `header_check::forms::card_note` meets its contract.
use mathlib.Core.Path.{sym, ◌∙◌}
use native.Mathlib.Omega.{arith}
use Rattle.header_check.proofs.forms.Layouts.{fits_note, note_sure, note_unsure}
use Rattle.header_check.proofs.forms.card_note.Goals as goal

pub is_fine-requires : goal.is_fine-requires
is_fine-requires c =
    record {
      built = c.requires.built;
      card_len = c.requires.card_len.0;
    }

pub overflow_cast-result : goal.overflow_cast-result
overflow_cast-result c =
    record { fits = omega (arith, fits_note c.args.card.now c.args.layout c.requires.card_len.1) }

pub overflow_add-result : goal.overflow_add-result
overflow_add-result c = omega (arith, fits_note c.args.card.now c.args.layout c.requires.card_len.1)

pub returns-then-is_fine : goal.returns-then-is_fine
returns-then-is_fine c =
    note_sure c.args.card.now c.args.layout c.requires.card_len.1 (sym c.is_fine.ensures ∙ c.if-is_fine.true)

pub overflow_cast-result-2 : goal.overflow_cast-result-2
overflow_cast-result-2 c =
    record { fits = omega (arith, fits_note c.args.card.now c.args.layout c.requires.card_len.1) }

pub returns : goal.returns
returns c =
    note_unsure c.args.card.now c.args.layout c.requires.card_len.1 (sym c.is_fine.ensures ∙ c.if-is_fine.false)
