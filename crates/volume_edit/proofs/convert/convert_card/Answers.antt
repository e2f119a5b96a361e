-- `volume_edit::convert::convert_card` meets its contract.
use Prim.Native.Nat.{◌+◌, ◌*◌}
use mathlib.Core.Path.{ap, ◌∙◌}
use Rattle.volume_form.specs.Moved.{laid_at}
use Rattle.volume_form.specs.Rows.{row_of}
use Rattle.volume_form.specs.Marked.{entry_card}
use Rattle.volume_edit.proofs.convert.Steps.{card_read, rest_all, rest_long}
use Rattle.volume_edit.proofs.convert.convert_card.Goals as goal

pub entry_card-entry-requires : goal.entry_card-entry-requires
entry_card-entry-requires c =
    let n_is = card_read (row_of c.args.from) c.args.buffer.now c.args.card _ c.count_on-n.ensures in
    (rest_long c.args.buffer.now (80 * c.args.at) c.requires.header, c.requires.first, rw n_is c.requires.number)

pub returns : goal.returns
returns c =
    let s = c.args.buffer.now in
    let n_is = card_read (row_of c.args.from) s c.args.card _ c.count_on-n.ensures in record {
      number = n_is;
      buffer = c.lay.ensures ∙ ap (laid_at s (80 * c.args.card)) (c.entry_card-entry.ensures
          ∙ ap (λ l. entry_card (row_of c.args.to) l (1 + c.args.at) c.count_on-n.result) (rest_all s (80 * c.args.at)));
    }
