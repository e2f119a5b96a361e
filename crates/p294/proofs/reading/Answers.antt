-- `p294::reading` meets its contract.
use lib.ListN.{length}
use lib.Seq.{take-length}
use mathlib.Core.Path.{sym, ap, ◌∙◌}
use Rattle.card_field.specs.Reading.{field_reading}
use Rattle.p294.specs.answers.Replies.{field_reply}
use Rattle.p294.proofs.reading.Goals as goal

pub slice_bounds-read_field-end : goal.slice_bounds-read_field-end
slice_bounds-read_field-end c = ap length (sym (take-length c.args.card.now))

pub returns : goal.returns
returns c =
    let a = c.args in
    c.of_field.ensures
    ∙ ap field_reply (c.read_field.ensures ∙ ap (λ s. field_reading s a.number a.form) (take-length a.card.now))
