-- `card_put::write_value` meets its contract.
use Rattle.format_layout.specs.packed.Rows.{unpack}
use Rattle.value_field.specs.writing.Writing.{entry_of}
use Rattle.card_put.proofs.Steps.{put_parts}
use Rattle.card_put.proofs.write_value.Goals as goal

pub returns : goal.returns
returns c =
    let a = c.args in
    let p = c.requires in
    record { answer = (put_parts (λ k w. entry_of k w a.v) (unpack a.row) _ a.card.now p.1 p.2 _ _ c.first_of-at.ensures c.last_of-last.ensures _ c.kind_of.ensures _ c.spelling_of-spelling.ensures _ _ c.write.new.columns c.answer_for.ensures c.write.ensures.answer c.write.ensures.columns).0; card = (put_parts (λ k w. entry_of k w a.v) (unpack a.row) _ a.card.now p.1 p.2 _ _ c.first_of-at.ensures c.last_of-last.ensures _ c.kind_of.ensures _ c.spelling_of-spelling.ensures _ _ c.write.new.columns c.answer_for.ensures c.write.ensures.answer c.write.ensures.columns).1 }
