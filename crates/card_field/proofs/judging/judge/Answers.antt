-- `card_field::judging::judge` meets its contract.
use mathlib.Core.Path.{ap, ◌∙◌}
use native.Mathlib.Omega.{arith}
use Rattle.format_layout.specs.packed.Rows.{unpack}
use Rattle.card_field.specs.judging.Fields.{read_last}
use Rattle.card_field.proofs.judging.Steps.{read-last, columns-few, judged_is}
use Rattle.card_field.proofs.judging.judge.Goals as goal

pub held_of-requires : goal.held_of-requires
held_of-requires c =
    let p = c.requires in
    let t = c.columns-columns.result.now in
    omega (arith, p, columns-few c.args.card.now t c.first_of.result c.last_of.result (omega (arith, c.last_of.ensures, p.3)) c.columns-columns.ensures, read-last t c.spelling_of.result, ap read_last c.read-reading.ensures)

pub returns : goal.returns
returns c =
    let a = c.args in
    c.held_of.ensures
    ∙ judged_is a.layout a.card.now (unpack a.row) _ _ _ c.first_of.ensures c.last_of.ensures c.columns-columns.result.now c.columns-columns.ensures _ c.kind_of.ensures _ c.spelling_of.ensures _ c.read-reading.ensures
