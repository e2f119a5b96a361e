-- `card_field::read_text` meets its contract.
use native.Mathlib.Omega.{arith}
use mathlib.Core.Path.{sym, ap, ◌∙◌}
use Rattle.format_layout.specs.packed.Rows.{unpack}
use Rattle.card_field.specs.judging.Fields.{judged_of}
use Rattle.card_field.proofs.seeking.Steps.{way_at}
use Rattle.card_field.proofs.Steps.{found-fits, text-refused, text-none, text-is}
use Rattle.card_field.proofs.read_text.Goals as goal

pub returns-in_default : goal.returns-in_default
returns-in_default c =
    sym (text-refused c.args.card.now _ _ _ _ c.seek.ensures c.in_default.is)

pub judge-requires : goal.judge-requires
judge-requires c =
    let s = c.args.card.now in
    found-fits s _ _ _ _ (way_at s _ _ _ c.seek.ensures _ _ c.in-Ok.is)

pub returns-then-not-holds_text : goal.returns-then-not-holds_text
returns-then-not-holds_text c =
    let s = c.args.card.now in
    let q = way_at s _ _ _ c.seek.ensures _ _ c.in-Ok.is in
    sym (text-none s _ _ _ _ q _ (c.judge.ensures ∙ ap (judged_of _ s (unpack _)) c.form_numbered.ensures) (sym c.holds_text.ensures ∙ c.if-not-holds_text.true))

pub columns-requires : goal.columns-requires
columns-requires c =
    let s = c.args.card.now in
    let h = found-fits s _ _ _ _ (way_at s _ _ _ c.seek.ensures _ _ c.in-Ok.is) in
    (omega (arith, h.1, c.first_of-first.ensures), omega (arith, h.2, c.first_of-first.ensures, c.last_of-last.ensures), omega (arith, h.0, h.3, c.last_of-last.ensures))

pub returns : goal.returns
returns c =
    let s = c.args.card.now in
    let q = way_at s _ _ _ c.seek.ensures _ _ c.in-Ok.is in
    c.stretch.ensures
    ∙ text-is s _ _ _ _ q _ (c.judge.ensures ∙ ap (judged_of _ s (unpack _)) c.form_numbered.ensures) (sym c.holds_text.ensures ∙ c.if-not-holds_text.false) _ _ c.first_of-first.ensures c.last_of-last.ensures c.columns.result.now c.columns.ensures
