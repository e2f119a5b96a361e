-- `card_put::enter` meets its contract.
use mathlib.Core.Path.{sym, ap, ap₂, ◌∙◌}
use mathlib.Core.Bool.{◌&&◌}
use Rattle.format_layout.specs.packed.Rows.{unpack}
use Rattle.base_refusal.specs.Refusals.{refusal}
use Rattle.card_put.proofs.Steps.{put_outside, put_missing, put_entered, same_putting, stayed}
use Rattle.card_put.proofs.enter.Goals as goal
use Rattle.std.specs.Prelude.{Err}

pub returns-then-not-is_within : goal.returns-then-not-is_within
returns-then-not-is_within c =
    let a = c.args in
    record { answer = (stayed c.args.card.now _ (put_outside _ a.card.now _ (unpack a.row) _ _ c.requires.4 (sym c.is_within.ensures ∙ c.if-not-is_within.true)) (ap Err c.refuse.ensures)).0; card = (stayed c.args.card.now _ (put_outside _ a.card.now _ (unpack a.row) _ _ c.requires.4 (sym c.is_within.ensures ∙ c.if-not-is_within.true)) (ap Err c.refuse.ensures)).1 }

pub returns-then-is_absent-needed_after : goal.returns-then-is_absent-needed_after
returns-then-is_absent-needed_after c =
    let a = c.args in
    record { answer = (stayed c.args.card.now _ (put_missing _ a.card.now _ (unpack a.row) _ _ (ap₂ ◌&&◌ (sym c.is_absent.ensures) (sym c.needed_after.ensures) ∙ c.if-is_absent-needed_after.true)) (ap Err c.refuse-then-is_absent-needed_after.ensures ∙ ap (λ k. Err (refusal 11 1 k)) c.first_of.ensures)).0; card = (stayed c.args.card.now _ (put_missing _ a.card.now _ (unpack a.row) _ _ (ap₂ ◌&&◌ (sym c.is_absent.ensures) (sym c.needed_after.ensures) ∙ c.if-is_absent-needed_after.true)) (ap Err c.refuse-then-is_absent-needed_after.ensures ∙ ap (λ k. Err (refusal 11 1 k)) c.first_of.ensures)).1 }

pub returns : goal.returns
returns c =
    let a = c.args in
    record { answer = (same_putting a.card.now c.write_value.new.card _ (put_entered _ a.card.now _ (unpack a.row) _ _ (sym c.is_within.ensures ∙ c.if-not-is_within.false) (ap₂ ◌&&◌ (sym c.is_absent.ensures) (sym c.needed_after.ensures) ∙ c.if-is_absent-needed_after.false)) c.write_value.ensures.answer c.write_value.ensures.card).0; card = (same_putting a.card.now c.write_value.new.card _ (put_entered _ a.card.now _ (unpack a.row) _ _ (sym c.is_within.ensures ∙ c.if-not-is_within.false) (ap₂ ◌&&◌ (sym c.is_absent.ensures) (sym c.needed_after.ensures) ∙ c.if-is_absent-needed_after.false)) c.write_value.ensures.answer c.write_value.ensures.card).1 }
