-- `card_put::put` meets its contract.
use mathlib.Core.Path.{refl, ap, ◌∙◌}
use Rattle.std.specs.Prelude.{Err}
use Rattle.std.proofs.lemmas.Result.{err_from_is_err_and}
use Rattle.card_field.proofs.seeking.Steps.{way_at, way_refused}
use Rattle.card_put.proofs.Steps.{value_is, value_stays, field_fits, same_putting, stayed}
use Rattle.card_put.proofs.put.Goals as goal

pub returns-in_err-found : goal.returns-in_err-found
returns-in_err-found c =
    let s = c.args.card.now in
    let p = err_from_is_err_and c.from_residual.result c.from_residual.ensures.1 in
    let q = stayed s _ (value_stays s _ _ _ (way_refused s _ _ _ c.in_err-found.ensures _ refl) _) (p.1 ∙ ap Err p.2) in
    record { answer = q.0; card = q.1 }

pub enter-requires : goal.enter-requires
enter-requires c =
    let s = c.args.card.now in
    field_fits s _ _ _ _ (way_at s _ _ _ c.in_ok-found.ensures _ _ refl)

pub returns : goal.returns
returns c =
    let s = c.args.card.now in
    let w = c.enter in
    let is = value_is s _ _ _ _ (way_at s _ _ _ c.in_ok-found.ensures _ _ refl) _ c.form_numbered.ensures _ in
    let q = same_putting s w.new.card _ is w.ensures.answer w.ensures.card in
    record { answer = q.0; card = q.1 }
