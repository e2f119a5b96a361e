-- `card_field::read_field` meets its contract.
use mathlib.Core.Path.{refl, sym, ap, ◌∙◌}
use Rattle.std.proofs.lemmas.Result.{err_from_is_err_and}
use Rattle.card_field.proofs.seeking.Steps.{way_at, way_refused}
use Rattle.format_layout.specs.packed.Rows.{unpack}
use Rattle.card_field.specs.judging.Fields.{judged_of, misplaced_on}
use Rattle.card_field.specs.Reading.{field_reading, field_on}
use Rattle.card_field.proofs.Steps.{found-fits, reading_is}
use Rattle.card_field.proofs.read_field.Goals as goal

pub returns-in_err-found : goal.returns-in_err-found
unfolding field_reading field_on
returns-in_err-found c =
    let p = err_from_is_err_and c.from_residual.result c.from_residual.ensures.1 in
    rw (p.1, p.2) (sym (ap (field_on _ _) (way_refused c.args.card.now _ _ _ c.in_err-found.ensures _ refl)))

pub is_misplaced-misplaced-requires : goal.is_misplaced-misplaced-requires
is_misplaced-misplaced-requires c =
    let s = c.args.card.now in
    found-fits s _ _ _ _ (way_at s _ _ _ c.in_ok-found.ensures _ _ refl)

pub judge-requires : goal.judge-requires
judge-requires c =
    let s = c.args.card.now in
    found-fits s _ _ _ _ (way_at s _ _ _ c.in_ok-found.ensures _ _ refl)

pub returns : goal.returns
returns c =
    let s = c.args.card.now in
    let form = c.form_numbered-form.ensures in
    c.answered.ensures
    ∙ reading_is s _ _ _ _ (way_at s _ _ _ c.in_ok-found.ensures _ _ refl) _
    (c.judge.ensures ∙ ap (judged_of _ s (unpack _)) form) _
    (c.is_misplaced-misplaced.ensures ∙ ap (misplaced_on s (unpack _)) form)
