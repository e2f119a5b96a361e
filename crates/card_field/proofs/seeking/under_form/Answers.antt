-- `card_field::seeking::under_form` meets its contract: a row is the field, or there is none.
use mathlib.Core.Path.{refl, sym, ap, ◌∙◌}
use Rattle.format_layout.proofs.Lines.{no_zeroth, is_none, is_found}
use Rattle.card_field.specs.seeking.Card.{way_for}
use Rattle.card_field.specs.seeking.Found.{field_row}
use Rattle.card_field.proofs.seeking.Steps.{form-none, form_odd, form_good}
use Rattle.card_field.proofs.seeking.under_form.Goals as goal
use Rattle.std.specs.Prelude.{Err, Ok}

pub returns-then-number-eq0 : goal.returns-then-number-eq0
unfolding way_for
returns-then-number-eq0 c =
    ap Err c.refuse.ensures ∙ ap (way_for _) (sym (form-none _ _ _ (sym (no_zeroth _ _ c.if-number-eq0.true))))

pub returns-then-row-eq0 : goal.returns-then-row-eq0
unfolding way_for
returns-then-row-eq0 c =
    ap Err c.refuse-then-row-eq0.ensures ∙ ap (way_for _) (sym (form-none _ _ _ (sym (is_none _ _ _ c.if-number-eq0.false c.row_of-row.ensures c.if-row-eq0.true))))

pub returns-then-form-gt1 : goal.returns-then-form-gt1
unfolding way_for
returns-then-form-gt1 c =
    ap Err c.refuse-then-form-gt1.ensures
    ∙ ap (way_for _) (sym (form_odd _ _ _ _ (sym (is_found _ _ _ _ c.if-number-eq0.false c.row_of-row.ensures c.if-row-eq0.false refl)) c.if-form-gt1.true))

pub returns : goal.returns
unfolding way_for
returns c =
    let a = c.args in
    ap (λ x. Ok (field_row a.layout x)) c.row_of-row.ensures
    ∙ ap (way_for a.number) (sym (form_good _ _ _ _ (sym (is_found _ _ _ _ c.if-number-eq0.false c.row_of-row.ensures c.if-row-eq0.false refl)) c.if-form-gt1.false))
