-- `card_field::seeking::seek` meets its contract.
use Rattle.card_field.proofs.seeking.Steps.{sought_none, sought_odd, sought_bad, sought_coded}
use Rattle.card_field.specs.seeking.Card.{coded, way_for}
use lib.Seq.{length-take-le}
use mathlib.Core.Path.{sym, ap, ◌∙◌}
use native.Mathlib.Omega.{arith}
use Rattle.card_field.proofs.seeking.seek.Goals as goal
use Rattle.std.specs.Prelude.{Err}

pub returns-then-card-eq0 : goal.returns-then-card-eq0
unfolding way_for
returns-then-card-eq0 c = ap Err c.refuse.ensures ∙ ap (way_for _) (sym (sought_none _ _ _ c.if-card-eq0.true))

pub returns-then-card-ne-CARD : goal.returns-then-card-ne-CARD
unfolding way_for
returns-then-card-ne-CARD c =
    ap Err c.refuse-then-card-ne-CARD.ensures ∙ ap (way_for _) (sym (sought_odd _ _ _ c.if-card-eq0.false c.if-card-ne-CARD.true))

pub returns-then-bad-lt-CARD : goal.returns-then-bad-lt-CARD
unfolding way_for
returns-then-bad-lt-CARD c =
    ap Err c.refuse-then-bad-lt-CARD.ensures ∙ ap (way_for _) (sym (sought_bad _ _ _ c.if-card-eq0.false c.if-card-ne-CARD.false _ c.first_bad-bad.ensures c.if-bad-lt-CARD.true))

pub slice_bounds-code_of-end : goal.slice_bounds-code_of-end
slice_bounds-code_of-end c = sym (length-take-le 5 c.args.card.now (omega arith))

pub returns-in-Unknown : goal.returns-in-Unknown
unfolding way_for coded
returns-in-Unknown c =
    ap Err c.refuse-in-Unknown.ensures ∙ ap (way_for _) (sym (sought_coded _ _ _ c.if-card-eq0.false c.if-card-ne-CARD.false _ c.first_bad-bad.ensures c.if-bad-lt-CARD.false ∙ ap (λ k. coded k c.args.number c.args.form) (sym c.code_of-code.ensures ∙ c.in-Unknown.is)))

pub returns-in-Passed : goal.returns-in-Passed
unfolding way_for coded
returns-in-Passed c =
    ap Err c.refuse-in-Passed.ensures ∙ ap (way_for _) (sym (sought_coded _ _ _ c.if-card-eq0.false c.if-card-ne-CARD.false _ c.first_bad-bad.ensures c.if-bad-lt-CARD.false ∙ ap (λ k. coded k c.args.number c.args.form) (sym c.code_of-code.ensures ∙ c.in-Passed.is)))

pub returns-in-Read : goal.returns-in-Read
unfolding way_for coded
returns-in-Read c =
    c.under_form.ensures ∙ ap (way_for _) (sym (sought_coded _ _ _ c.if-card-eq0.false c.if-card-ne-CARD.false _ c.first_bad-bad.ensures c.if-bad-lt-CARD.false ∙ ap (λ k. coded k c.args.number c.args.form) (sym c.code_of-code.ensures ∙ c.in-Read.is)))
