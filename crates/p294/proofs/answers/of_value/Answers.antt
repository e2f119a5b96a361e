-- `p294::answers::of_value` meets its contract.
use mathlib.Core.Path.{refl, sym, ap, ◌∙◌}
use Rattle.p294.proofs.answers.Steps.{back, alike}
use Rattle.p294.specs.answers.Replies.{value_reply}
use borrow.Author.Rules.{rules}
use Rattle.p294.proofs.answers.of_value.Goals as goal

pub returns-in-Absent : goal.returns-in-Absent
unfolding value_reply
returns-in-Absent c = c.done.ensures ∙ sym (ap (value_reply _) c.in-Absent.is)

pub returns-in-Whole : goal.returns-in-Whole
unfolding value_reply
returns-in-Whole c =
    alike refl (back _ _ (record { sfits = c.in-Whole.known_told-1-own.given.0.1 }) refl) refl (back _ _ (search rules) c.mark_of.ensures)
    ∙ sym (ap (value_reply _) c.in-Whole.is)

pub returns-in-Decimal : goal.returns-in-Decimal
returns-in-Decimal c = c.of_decimal.ensures ∙ sym (ap (value_reply _) c.in-Decimal.is)

pub returns-in-Angle : goal.returns-in-Angle
unfolding value_reply
returns-in-Angle c =
    alike refl (back _ _ (record { sfits = c.in-Angle.known_told-in-Angle-1-own.given.0.1 }) refl) refl refl ∙ sym (ap (value_reply _) c.in-Angle.is)

pub returns-in-Date : goal.returns-in-Date
unfolding value_reply
returns-in-Date c = c.of_date.ensures ∙ sym (ap (value_reply _) c.in-Date.is)

pub returns-in-Text : goal.returns-in-Text
unfolding value_reply
returns-in-Text c = c.of_columns.ensures ∙ sym (ap (value_reply _) c.in-Text.is)
