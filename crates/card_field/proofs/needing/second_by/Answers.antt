-- `card_field::needing::second_by` meets its contract.
use Rattle.card_field.proofs.needing.Steps.{second_none, second_is}
use Rattle.format_layout.proofs.Numbers.{found_lies}
use mathlib.Core.Path.{sym, ◌∙◌}
use native.Mathlib.Omega.{arith}
use Rattle.card_field.proofs.needing.second_by.Goals as goal

pub returns-in-None : goal.returns-in-None
returns-in-None c = sym (second_none _ _ (sym c.field_of.ensures ∙ c.in-None.is))

pub second_at-requires : goal.second_at-requires
second_at-requires c =
    let l = found_lies _ _ _ (sym c.field_of.ensures ∙ c.in-Some.is) in omega (arith, c.requires, l.after, l.forward, l.on_card)

pub returns-in-Some : goal.returns-in-Some
returns-in-Some c = c.second_at.ensures ∙ sym (second_is _ _ _ (sym c.field_of.ensures ∙ c.in-Some.is))
