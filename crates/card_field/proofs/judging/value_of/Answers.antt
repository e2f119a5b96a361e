-- `card_field::judging::value_of` meets its contract: each kind of value is held by itself.
use Rattle.base_value.specs.declared.Value.TheVariants as value
use lib.IntN.{ℤ}
use mir.ValLaws.{to_z-of_z}
use mir.Syntax.{w64}
use mathlib.Core.Path.{sym, ap, ◌∙◌}
use native.Mathlib.Omega.{arith}
use Rattle.format_layout.specs.packed.Rows.{unpack}
use Rattle.card_field.specs.needing.Needs.{needed_on}
use Rattle.card_field.specs.judging.Fields.{value_of, text_last}
use Rattle.card_field.proofs.judging.Steps.{value_missing, value_absent, value_within, value_outside, value_text}
use Rattle.card_field.proofs.judging.value_of.Goals as goal
use Rattle.std.specs.Prelude.{Ok}

pub returns-then-needed_on : goal.returns-then-needed_on
returns-then-needed_on c = sym (value_missing _ _ _ c.in-Absent.is (sym c.needed_on.ensures ∙ c.if-needed_on.true))

pub returns-then-in_range : goal.returns-then-in_range
returns-then-in_range c =
    sym (value_within _ _ _ _ _ c.in-Whole.is (to_z-of_z w64 c.in-Whole.z (record { sfits = c.in-Whole.known_told-1-own.given.0.1 })) _ c.range_of.ensures (sym c.in_range.ensures ∙ c.if-in_range.true))

pub overflow_add-last : goal.overflow_add-last
overflow_add-last c = omega (arith, c.requires, c.first_of-first.ensures, ap text_last c.in-Text.is)

pub returns-else-needed_on : goal.returns-else-needed_on
returns-else-needed_on c = sym (value_absent _ _ _ c.in-Absent.is (sym c.needed_on.ensures ∙ c.if-needed_on.false))

pub returns-else-in_range : goal.returns-else-in_range
returns-else-in_range c =
    sym (value_outside _ _ _ _ _ c.in-Whole.is (to_z-of_z w64 c.in-Whole.z (record { sfits = c.in-Whole.known_told-1-own.given.0.1 })) _ c.range_of.ensures (sym c.in_range.ensures ∙ c.if-in_range.false))

pub returns-in-Decimal : goal.returns-in-Decimal
unfolding value_of
returns-in-Decimal c =
    let a = c.args in
    sym (ap (value_of (needed_on a.layout a.card.now (unpack a.row)) (unpack a.row)) c.in-Decimal.is)

pub returns-in-Angle : goal.returns-in-Angle
unfolding value_of
returns-in-Angle c =
    let a = c.args in
    ap (λ (z : ℤ). Ok (value.Angle z)) (to_z-of_z w64 c.in-Angle.z (record { sfits = c.in-Angle.known_told-in-Angle-1-own.given.0.1 }))
    ∙ sym (ap (value_of (needed_on a.layout a.card.now (unpack a.row)) (unpack a.row)) c.in-Angle.is)

pub returns-in-Date : goal.returns-in-Date
unfolding value_of
returns-in-Date c =
    let a = c.args in
    sym (ap (value_of (needed_on a.layout a.card.now (unpack a.row)) (unpack a.row)) c.in-Date.is)

pub returns-in-Text : goal.returns-in-Text
returns-in-Text c = sym (value_text _ _ _ _ c.in-Text.is _ c.first_of-first.ensures)
