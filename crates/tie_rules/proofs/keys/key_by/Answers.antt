-- `tie_rules::keys::key_by` meets its contract: each way to find a key.
use Prim.Native.Nat.{◌/◌, ◌%◌}
use native.Mathlib.Omega.{arith}
use mathlib.Core.Path.{refl, ap, ◌∙◌}
use mathlib.Core.List.{[], ◌∷◌}
use Rattle.format_layout.proofs.Lines.{above}
use Rattle.value_text.specs.text.Texts.{text_of}
use Rattle.tie_rules.specs.Keys.{whole_in, in_part}
use Rattle.tie_rules.specs.Offered.{whole_offered}
use Rattle.tie_rules.specs.packed.Numbers.{packed}
use Rattle.tie_rules.specs.packed.Rows.{found_by}
use Rattle.tie_rules.proofs.keys.Steps.{is_digit_lem, is_whole, is-serial, is-waypoint, is-only, is-nothing, is-part, found}
use Rattle.tie_rules.proofs.keys.key_by.Goals as goal

pub overflow_sub-how : goal.overflow_sub-how
overflow_sub-how c = above 0 6 _ (omega arith) c.in_default.in_default-own.rest

pub returns-in-0 : goal.returns-in-0
unfolding found_by
returns-in-0 c = found _ c.args.card.now _ _ (is-nothing _ c.in-0.is) refl

pub returns-in-1 : goal.returns-in-1
unfolding found_by
returns-in-1 c =
    let k = c.args.line / 1048576 in
    let e = ap (λ n. packed k (whole_offered k (n ∷ []))) c.digit_in.ensures in
    found _ c.args.card.now _ _ (is_digit_lem _ c.in-1.is) (c.packed_number.ensures ∙ e)

pub returns-in-2 : goal.returns-in-2
unfolding found_by
returns-in-2 c = found _ c.args.card.now _ _ (is_whole _ c.in-2.is) c.number_key.ensures

pub returns-in-3 : goal.returns-in-3
unfolding found_by
returns-in-3 c =
    let e = ap (λ t. packed 4 (text_of t)) c.columns.ensures in
    found _ c.args.card.now _ _ (is-serial _ c.in-3.is) (c.packed_columns.ensures ∙ e)

pub returns-in-4 : goal.returns-in-4
unfolding found_by
returns-in-4 c = found _ c.args.card.now _ _ (is-waypoint _ c.in-4.is) c.pair_key.ensures

pub returns-in-5 : goal.returns-in-5
unfolding found_by
returns-in-5 c = found _ c.args.card.now _ _ (is-only _ c.in-5.is) c.packed_number-in-5.ensures

pub returns-in_default : goal.returns-in_default
unfolding found_by
returns-in_default c =
    let k = c.args.line / 1048576 in
    let n = whole_in (c.args.line / 256 % 256) (c.args.line % 256) c.args.card.now in
    let e = ap (λ p. packed k (whole_offered k (in_part (p / 65536) (p % 65536) n))) c.part_of.ensures in
    found _ c.args.card.now _ _ (is-part _ (above 0 6 _ (omega arith) c.in_default.in_default-own.rest)) (c.part_key.ensures ∙ e)
