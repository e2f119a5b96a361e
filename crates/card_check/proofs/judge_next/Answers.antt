-- `card_check::judge_next` meets its contract.
use mathlib.Core.Path.{sym}
use native.Mathlib.Omega.{arith}
use Rattle.format_layout.specs.packed.Rows.{unpack}
use Rattle.card_check.proofs.Ways.{next-gap, next_fine, next-field-bad}
use Rattle.card_check.proofs.judge_next.Goals as goal

pub first_filled-requires : goal.first_filled-requires
first_filled-requires c =
    let p = c.requires in
    let f = c.first_of-first.ensures in
    (p.0, omega (arith, f, p.1, p.2), omega (arith, f, p.2), omega (arith, f, p.3, p.4))

pub returns-in-Some : goal.returns-in-Some
returns-in-Some c =
    let a = c.args in
    let q = c.in-Some.ensures in
    sym (next-gap _ _ a.card.now (unpack a.row) _ _ _ c.first_of-first.ensures (sym q.0) q.1)

pub field_offence-number-requires : goal.field_offence-number-requires
field_offence-number-requires c = let p = c.requires in (p.0, omega (arith, p.1, p.2), p.3, p.4, p.5)

pub returns-then-number-eq0 : goal.returns-then-number-eq0
returns-then-number-eq0 c =
    let a = c.args in
    let b = c.first_of-first in
    sym (next_fine _ _ a.card.now (unpack a.row) _ b.result b.result b.ensures (sym c.in_default.ensures) (omega arith) _ c.field_offence-number.ensures c.if-number-eq0.true)

pub returns : goal.returns
returns c =
    let a = c.args in
    let b = c.first_of-first in
    sym (next-field-bad _ _ a.card.now (unpack a.row) _ b.result b.result b.ensures (sym c.in_default.ensures) (omega arith) _ c.field_offence-number.ensures c.if-number-eq0.false)
