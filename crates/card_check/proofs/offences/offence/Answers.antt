-- `card_check::offences::offence` meets its contract.
use mathlib.Core.Path.{sym}
use native.Mathlib.Omega.{arith}
use Rattle.format_layout.specs.packed.Rows.{unpack}
use Rattle.card_check.proofs.offences.Offences.{offence-other, offence-missing, offence-none, columns-some, columns_wide}
use Rattle.card_check.proofs.offences.offence.Goals as goal

pub overflow_sub-first : goal.overflow_sub-first
overflow_sub-first c = omega (arith, c.first_of-first.ensures, c.requires.1)

pub slice_bounds-offence_in-count : goal.slice_bounds-offence_in-count
slice_bounds-offence_in-count c =
    omega (arith, c.first_of-first.ensures, c.last_of-last.ensures, c.requires.1, c.requires.2)

pub slice_bounds-offence_in-start : goal.slice_bounds-offence_in-start
slice_bounds-offence_in-start c = omega (arith, c.first_of-first.ensures, c.last_of-last.ensures, c.requires)

pub slice_bounds-offence_in-end : goal.slice_bounds-offence_in-end
slice_bounds-offence_in-end c = omega (arith, c.first_of-first.ensures, c.last_of-last.ensures, c.requires)

pub offence_in-number-requires : goal.offence_in-number-requires
offence_in-number-requires c =
    let a = c.args in
    let p = c.requires in
    let f = c.first_of-first.ensures in
    let l = c.last_of-last.ensures in (
      columns-some a.card.now c.first_of-first.result c.last_of-last.result p.0 (omega (arith, p.1, f)) (omega (arith, p.2, f, l)) (omega (arith, p.3, l)),
      columns_wide a.card.now (unpack a.row) _ _ f l p.0 p.1 p.2 p.3 p.4,
    )

pub returns-then-number-ne-MISSING : goal.returns-then-number-ne-MISSING
returns-then-number-ne-MISSING c =
    let a = c.args in
    sym (offence-other _ a.card.now (unpack a.row) _ _ _ _ c.first_of-first.ensures c.last_of-last.ensures c.offence_in-number.ensures c.if-number-ne-MISSING.true)

pub returns-then-needed_on : goal.returns-then-needed_on
returns-then-needed_on c =
    let a = c.args in
    sym (offence-missing _ a.card.now (unpack a.row) _ _ _ _ c.first_of-first.ensures c.last_of-last.ensures c.offence_in-number.ensures c.if-number-ne-MISSING.false _ c.needed_on.ensures c.if-needed_on.true)

pub returns : goal.returns
returns c =
    let a = c.args in
    sym (offence-none _ a.card.now (unpack a.row) _ _ _ _ c.first_of-first.ensures c.last_of-last.ensures c.offence_in-number.ensures c.if-number-ne-MISSING.false _ c.needed_on.ensures c.if-needed_on.false)
