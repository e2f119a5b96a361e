-- `tie_lookup::questions::answer` meets its contract.
use native.Mathlib.Omega.{arith}
use Rattle.tie_lookup.proofs.questions.Answering.{told_no_class, told_none, some-place, told-only, told_several}
use Rattle.tie_lookup.proofs.questions.answer.Goals as goal

pub returns-then-not-is_class : goal.returns-then-not-is_class
returns-then-not-is_class c =
    let a = c.args in
    told_no_class a.header.now a.class a.key a.text.now c.requires _ c.is_class.ensures
    c.if-not-is_class.true _ c.refuse.ensures

pub returns-then-number-eq0 : goal.returns-then-number-eq0
returns-then-number-eq0 c =
    let a = c.args in
    told_none a.header.now a.class a.key a.text.now c.requires _ c.is_class.ensures
    c.if-not-is_class.false _ c.number_of.ensures c.in_header-found.result c.in_header-found.ensures c.if-number-eq0.true

pub overflow_sub-place : goal.overflow_sub-place
overflow_sub-place c =
    let a = c.args in
    some-place a.header.now a.class a.key a.text.now c.requires _ c.is_class.ensures
    c.if-not-is_class.false _ c.number_of.ensures c.in_header-found.result c.in_header-found.ensures c.if-number-eq1.true

pub returns-then-number-eq1 : goal.returns-then-number-eq1
returns-then-number-eq1 c =
    let a = c.args in
    told-only a.header.now a.class a.key a.text.now c.requires _ c.is_class.ensures
    c.if-not-is_class.false _ c.number_of.ensures c.in_header-found.result c.in_header-found.ensures c.if-number-eq1.true
    _ (omega (
      arith,
      (let a = c.args in
          some-place a.header.now a.class a.key a.text.now c.requires _ c.is_class.ensures
          c.if-not-is_class.false _ c.number_of.ensures c.in_header-found.result c.in_header-found.ensures c.if-number-eq1.true),
    ))

pub returns : goal.returns
returns c =
    let a = c.args in
    told_several a.header.now a.class a.key a.text.now c.requires _ c.is_class.ensures
    c.if-not-is_class.false _ c.number_of.ensures c.in_header-found.result c.in_header-found.ensures
    c.if-number-eq0.false c.if-number-eq1.false
