-- `card_check::judge_rest` meets its contract.
use mathlib.Core.Path.{refl, sym, ◌∙◌}
use native.Mathlib.Omega.{arith}
use borrow.Author.Tests.{ltb-true}
use Rattle.card_check.proofs.Walked.{end_fine, end_filled}
use Rattle.card_check.proofs.judge_rest.Goals as goal

pub returns-then-is_blank : goal.returns-then-is_blank
returns-then-is_blank c =
    let a = c.args in
    sym (end_fine a.card.now a.from _ c.requires.2 refl (ltb-true 80 _ (sym c.is_blank.ensures ∙ c.if-is_blank.true)))

pub returns-in-Some : goal.returns-in-Some
returns-in-Some c =
    let q = c.in-Some.ensures in
    sym (end_filled c.args.card.now c.args.from _ c.requires.2 (sym q.0) (omega (arith, q.1)))

pub returns-in-None : goal.returns-in-None
returns-in-None c = sym (end_fine c.args.card.now c.args.from 81 c.requires.2 (sym c.in-None.ensures) (omega arith))
