-- `media_ebcdic::translate` meets its contract.
use Rattle.std.proofs.Common.{ap, sym, ◌∙◌, refl, arith, add-one}
use Rattle.std.proofs.lemmas.List.{length-map}
use lib.Seq.{drop-cons}
use lib.ListN.{drop_of_length-le}
use borrow.Author.Tests.{lt-ltb, le-ltb}
use Rattle.base_lists.proofs.Laying.{stored_sets, stored_full}
use Rattle.media_ebcdic.specs.Translating.{translated_for}
use Rattle.media_ebcdic.proofs.translate.Goals as goal
use Rattle.std.specs.Prelude.{Err}

pub returns-then-out-input-clause-answer : goal.returns-then-out-input-clause-answer
unfolding translated_for
returns-then-out-input-clause-answer g c = rw (lt-ltb _ _ c.if-out-input.true) (ap Err c.refuse.ensures)

pub returns-then-out-input-clause-out : goal.returns-then-out-input-clause-out
returns-then-out-input-clause-out g c = λ e h. sym (stored_full _ 0 _ (omega (arith, length-map c.args.input.now e)))

pub loop-i-init : goal.loop-i-init
loop-i-init g c = λ e h. stored_sets _ 0 _ (omega (arith, length-map c.args.input.now e))

pub loop-i-preserved : goal.loop-i-preserved
loop-i-preserved g c = λ e h.
    let s = c.args.input.now in
    c.loop-i.invariant e h ∙ rw (drop-cons s c.loop-i.i 0 c.loop-i-test.true, h _ _ c.entry.ensures, add-one c.loop-i.i) refl

pub returns-clause-answer : goal.returns-clause-answer
unfolding translated_for
returns-clause-answer g c = rw (le-ltb _ _ c.if-out-input.false) refl

pub returns-clause-out : goal.returns-clause-out
returns-clause-out g c = λ e h. sym (c.loop-i.invariant e h ∙ rw (drop_of_length-le c.args.input.now c.loop-i-test.false) refl)
