-- `media_diskette::offence_of` meets its contract.
use borrow.Author.Tests.{lt-ltb, le-ltb}
use Rattle.media_diskette.specs.Answers.{offence_of}
use Rattle.media_diskette.proofs.Judging.{good_byte, bad-byte}
use Rattle.media_diskette.proofs.offence_of.Goals as goal

pub returns-then-k-lt-CARD : goal.returns-then-k-lt-CARD
unfolding offence_of
returns-then-k-lt-CARD c =
    let good = good_byte c.args.b c.if-b.true in
    rw (good.0, good.1, lt-ltb _ _ c.if-k-lt-CARD.true)

pub returns-then-b : goal.returns-then-b
unfolding offence_of
returns-then-b c =
    let good = good_byte c.args.b c.if-b.true in
    rw (good.0, good.1, le-ltb _ _ c.if-k-lt-CARD.false)

pub returns-then-b-2 : goal.returns-then-b-2
unfolding offence_of
returns-then-b-2 c = rw c.if-b-2.true

pub returns : goal.returns
unfolding offence_of
returns c = rw (c.if-b-2.false, bad-byte _ c.if-b.false)
