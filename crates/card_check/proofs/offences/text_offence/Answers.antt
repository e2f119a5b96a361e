-- `card_check::offences::text_offence` meets its contract.
use mathlib.Core.Path.{sym}
use Rattle.card_check.proofs.offences.Offences.{blank_not, text_filled, text_odd}
use Rattle.card_check.proofs.offences.text_offence.Goals as goal

pub returns-then-s-ne-BLANK : goal.returns-then-s-ne-BLANK
returns-then-s-ne-BLANK c = sym (text_filled c.args.s.now _ c.requires c.if-s-ne-BLANK.true)

pub returns : goal.returns
returns c =
    sym (text_odd c.args.s.now _ c.requires c.if-s-ne-BLANK.false (blank_not c.args.s.now _ c.text_end.ensures.found c.if-text_end-eq0.false) c.if-lead.false)
