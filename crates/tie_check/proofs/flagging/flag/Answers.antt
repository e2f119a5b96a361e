-- `tie_check::flagging::flag` meets its contract.
use Rattle.header_check.specs.packed.Noted.{flagged}
use Rattle.tie_check.proofs.flagging.flag.Goals as goal

pub returns : goal.returns
unfolding flagged
returns c = rw (c.with_flag.ensures, c.card_in-place.ensures.0)
