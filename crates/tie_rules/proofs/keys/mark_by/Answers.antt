-- `tie_rules::keys::mark_by` meets its contract: a size tells the number.
use Rattle.tie_rules.proofs.keys.Steps.{no_mark, a_mark}
use Rattle.tie_rules.proofs.keys.mark_by.Goals as goal

pub returns-then-size-lt-ZERO : goal.returns-then-size-lt-ZERO
returns-then-size-lt-ZERO c n e = no_mark _ n e c.if-size-lt-ZERO.true

pub returns : goal.returns
returns c n e = a_mark _ n e c.if-size-lt-ZERO.false
