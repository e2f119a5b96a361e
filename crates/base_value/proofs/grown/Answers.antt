-- `base_value::grown` meets its contract.
use Rattle.base_value.proofs.Adding.{grown_is}
use Rattle.base_value.proofs.grown.Goals as goal

pub returns : goal.returns
returns c = rw (c.min-2.ensures, c.saturating_mul.ensures, c.pow.ensures, c.min.ensures) (grown_is _ _)
