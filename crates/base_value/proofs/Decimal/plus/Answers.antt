-- `base_value::Decimal::plus` meets its contract.
use Rattle.std.proofs.Common.{arith}
use Rattle.std.proofs.lemmas.Int.{to_z-of_z}
use Rattle.base_value.specs.Sums.{sum_of}
use Rattle.base_value.proofs.Adding.{small-held, sum_fits}
use Rattle.base_value.proofs.Decimal.plus.Goals as goal

pub returns : goal.returns
unfolding sum_of
returns c = grind (arith, to_z-of_z, small-held, sum_fits)
