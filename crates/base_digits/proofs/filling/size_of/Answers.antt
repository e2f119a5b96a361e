-- `base_digits::filling::size_of` meets its contract.
use Rattle.std.proofs.Common.{sym}
use Rattle.base_digits.proofs.digits.Spell.{size_is}
use Rattle.base_digits.proofs.filling.size_of.Goals as goal

pub returns-clause-found : goal.returns-clause-found
returns-clause-found c =
    let k = c.ilog10.result in
    let e = c.max.ensures in
    sym (size_is c.args.n k c.ilog10.ensures.bound (rw e at c.ilog10.ensures.power_le) (rw e at c.ilog10.ensures.next_power_gt))
