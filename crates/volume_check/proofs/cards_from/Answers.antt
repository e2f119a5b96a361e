-- `volume_check::cards_from` meets its contract.
use Prim.Native.Nat.{◌*◌, ◌-◌}
use Rattle.volume_check.proofs.judging.Headers.{part_long}
use Rattle.volume_check.proofs.cards_from.Goals as goal

pub returns : goal.returns
returns c = part_long (80 * (c.args.first - 1)) (80 * c.args.number) _
