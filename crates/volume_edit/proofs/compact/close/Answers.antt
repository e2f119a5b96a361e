-- `volume_edit::compact::close` meets its contract.
use Rattle.volume_edit.proofs.compact.Ways.{closed_written}
use Rattle.volume_edit.proofs.compact.close.Goals as goal

pub returns : goal.returns
returns c =
    closed_written _ _ _ _ _ _ _ _ _ _ c.trailer_card-trailer.ensures c.move_down.ensures _ _ c.lay.ensures c.blank.ensures
