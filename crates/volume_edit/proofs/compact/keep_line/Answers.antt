-- `volume_edit::compact::keep_line` meets its contract.
use Rattle.volume_edit.proofs.compact.Ways.{kept-written}
use Rattle.volume_edit.proofs.compact.keep_line.Goals as goal

pub returns : goal.returns
returns c =
    kept-written _ _ _ _ _ _ _ _ _ c.move_down.ensures c.entry_card-entry.ensures c.lay.ensures
