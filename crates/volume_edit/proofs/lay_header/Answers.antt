-- `volume_edit::lay_header` meets its contract.
use Rattle.volume_edit.proofs.Writes.{writes}
use Rattle.volume_edit.proofs.lay_header.Goals as goal

pub returns : goal.returns
returns c =
    writes c.args.form c.args.first c.args.lines _ _ c.requires _ _ _ _ c.make_room.ensures c.entry_card-entry.ensures c.trailer_card-trailer.ensures c.lay_two.ensures
