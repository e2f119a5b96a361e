-- `volume_form::moving::lay` meets its contract.
use Rattle.volume_form.proofs.moving.Moves.{put_copied}
use Rattle.volume_form.proofs.moving.lay.Goals as goal

pub returns : goal.returns
returns c = put_copied _ c.args.s.now _ _ c.requires c.copy.ensures
