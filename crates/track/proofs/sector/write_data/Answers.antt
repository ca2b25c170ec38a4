use Rattle.track.proofs.Images.{data_lent}
use Rattle.track.proofs.sector.write_data.Goals as goal

pub returns : goal.returns
returns c =
    data_lent _ _ _ c.slot_size.ensures _ _ _
    c.requires.3 c.move_bytes.ensures
