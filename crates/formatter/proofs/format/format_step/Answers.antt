use Rattle.track.specs.Id.{with_sector}
use Rattle.formatter.proofs.Steps.{step_lent}
use Rattle.formatter.proofs.format.format_step.Goals as goal

pub id_bytes-bytes-requires : goal.id_bytes-bytes-requires
unfolding with_sector
id_bytes-bytes-requires c = rw c.with_sector.ensures c.requires.2

pub returns : goal.returns
returns c =
    step_lent _ _ _ _ _ _ _ _ c.with_sector.ensures c.id_bytes-bytes.ensures c.write_slot.ensures
