use Rattle.model.specs.declared.table.SectorCommand.TheVariants.{Read, Write}
use Rattle.model.specs.Commands.{do_sectors}
use Rattle.dispatch.specs.Ready.{SectorReady}
use Rattle.dispatch.proofs.Admits.{sector_as}
use Rattle.dispatch.proofs.Carries.{left_unhanded, sectors_carry}
use Rattle.dispatch.proofs.groups.do_sectors.Goals as goal

pub read-requires : goal.read-requires
unfolding SectorReady
read-requires c =
    sector_as _ _ _ _ _ _ _ c.in-Read.is c.requires

pub write-requires : goal.write-requires
unfolding SectorReady
write-requires c =
    sector_as _ _ _ _ _ _ _ c.in-Write.is c.requires

pub returns-in-Read : goal.returns-in-Read
unfolding do_sectors
returns-in-Read c = sectors_carry _ _ _ _ _ _ _ _ Read _ c.in-Read.is c.read.ensures

pub returns-in-Write : goal.returns-in-Write
unfolding do_sectors
returns-in-Write c = sectors_carry _ _ _ _ _ _ _ _ Write _ c.in-Write.is (left_unhanded _ _ _ _ _ c.write.ensures)
