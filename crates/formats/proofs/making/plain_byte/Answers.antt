use Rattle.model.specs.Commands.{plain_byte}
use Rattle.formats.proofs.making.plain_byte.Goals as goal

pub returns-in-HardDisk : goal.returns-in-HardDisk
unfolding plain_byte
returns-in-HardDisk c = rw c.in-HardDisk.is

pub returns-in-Floppy : goal.returns-in-Floppy
unfolding plain_byte
returns-in-Floppy c = rw c.in-Floppy.is
