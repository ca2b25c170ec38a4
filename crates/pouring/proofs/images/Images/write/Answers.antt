use native.Mathlib.Omega.{arith}
use Rattle.pouring.specs.Lent.{lent}
use Rattle.pouring.proofs.Drives.{fits_on, written_there}
use Rattle.pouring.proofs.images.Images.write.Goals as goal

pub write_sectors-requires : goal.write_sectors-requires
write_sectors-requires c =
    (fits_on c.args.p (lent c.args.self.now) c.args.drive 0 c.in-0.is c.requires.1, c.requires.2, c.requires.3)

pub returns-in-0-clause-written : goal.returns-in-0-clause-written
returns-in-0-clause-written c =
    written_there c.args.p (lent c.args.self.now) c.args.drive 0 c.in-0.is _ _ _ _ _ c.write_sectors.ensures

pub write_sectors-requires-in-1 : goal.write_sectors-requires-in-1
write_sectors-requires-in-1 c =
    (fits_on c.args.p (lent c.args.self.now) c.args.drive 1 c.in-1.is c.requires.1, c.requires.2, c.requires.3)

pub returns-in-1-clause-written : goal.returns-in-1-clause-written
returns-in-1-clause-written c =
    written_there c.args.p (lent c.args.self.now) c.args.drive 1 c.in-1.is _ _ _ _ _ c.write_sectors-in-1.ensures

pub write_sectors-requires-in-2 : goal.write_sectors-requires-in-2
write_sectors-requires-in-2 c =
    (fits_on c.args.p (lent c.args.self.now) c.args.drive 2 c.in-2.is c.requires.1, c.requires.2, c.requires.3)

pub returns-in-2-clause-written : goal.returns-in-2-clause-written
returns-in-2-clause-written c =
    written_there c.args.p (lent c.args.self.now) c.args.drive 2 c.in-2.is _ _ _ _ _ c.write_sectors-in-2.ensures

pub write_sectors-requires-in_default : goal.write_sectors-requires-in_default
write_sectors-requires-in_default c =
    (fits_on c.args.p (lent c.args.self.now) c.args.drive 3 (omega (arith, c.requires.0, c.in_default)) c.requires.1, c.requires.2, c.requires.3)

pub returns-in_default-clause-written : goal.returns-in_default-clause-written
returns-in_default-clause-written c =
    written_there c.args.p (lent c.args.self.now) c.args.drive 3 (omega (arith, c.requires.0, c.in_default)) _ _ _ _ _ c.write_sectors-in_default.ensures
