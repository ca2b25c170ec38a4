use borrow.Author.Rules.{rules}
use Rattle.pouring.proofs.Drives.{fits_there, read_there}
use Rattle.pouring.proofs.images.read_on.Goals as goal

pub read_sectors-requires : goal.read_sectors-requires
read_sectors-requires c = (fits_there c.args.images c.args.drive _ (search rules) c.args.p c.requires.1, c.requires.2, c.requires.3)

pub returns : goal.returns
returns c = read_there c.args.images c.args.drive _ (search rules) _ _ _ _ _ _ c.read_sectors.ensures
