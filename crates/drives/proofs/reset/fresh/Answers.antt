use Rattle.drives.proofs.Resets.{fresh_of}
use Rattle.drives.proofs.reset.fresh.Goals as goal

pub returns : goal.returns
returns c = fresh_of c.args.images _ _ _ _ c.load.ensures c.load-2.ensures c.load-3.ensures c.load-4.ensures
