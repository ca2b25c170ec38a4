use Rattle.base.proofs.Copies.{within_put}
use Rattle.base.proofs.bytes.copy_within.Goals as goal

pub returns : goal.returns
returns c = within_put _ _ _ _ _ c.copy_from_slice.ensures.after c.requires.0 _ _ c.copy_from_slice-2.ensures.after
