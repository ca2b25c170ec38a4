use Rattle.formats.proofs.Makings.{bound_of}
use Rattle.alternates.proofs.Assigns.{formatted_well}
use borrow.Author.Rules.{rules}
use Rattle.alternates.proofs.assign.assign_formatted.Goals as goal

pub make_pair-requires : goal.make_pair-requires
make_pair-requires c =
    (c.requires.0.fits, bound_of _ _ _ c.track_of.ensures c.requires.0.track, c.requires.1, c.requires.0.interleave, search rules)

pub returns : goal.returns
returns c =
    formatted_well _ _ _ _ _ _ _ _ _ _ c.track_of.ensures c.fill_of-fill.ensures.0 c.make_pair.ensures c.good.ensures
