use Rattle.formats.proofs.Makings.{bound_of}
use Rattle.formats.proofs.CheckEnds.{check_fails, check_well}
use borrow.Author.Rules.{rules}
use Rattle.formats.proofs.check.check_track.Goals as goal

pub check_track-requires : goal.check_track-requires
check_track-requires c = (c.requires.fits, bound_of _ _ _ c.track_of.ensures c.requires.track, search rules)

pub returns-in-Err : goal.returns-in-Err
returns-in-Err c =
    check_fails _ _ _ _ _ _ _ _ c.requires.interleave c.layout-map.ensures c.track_of.ensures c.check_track.ensures
    _ c.in-Err.is c.failed.ensures

pub returns-in-Ok : goal.returns-in-Ok
returns-in-Ok c =
    check_well _ _ _ _ _ _ _ _ c.requires.interleave c.layout-map.ensures c.track_of.ensures c.check_track.ensures
    _ c.in-Ok.is c.good.ensures
