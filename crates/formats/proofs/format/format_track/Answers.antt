use mathlib.Core.Path.{refl}
use Rattle.formats.proofs.Makings.{bound_of}
use Rattle.formats.proofs.FormatEnds.{track_moved, track_taken, track_well}
use Rattle.formats.proofs.format.format_track.Goals as goal

pub state_of-old-requires : goal.state_of-old-requires
state_of-old-requires c =
    (c.requires.0.fits, bound_of _ _ _ c.track_of-t.ensures c.requires.0.track)

pub returns-then-is_moved : goal.returns-then-is_moved
returns-then-is_moved c =
    track_moved _ _ _ _ _ _ c.track_of-t.ensures _ _ _ c.state_of-old.ensures _ c.is_moved.ensures
    c.if-is_moved.true c.failed.ensures

pub returns-then-is_taken : goal.returns-then-is_taken
returns-then-is_taken c =
    track_taken _ _ _ _ _ _ c.track_of-t.ensures _ _ _ c.state_of-old.ensures _ c.is_moved.ensures
    c.if-is_moved.false _ c.is_taken.ensures c.if-is_taken.true c.failed-then-is_taken.ensures

pub make_at-requires : goal.make_at-requires
make_at-requires c =
    (c.requires.0.fits, bound_of _ _ _ c.track_of-t.ensures c.requires.0.track, c.requires.1, c.requires.0.interleave, c.requires.2)

pub returns : goal.returns
returns c =
    track_well _ _ _ _ _ _ c.track_of-t.ensures _ _ _ c.state_of-old.ensures _ c.is_moved.ensures
    c.if-is_moved.false _ c.is_taken.ensures
    _ _ c.if-is_taken.false refl c.make_at.ensures c.good.ensures
