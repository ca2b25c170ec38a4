use mathlib.Core.Path.{ap}
use Rattle.track.specs.Find.{as_where}
use Rattle.track.proofs.Laws.{where_in}
use Rattle.sectors.proofs.Founds.{track_below}
use Rattle.sectors.proofs.ReadLoops.{part_off, part_on}
use Rattle.sectors.proofs.read.read_part.Goals as goal

pub where_is-requires : goal.where_is-requires
where_is-requires c =
    (c.requires.0, track_below _ c.args.a _ c.requires.0.within c.requires.1 c.track_of.ensures)

-- the track that is searched is one of the drive's
pub track_of-requires-in-Ok : goal.track_of-requires-in-Ok
track_of-requires-in-Ok c =
    let h = track_below _ c.args.a _ c.requires.0.within c.requires.1 c.track_of.ensures in
    (c.requires.0, where_in _ _ _ _ c.where_is.ensures h _ (ap as_where c.in-Ok.is))

pub read_run-requires : goal.read_run-requires
read_run-requires c = rw (c.track_of-in-Ok.ensures.0, c.sector_of-first.ensures) (c.requires.3, c.requires.4)

pub returns-in-Err : goal.returns-in-Err
returns-in-Err c =
    part_off _ _ c.args.a _ _ _ c.requires.3 c.track_of.ensures c.where_is.ensures _ _ c.requires.2 (ap as_where c.in-Err.is)

pub returns-in-Ok : goal.returns-in-Ok
returns-in-Ok c =
    part_on _ _ c.args.a _ _ _ c.requires.3 c.track_of.ensures c.where_is.ensures _ _ _ _ _ _ _
    (ap as_where c.in-Ok.is) c.sector_of-first.ensures
    c.track_of-in-Ok.ensures.1
    (rw c.track_of-in-Ok.ensures.0 at c.read_run.ensures) c.done_of.ensures
