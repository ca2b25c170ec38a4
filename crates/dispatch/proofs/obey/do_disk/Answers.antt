use mathlib.Core.Path.{◌∙◌, ap}
use Rattle.model.specs.declared.table.Command.{Command}
use Rattle.model.specs.declared.table.Command.TheVariants.{OnDisk}
use Rattle.dispatch.proofs.Admits.{track_admits, sector_admits}
use Rattle.dispatch.proofs.Carries.{on_arm, on_tracks_lem, on_sectors_lem}
use Rattle.dispatch.proofs.obey.do_disk.Goals as goal

pub do_track-requires : goal.do_track-requires
do_track-requires c =
    let ready = track_admits _ c.requires.0 c.requires.2 _ (c.requires.1 ∙ ap {B = Command} OnDisk c.in-TrackWork.is) in
    (ready.0, ready.1)

pub do_sectors-requires : goal.do_sectors-requires
do_sectors-requires c =
    sector_admits _ c.requires.0 c.requires.2 _ (c.requires.1 ∙ ap {B = Command} OnDisk c.in-SectorWork.is)

pub returns-in-ArmWork : goal.returns-in-ArmWork
returns-in-ArmWork c = on_arm _ _ _ _ _ _ _ _ _ _ c.in-ArmWork.is c.do_arm.ensures

pub returns-in-TrackWork : goal.returns-in-TrackWork
returns-in-TrackWork c = on_tracks_lem _ _ _ _ _ _ _ _ _ _ _ c.in-TrackWork.is c.do_track.ensures

pub returns-in-SectorWork : goal.returns-in-SectorWork
returns-in-SectorWork c = on_sectors_lem _ _ _ _ _ _ _ _ _ _ c.in-SectorWork.is c.do_sectors.ensures
