use Rattle.model.specs.declared.table.TrackCommand.TheVariants.{FormatDrive, CheckTrack, FormatTrack, FormatBadTrack, AssignAlternate}
use Rattle.model.specs.Commands.{do_track}
use Rattle.dispatch.specs.Ready.{TrackReady}
use Rattle.dispatch.proofs.Admits.{track_as}
use Rattle.dispatch.proofs.Carries.{checked, track_carries}
use Rattle.dispatch.proofs.groups.do_track.Goals as goal

pub assign_alternate-requires : goal.assign_alternate-requires
unfolding TrackReady
assign_alternate-requires c =
    (c.requires.0, track_as _ _ _ c.in-AssignAlternate.is c.requires.1)

pub returns-in-FormatDrive : goal.returns-in-FormatDrive
unfolding do_track
returns-in-FormatDrive c = track_carries _ _ _ _ _ _ _ FormatDrive _ c.in-FormatDrive.is c.format_drive.ensures

pub returns-in-CheckTrack : goal.returns-in-CheckTrack
unfolding do_track
returns-in-CheckTrack c = track_carries _ _ _ _ _ _ _ CheckTrack _ c.in-CheckTrack.is (checked _ _ c.check_track.ensures)

pub returns-in-FormatTrack : goal.returns-in-FormatTrack
unfolding do_track
returns-in-FormatTrack c = track_carries _ _ _ _ _ _ _ FormatTrack _ c.in-FormatTrack.is c.format_sound.ensures

pub returns-in-FormatBadTrack : goal.returns-in-FormatBadTrack
unfolding do_track
returns-in-FormatBadTrack c = track_carries _ _ _ _ _ _ _ FormatBadTrack _ c.in-FormatBadTrack.is c.format_bad.ensures

pub returns-in-AssignAlternate : goal.returns-in-AssignAlternate
unfolding do_track
returns-in-AssignAlternate c = track_carries _ _ _ _ _ _ _ AssignAlternate _ c.in-AssignAlternate.is c.assign_alternate.ensures
