-- A command of six bytes: engine and machine answer alike and agree after it.
use Prim.Native.Nat.{ℕ, ◌≤◌}
use mathlib.Core.Path.{◌≡◌, refl, sym, ap, subst, ◌∙◌}
use mathlib.Core.List.{List, []}
use lib.ListN.{length}
use Rattle.geometry.specs.declared.params.Params.{Params}
use Rattle.geometry.specs.Config.{Setting}
use Rattle.std.specs.Prelude.{Some, None}
use Rattle.geometry.specs.Medium.{medium_of}
use Rattle.model.specs.declared.block.Block.{Block}
use Rattle.model.specs.declared.table.Command.{Command}
use Rattle.model.specs.declared.table.Command.TheVariants.{Free, OnDisk, Copy, Unknown}
use Rattle.model.specs.declared.table.FreeCommand.{FreeCommand}
use Rattle.model.specs.declared.table.FreeCommand.TheVariants.{RequestSense, WriteBuffer, ReadBuffer, Initialize}
use Rattle.model.specs.declared.table.DiskCommand.{DiskCommand}
use Rattle.model.specs.declared.table.DiskCommand.TheVariants.{ArmWork, TrackWork, SectorWork}
use Rattle.model.specs.declared.table.ArmCommand.TheVariants.{TestReady, Recalibrate, Seek}
use Rattle.model.specs.declared.table.TrackCommand.TheVariants.{FormatDrive, CheckTrack, FormatTrack, FormatBadTrack, AssignAlternate}
use Rattle.model.specs.declared.table.SectorCommand.TheVariants.{Read, Write}
use Rattle.model.specs.declared.record.Drive.{Drive}
use Rattle.model.specs.declared.verdict.View.{View}
use Rattle.model.specs.Verdicts.{Passed}
use Rattle.model.specs.Table.{is_among, check_number, TableRow, row_for}
use Rattle.model.specs.Checks.{size_in, bytes_of, judge}
use Rattle.model.specs.Record.{unless, effect}
use Rattle.model.specs.Commands.{do_free, do_arm, do_track, do_sectors, do_disk, carry_out}
use Rattle.model.specs.Engine.{obey}
use Rattle.model.specs.Machine.{Machine, freely, seeking, on_tracks, on_sectors, with_parameters, carried, seen, ordered}
use Rattle.model.proofs.engine.Checked.{opcode_for, row_of, Cleared, cleared, given_enough, not_pending, pending_first, interleave_in, track_cleared, count_cleared, one_track_lem}
use Rattle.model.proofs.claim.Agrees.{InStep, Follows}
use Rattle.model.proofs.claim.Ends.{done_follows, fault_follows, verdict_follows}
use Rattle.model.proofs.claim.Current.{view_same, InForce, in_force_lem}
use Rattle.model.proofs.claim.Simple.{sense_follows, buffer_read, buffer_written, initialize_follows}
use Rattle.model.proofs.claim.OneTrack.{check_follows, sound_follows, bad_follows, assign_follows}
use Rattle.model.proofs.claim.WholeDrive.{drive_follows}
use Rattle.model.proofs.claim.Transfers.{read_follows, write_follows}

module _ (b : Block) (given area : List ℕ) (entry : Drive) (buffer image : List ℕ) (m : Machine)
    (alike : InStep b.drive entry buffer image m) where
  -- the row of the command, by an opcode that has it
  row : (command : Command) → (row_for b.opcode).command ≡ command → row_for b.opcode ≡ row_for (opcode_for command)
  row command is = row_of b.opcode ∙ ap (λ (k : Command). row_for (opcode_for k)) is

  module _ (passed : judge b (seen (medium_of b.drive) (m.disks b.drive)) (length given) (length area) ≡ Passed) where
    -- ---- no parameters
    free_follows : (s : Setting) (command : FreeCommand) → (seen (medium_of b.drive) (m.disks b.drive)).setting ≡ s
        → (row_for b.opcode).command ≡ Free command
        → Follows b.drive area image m (do_free b given entry buffer image command) (freely b given m (m.disks b.drive) command)
    unfolding freely row_for opcode_for bytes_of
    free_follows s RequestSense e is = sense_follows b given area entry buffer image m alike
    free_follows s WriteBuffer e is =
        buffer_written b given area entry buffer image m alike
        (subst (λ (r : TableRow). bytes_of r.takes b (seen (medium_of b.drive) (m.disks b.drive)).setting ≤ length given) (row (Free WriteBuffer) is)
        (given_enough b (seen (medium_of b.drive) (m.disks b.drive)) (length given) (length area) passed))
    free_follows s ReadBuffer e is = buffer_read b given area entry buffer image m alike
    free_follows s Initialize e is = initialize_follows b given area entry buffer image m alike

    -- ---- parameters p in force, and the checks of the command's row passed
    module _ (p : Params) (force : InForce (medium_of b.drive) entry image (m.disks b.drive) p) where
      disk_follows : (command : DiskCommand)
          → Cleared (row_for (opcode_for (OnDisk command))) b p (m.disks b.drive).pending (length given)
          → Follows b.drive area image m (do_disk b p given entry buffer image command) (with_parameters b p given m (m.disks b.drive) command)
      unfolding do_disk do_arm do_track do_sectors with_parameters seeking on_tracks on_sectors row_for opcode_for is_among check_number bytes_of size_in
      disk_follows (ArmWork TestReady) clear = done_follows b area image m entry buffer alike
      disk_follows (ArmWork Recalibrate) clear = done_follows b area image m entry buffer alike
      disk_follows (ArmWork Seek) clear = done_follows b area image m entry buffer alike
      disk_follows (TrackWork FormatDrive) clear =
          drive_follows b area entry buffer image m alike p force (pending_first force.within clear refl)
          (track_cleared force.within clear refl refl) (interleave_in force.within clear refl)
      disk_follows (TrackWork CheckTrack) clear =
          let t = one_track_lem force.within clear refl refl refl refl refl in
          check_follows b area entry buffer image m alike p force t.calm t.ours t.inter
      disk_follows (TrackWork FormatTrack) clear =
          let t = one_track_lem force.within clear refl refl refl refl refl in
          sound_follows b area entry buffer image m alike p force t.calm t.ours t.inter
      disk_follows (TrackWork FormatBadTrack) clear =
          let t = one_track_lem force.within clear refl refl refl refl refl in
          bad_follows b area entry buffer image m alike p force t.calm t.ours t.inter
      disk_follows (TrackWork AssignAlternate) clear =
          let t = one_track_lem force.within clear refl refl refl refl refl in
          assign_follows b area entry buffer image m alike p force t.calm t.ours t.inter given
      disk_follows (SectorWork Read) clear =
          read_follows b area entry buffer image m alike p force (not_pending force.within clear refl refl)
          (count_cleared force.within clear refl refl)
      disk_follows (SectorWork Write) clear =
          write_follows b area entry buffer image m alike p force (not_pending force.within clear refl refl)
          (count_cleared force.within clear refl refl) given clear.enough

    carried_follows : (s : Setting) → (seen (medium_of b.drive) (m.disks b.drive)).setting ≡ s
        → (command : Command) → (row_for b.opcode).command ≡ command
        → Follows b.drive area image m (carry_out b s given entry buffer image command) (carried b s given m (m.disks b.drive) command)
    unfolding carry_out carried seen
    carried_follows s e (Free command) is = free_follows s command e is
    carried_follows None e (OnDisk command) is = fault_follows b area image m entry buffer alike 0x0A b.address
    carried_follows (Some p) e (OnDisk command) is =
        disk_follows p (in_force_lem _ _ _ (m.disks b.drive) alike.drive p e) command
        (subst (λ (r : TableRow). Cleared r b p (m.disks b.drive).pending (length given)) (row (OnDisk command) is)
        (cleared b (seen (medium_of b.drive) (m.disks b.drive)) (length given) (length area) passed p e))
    carried_follows s e Unknown is = fault_follows b area image m entry buffer alike 0x20 b.address
    carried_follows s e Copy is = fault_follows b area image m entry buffer alike 0x20 b.address

  pub obey_follows : Follows b.drive area image m (obey b given (length area) entry buffer image) (ordered b given (length area) m (m.disks b.drive))
  unfolding obey ordered
  obey_follows =
      let u = m.disks b.drive in
      subst
      (λ (v : View). Follows b.drive area image m
      (unless (judge b v (length given) (length area)) b.drive entry (λ e. effect e buffer [] image)
      (carry_out b v.setting given entry buffer image (row_for b.opcode).command))
      (ordered b given (length area) m u))
      (sym (view_same _ _ _ u alike.drive))
      (verdict_follows b area image m entry buffer alike (judge b (seen (medium_of b.drive) u) (length given) (length area)) _ _
      (λ passed. carried_follows passed _ refl _ refl))
