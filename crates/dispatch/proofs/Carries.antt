-- What a command's function leaves is what the command leaves.
use Prim.Native.Nat.{ℕ}
use mathlib.Core.Path.{◌≡◌, refl}
use mathlib.Core.Logic.{◌⊎◌, inl, inr}
use mathlib.Core.List.{List, []}
use lib.ListN.{length}
use Rattle.base.specs.Part.{part, splice}
use Rattle.geometry.specs.declared.params.Params.{Params}
use Rattle.geometry.specs.Config.{Setting}
use Rattle.std.specs.Prelude.{Some, None}
use Rattle.model.specs.declared.block.Block.{Block}
use Rattle.model.specs.declared.table.Command.{Command}
use Rattle.model.specs.declared.table.Command.TheVariants.{Free, OnDisk, Copy, Unknown}
use Rattle.model.specs.declared.table.FreeCommand.{FreeCommand}
use Rattle.model.specs.declared.table.FreeCommand.TheVariants.{RequestSense, WriteBuffer, ReadBuffer, Initialize}
use Rattle.model.specs.declared.table.DiskCommand.{DiskCommand}
use Rattle.model.specs.declared.table.DiskCommand.TheVariants.{ArmWork, TrackWork, SectorWork}
use Rattle.model.specs.declared.table.ArmCommand.{ArmCommand}
use Rattle.model.specs.declared.table.ArmCommand.TheVariants.{TestReady, Recalibrate, Seek}
use Rattle.model.specs.declared.table.TrackCommand.{TrackCommand}
use Rattle.model.specs.declared.table.SectorCommand.{SectorCommand}
use Rattle.model.specs.declared.record.Drive.{Drive}
use Rattle.model.specs.declared.record.Ending.{Ending}
use Rattle.model.specs.Record.{good_answer, good, failed, Effect, effect, Made, made}
use Rattle.model.specs.Commands.{initialize, do_free, do_arm, do_track, do_sectors, as_effect, do_disk, carry_out}
use Rattle.endings.specs.Left.{Left, left_now, left_by}

-- Where nothing is handed over the data area stays.
pub left_unhanded : (e : Effect) (r : Ending) (buffer area image : List ℕ) → effect r buffer [] image ≡ e → left_now r buffer area image ≡ left_by e area
unfolding left_by splice
left_unhanded e r buffer area image h = rw (← h)

-- ---- no parameters
module _ (b : Block) (given : List ℕ) (entry : Drive) (buffer area image : List ℕ) (command : FreeCommand) (r : Ending) where
  pub sense_carries : command ≡ RequestSense → r ≡ record { entry = entry; answer = good_answer b.drive 0 (length entry.sense) }
      → (after : List ℕ) → after ≡ splice 0 entry.sense area → left_now r buffer after image ≡ left_by (do_free b given entry buffer image command) area
  unfolding do_free left_by
  sense_carries is er after ea = rw (is, er, ea)

  pub buffered_carries : command ≡ WriteBuffer → r ≡ good b.drive 0 0 entry → (after : List ℕ) → after ≡ part 0 512 given
      → left_now r after area image ≡ left_by (do_free b given entry buffer image command) area
  unfolding do_free
  buffered_carries is er after eb = rw is (left_unhanded _ r after area image (rw (er, eb)))

  pub buffer_carries : command ≡ ReadBuffer → length buffer ≡ 512 → r ≡ good b.drive 0 512 entry → (after : List ℕ) → after ≡ splice 0 buffer area
      → left_now r buffer after image ≡ left_by (do_free b given entry buffer image command) area
  unfolding do_free left_by
  buffer_carries is whole er after ea = rw (is, er, ea, whole)

  pub initialize_carries : command ≡ Initialize → r ≡ initialize b given entry image
      → left_now r buffer area image ≡ left_by (do_free b given entry buffer image command) area
  unfolding do_free
  initialize_carries is er = rw is (left_unhanded _ r buffer area image (rw er))

-- ---- parameters in force
-- the arm's, the same for each
pub arm_carries : (b : Block) (entry : Drive) (command : ArmCommand) (r : Ending) → r ≡ good b.drive 0 0 entry → r ≡ do_arm b entry command
unfolding do_arm
arm_carries b entry TestReady r e = e
arm_carries b entry Recalibrate r e = e
arm_carries b entry Seek r e = e

-- an ending, with the image as it was
pub checked : (r s : Ending) {image : List ℕ} → r ≡ s → made r image ≡ made s image
checked r s e = rw e

-- by the command: what its function leaves
pub track_carries : (b : Block) (p : Params) (buffer given : List ℕ) (entry : Drive) (image : List ℕ) (command k : TrackCommand) (x : Made)
    → command ≡ k → x ≡ do_track b p buffer given entry image k → x ≡ do_track b p buffer given entry image command
track_carries b p buffer given entry image command k x is e = rw is e

module _ (b : Block) (p : Params) (given : List ℕ) (entry : Drive) (buffer area image : List ℕ) where
  pub sectors_carry : (command k : SectorCommand) (x : Left) → command ≡ k → x ≡ left_by (do_sectors b p given entry buffer image k) area
      → x ≡ left_by (do_sectors b p given entry buffer image command) area
  sectors_carry command k x is e = rw is e

  module _ (command : DiskCommand) (r : Ending) where
    pub on_arm : (w : ArmCommand) → command ≡ ArmWork w → r ≡ do_arm b entry w
        → left_now r buffer area image ≡ left_by (do_disk b p given entry buffer image command) area
    unfolding do_disk
    on_arm w is er = rw is (left_unhanded _ r buffer area image (rw er))

    pub on_tracks_lem : (w : TrackCommand) (after : List ℕ) → command ≡ TrackWork w → made r after ≡ do_track b p buffer given entry image w
        → left_now r buffer area after ≡ left_by (do_disk b p given entry buffer image command) area
    unfolding do_disk as_effect
    on_tracks_lem w after is e = rw is (left_unhanded _ r buffer area after (rw (← e)))

  pub on_sectors_lem : (command : DiskCommand) (w : SectorCommand) (x : Left) → command ≡ SectorWork w
      → x ≡ left_by (do_sectors b p given entry buffer image w) area → x ≡ left_by (do_disk b p given entry buffer image command) area
  unfolding do_disk
  on_sectors_lem command w x is e = rw is e

-- ---- any command
module _ (b : Block) (setting : Setting) (given : List ℕ) (entry : Drive) (buffer area image : List ℕ) where
  pub valid_carries : (p : Params) (command : DiskCommand) (x : Left) → setting ≡ Some p
      → x ≡ left_by (do_disk b p given entry buffer image command) area → x ≡ left_by (carry_out b setting given entry buffer image (OnDisk command)) area
  unfolding carry_out
  valid_carries p command x is e = rw is e

  pub unset_carries : (command : DiskCommand) (r : Ending) → setting ≡ None → r ≡ failed b.drive b.drive 0x0A b.address 0 0 entry
      → left_now r buffer area image ≡ left_by (carry_out b setting given entry buffer image (OnDisk command)) area
  unfolding carry_out
  unset_carries command r is er = rw is (left_unhanded _ r buffer area image (rw er))

  pub free_carries : (command : Command) (w : FreeCommand) (x : Left) → command ≡ Free w → x ≡ left_by (do_free b given entry buffer image w) area
      → x ≡ left_by (carry_out b setting given entry buffer image command) area
  unfolding carry_out
  free_carries command w x is e = rw is (by setting)
    where
      by : (s : Setting) → x ≡ left_by (carry_out b s given entry buffer image (Free w)) area
      by None = e
      by (Some p) = e

  pub disk_carries : (command : Command) (w : DiskCommand) (x : Left) → command ≡ OnDisk w
      → x ≡ left_by (carry_out b setting given entry buffer image (OnDisk w)) area → x ≡ left_by (carry_out b setting given entry buffer image command) area
  disk_carries command w x is e = rw is e

  unknown_carries : (command : Command) (r : Ending) → command ≡ Unknown → r ≡ failed b.drive b.drive 0x20 b.address 0 0 entry
      → left_now r buffer area image ≡ left_by (carry_out b setting given entry buffer image command) area
  unfolding carry_out
  unknown_carries command r is er = rw is (left_unhanded _ r buffer area image (rw er (by setting)))
    where
      fails : Effect
      fails = effect (failed b.drive b.drive 0x20 b.address 0 0 entry) buffer [] image

      by : (s : Setting) → fails ≡ carry_out b s given entry buffer image Unknown
      by None = refl
      by (Some p) = refl

  copy_carries : (command : Command) (r : Ending) → command ≡ Copy → r ≡ failed b.drive b.drive 0x20 b.address 0 0 entry
      → left_now r buffer area image ≡ left_by (carry_out b setting given entry buffer image command) area
  unfolding carry_out
  copy_carries command r is er = rw is (left_unhanded _ r buffer area image (rw er (by setting)))
    where
      fails : Effect
      fails = effect (failed b.drive b.drive 0x20 b.address 0 0 entry) buffer [] image

      by : (s : Setting) → fails ≡ carry_out b s given entry buffer image Copy
      by None = refl
      by (Some p) = refl

  pub none_carries : (command : Command) (r : Ending) → (command ≡ Unknown) ⊎ (command ≡ Copy) → r ≡ failed b.drive b.drive 0x20 b.address 0 0 entry
      → left_now r buffer area image ≡ left_by (carry_out b setting given entry buffer image command) area
  none_carries command r (inl is) er = unknown_carries command r is er
  none_carries command r (inr is) er = copy_carries command r is er
