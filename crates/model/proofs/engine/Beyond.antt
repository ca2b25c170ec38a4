-- No command changes a byte past the image length that the parameters in force give, nor the length of an image; and only
-- Format Drive changes the label.
use Prim.Native.Nat.{ℕ, ◌≤◌, ◌<◌}
use mathlib.Core.Path.{◌≡◌, refl, ap, subst, ◌∙◌}
use mathlib.Core.List.{List, [], ◌++◌}
use native.Mathlib.Omega.{arith}
use lib.ListN.{length}
use Rattle.base.specs.Part.{part}
use Rattle.geometry.specs.declared.params.Params.{Params}
use Rattle.geometry.specs.declared.medium.Medium.{Medium}
use Rattle.geometry.specs.Config.{Setting}
use Rattle.std.specs.Prelude.{Some, None}
use Rattle.geometry.specs.Params.{Within, track_count, image_length, track_of}
use Rattle.geometry.specs.Medium.{medium_of}
use Rattle.geometry.specs.Config.{setting_of, label_rest}
use Rattle.geometry.proofs.Settings.{setting_within, setting_ten}
use Rattle.track.specs.Image.{Fits}
use Rattle.sectors.specs.Transfer.{begun}
use Rattle.model.specs.declared.block.Block.{Block}
use Rattle.model.specs.declared.table.Command.{Command}
use Rattle.model.specs.declared.table.Command.TheVariants.{Free, OnDisk, Copy, Unknown}
use Rattle.model.specs.declared.table.FreeCommand.{FreeCommand}
use Rattle.model.specs.declared.table.FreeCommand.TheVariants.{RequestSense, WriteBuffer, ReadBuffer, Initialize}
use Rattle.model.specs.declared.table.DiskCommand.{DiskCommand}
use Rattle.model.specs.declared.table.DiskCommand.TheVariants.{ArmWork, TrackWork, SectorWork}
use Rattle.model.specs.declared.table.TrackCommand.{TrackCommand}
use Rattle.model.specs.declared.table.TrackCommand.TheVariants.{FormatDrive, CheckTrack, FormatTrack, FormatBadTrack, AssignAlternate}
use Rattle.model.specs.declared.table.SectorCommand.{SectorCommand}
use Rattle.model.specs.declared.table.SectorCommand.TheVariants.{Read, Write}
use Rattle.model.specs.declared.record.Drive.{Drive}
use Rattle.model.specs.declared.record.Ending.{Ending}
use Rattle.model.specs.Verdicts.{Verdict}
use Rattle.model.specs.Verdicts.{Refused, Faulty, Passed}
use Rattle.model.specs.Block.{count_of, alternate_of}
use Rattle.model.specs.Table.{TableRow, check_number, is_among, row_for}
use Rattle.model.specs.Checks.{bytes_of, size_in, judge}
use Rattle.model.specs.Record.{setting_in, unless, Effect, effect, Made, made, unless_named}
use Rattle.model.specs.Commands.{fill_of, drive_formatted, format_drive, format_track, transferred, read, write, assign_alternate}
use Rattle.model.specs.Commands.{do_free, do_track, do_sectors, as_effect, do_disk, carry_out}
use Rattle.model.specs.Engine.{view_of, obey}
use Rattle.model.proofs.engine.Checked.{opcode_for, row_of, Cleared, cleared, track_cleared, count_cleared}
use Rattle.model.proofs.engine.Outside.{Outside, outside_self, outside_less, plain_most, fill_most}
use Rattle.model.proofs.engine.Outside.{made_outside, alternated_outside, drive_outside, drive_label}
use Rattle.model.proofs.engine.Assignable.{assignable, alternate_in, keepable, missing_kept}
use Rattle.model.proofs.engine.Written.{writes}
use Rattle.model.proofs.engine.Known.{setting_known}
use Rattle.model.proofs.engine.Leaving.{read_image}

-- ---- By checks: what the command was lent, whatever the entry and the answer, or what it makes of it
pub unless_left : {A : Type 0} (P : A → Type 0) (v : Verdict) (drive : ℕ) (entry : Drive) (keep : Ending → A) (after : A)
    → ((e : Ending) → P (keep e)) → (v ≡ Passed → P after) → P (unless v drive entry keep after)
unfolding unless_named
unless_left P (Refused number) drive entry keep after old new = old _
unless_left P (Faulty code at) drive entry keep after old new = old _
unless_left P Passed drive entry keep after old new = new refl

-- ---- A command whose checks have passed
module _ (b : Block) (given : List ℕ) (area : ℕ) (entry : Drive) (buffer image : List ℕ)
    (passed : judge b (view_of (medium_of b.drive) entry (length image)) (length given) area ≡ Passed) where
  abbrev medium : Medium
  medium = medium_of b.drive

  module _ (p : Params) (valid : setting_in medium entry (length image) ≡ Some p) where
    setting : setting_of medium entry.config (length image) ≡ Some p
    setting = setting_known medium entry (length image) p valid

    pub w : Within p
    w = (setting_within medium _ _ p setting).0

    pub fits : image_length p ≤ length image
    fits = (setting_within medium _ _ p setting).1

    pub ten : length entry.config ≡ 10
    ten = setting_ten medium _ _ p setting

    pub clear : (command : Command) → (row_for b.opcode).command ≡ command → Cleared (row_for (opcode_for command)) b p entry.pending (length given)
    unfolding view_of
    clear command is =
        subst (λ (r : TableRow). Cleared r b p entry.pending (length given))
        (row_of b.opcode ∙ ap (λ (k : Command). row_for (opcode_for k)) is)
        (cleared b (view_of medium entry (length image)) (length given) area passed p valid)

    -- the image that Format Drive makes
    module _ (is : (row_for b.opcode).command ≡ OnDisk (TrackWork FormatDrive)) where
      format_in : (track_of p b.address).0 < track_count p
      unfolding row_for opcode_for is_among check_number
      format_in = track_cleared w (clear (OnDisk (TrackWork FormatDrive)) is) refl refl

      abbrev whole : List ℕ
      whole = drive_formatted b p entry.config (fill_of b p buffer) image

      format_outside : (low : ℕ) → low ≡ 0 → Outside low (Some p) image whole
      format_outside low none = drive_outside low (omega arith) b p w image fits _ _ ten (fill_most b p buffer) format_in none

      pub format_label : (length whole ≡ length image) × (part 0 16 whole ≡ entry.config ++ label_rest)
      format_label = ((format_outside 0 refl).len, drive_label b p w image fits _ _ ten (fill_most b p buffer) format_in)

  -- by cases; `low` is at most 16, and 0 for Format Drive
  module _ (low : ℕ) (front : low ≤ 16) (free : (row_for b.opcode).command ≡ OnDisk (TrackWork FormatDrive) → low ≡ 0) where
    abbrev AfterIt : Setting → List ℕ → Type 0
    AfterIt s after = Outside low s image after

    module _ (p : Params) (valid : setting_in medium entry (length image) ≡ Some p) where
      -- by own checks
      own : (v : Verdict) (after : Made) → (v ≡ Passed → AfterIt (Some p) after.image)
          → AfterIt (Some p) (unless v b.drive entry (λ e. made e image) after).image
      own v after =
          unless_left (λ (x : Made). AfterIt (Some p) x.image) v b.drive entry (λ e. made e image) after (λ e. outside_self low (Some p) image)

      track_outside : (command : TrackCommand) → (row_for b.opcode).command ≡ OnDisk (TrackWork command)
          → AfterIt (Some p) (do_track b p buffer given entry image command).image
      unfolding do_track format_drive format_track assign_alternate row_for opcode_for is_among check_number
      track_outside FormatDrive is = own _ _ (λ ok. format_outside p valid is low (free is))
      track_outside CheckTrack is = outside_self low (Some p) image
      track_outside FormatTrack is =
          own _ _ (λ ok.
          made_outside low front b p (w p valid) image (fits p valid) _ _ _
          (track_cleared (w p valid) (clear p valid (OnDisk (TrackWork FormatTrack)) is) refl refl) (fill_most b p buffer))
      track_outside FormatBadTrack is =
          own _ _ (λ ok.
          made_outside low front b p (w p valid) image (fits p valid) _ _ _
          (track_cleared (w p valid) (clear p valid (OnDisk (TrackWork FormatBadTrack)) is) refl refl) (plain_most medium p))
      track_outside AssignAlternate is =
          own _ _ (λ ok.
          let fit : Fits p image = record { within = w p valid; long = fits p valid } in
          let r = assignable p _ b.address (alternate_of given) _ _ _ ok in
          let here = track_cleared (w p valid) (clear p valid (OnDisk (TrackWork AssignAlternate)) is) refl refl in
          alternated_outside low front b p (w p valid) image (fits p valid) _ _ buffer here (alternate_in p image fit b.address (alternate_of given) _ r)
          (λ keep. keepable p image fit b.address (alternate_of given) _ r here (missing_kept b p _ image keep r.none_missing)))

      sectors_outside : (command : SectorCommand) → (row_for b.opcode).command ≡ OnDisk (SectorWork command)
          → AfterIt (Some p) (do_sectors b p given entry buffer image command).image
      unfolding do_sectors read write transferred begun row_for opcode_for is_among check_number bytes_of size_in
      sectors_outside Read is = rw (read_image (count_of b) b.address p (begun image)) (outside_self low (Some p) image)
      sectors_outside Write is =
          let ours = clear p valid (OnDisk (SectorWork Write)) is in
          outside_less low _ 16 front _ _ (writes p (w p valid) (count_of b) b.address given (begun image) (fits p valid)
          (count_cleared (w p valid) ours refl refl) ours.enough).outside

      disk_outside : (command : DiskCommand) → (row_for b.opcode).command ≡ OnDisk command
          → AfterIt (Some p) (do_disk b p given entry buffer image command).image
      unfolding do_disk as_effect
      disk_outside (ArmWork command) is = outside_self low (Some p) image
      disk_outside (TrackWork command) is = track_outside command is
      disk_outside (SectorWork command) is = sectors_outside command is

    free_outside : (s : Setting) (command : FreeCommand) → AfterIt s (do_free b given entry buffer image command).image
    unfolding do_free
    free_outside s RequestSense = outside_self low s image
    free_outside s WriteBuffer = outside_self low s image
    free_outside s ReadBuffer = outside_self low s image
    free_outside s Initialize = outside_self low s image

    carried_outside : (s : Setting) → setting_in medium entry (length image) ≡ s → (command : Command) → (row_for b.opcode).command ≡ command
        → AfterIt s (carry_out b s given entry buffer image command).image
    unfolding carry_out
    carried_outside s e (Free command) is = free_outside s command
    carried_outside None e (OnDisk command) is = outside_self low None image
    carried_outside (Some p) e (OnDisk command) is = disk_outside p e command is
    carried_outside s e Unknown is = outside_self low s image
    carried_outside s e Copy is = outside_self low s image

-- ---- Any command, on any image
pub outside_kept : (b : Block) (given : List ℕ) (area : ℕ) (entry : Drive) (buffer image : List ℕ)
    → (low : ℕ) → low ≤ 16 → ((row_for b.opcode).command ≡ OnDisk (TrackWork FormatDrive) → low ≡ 0)
    → Outside low (setting_in (medium_of b.drive) entry (length image)) image (obey b given area entry buffer image).image
unfolding obey view_of
outside_kept b given area entry buffer image low front free =
    let s = setting_in (medium_of b.drive) entry (length image) in
    unless_left (λ (x : Effect). Outside low s image x.image) _ b.drive entry (λ e. effect e buffer [] image) _ (λ e. outside_self low s image)
    (λ passed. carried_outside b given area entry buffer image passed low front free s refl (row_for b.opcode).command refl)
