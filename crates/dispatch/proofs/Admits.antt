-- What passed checks give to each command: what its function asks for.
use Prim.Native.Nat.{ℕ, ◌*◌, ◌≤◌}
use mathlib.Core.Path.{◌≡◌, refl, ap, subst, ◌∙◌}
use mathlib.Core.List.{List}
use native.Mathlib.Omega.{arith}
use lib.ListN.{length}
use Rattle.geometry.specs.declared.params.Params.{Params}
use Rattle.geometry.specs.Config.{Setting}
use Rattle.std.specs.Prelude.{Some}
use Rattle.geometry.specs.Medium.{medium_of}
use Rattle.geometry.proofs.Settings.{setting_within}
use Rattle.track.specs.Image.{Fits}
use Rattle.model.specs.declared.block.Block.{Block}
use Rattle.model.specs.declared.table.Command.{Command}
use Rattle.model.specs.declared.table.Command.TheVariants.{Free, OnDisk}
use Rattle.model.specs.declared.table.FreeCommand.{FreeCommand}
use Rattle.model.specs.declared.table.FreeCommand.TheVariants.{RequestSense, WriteBuffer, ReadBuffer, Initialize}
use Rattle.model.specs.declared.table.DiskCommand.{DiskCommand}
use Rattle.model.specs.declared.table.DiskCommand.TheVariants.{TrackWork, SectorWork}
use Rattle.model.specs.declared.table.TrackCommand.{TrackCommand}
use Rattle.model.specs.declared.table.TrackCommand.TheVariants.{FormatDrive, CheckTrack, FormatTrack, FormatBadTrack, AssignAlternate}
use Rattle.model.specs.declared.table.SectorCommand.{SectorCommand}
use Rattle.model.specs.declared.table.SectorCommand.TheVariants.{Read, Write}
use Rattle.model.specs.declared.record.Drive.{Drive}
use Rattle.model.specs.Block.{count_of}
use Rattle.model.specs.Table.{check_number, is_among, TableRow, row_for}
use Rattle.model.specs.Checks.{size_in, bytes_of}
use Rattle.model.specs.Record.{setting_in}
use Rattle.model.specs.Engine.{view_of}
use Rattle.model.specs.Premises.{OnTrack}
use Rattle.model.proofs.engine.Checked.{opcode_for, row_of, Cleared, cleared, given_enough, area_enough, interleave_in, track_cleared, count_cleared}
use Rattle.model.proofs.engine.Known.{setting_known}
use Rattle.dispatch.specs.Ready.{Admitted, FreeReady, TrackReady, SectorReady}

-- the row of a command, by an opcode that has it
row : (b : Block) (command : Command) → (row_for b.opcode).command ≡ command → row_for b.opcode ≡ row_for (opcode_for command)
row b command is = row_of b.opcode ∙ ap (λ (k : Command). row_for (opcode_for k)) is

-- ---- the same command by its name
pub free_as : (command k : FreeCommand) (given area : ℕ) → command ≡ k → FreeReady command given area → FreeReady k given area
free_as command k given area is ready = subst (λ (x : FreeCommand). FreeReady x given area) is ready

pub track_as : (command k : TrackCommand) (given : ℕ) → command ≡ k → TrackReady command given → TrackReady k given
track_as command k given is ready = subst (λ (x : TrackCommand). TrackReady x given) is ready

pub sector_as : (command k : SectorCommand) (b : Block) (p : Params) (image : List ℕ) (given area : ℕ) → command ≡ k
    → SectorReady command b p image given area → SectorReady k b p image given area
sector_as command k b p image given area is ready = subst (λ (x : SectorCommand). SectorReady x b p image given area) is ready

-- ---- lengths of data
module _ {b : Block} {entry : Drive} {given area image : ℕ} (ok : Admitted b entry given area image) where
  takes : (command : Command) → (row_for b.opcode).command ≡ command
      → bytes_of (row_for (opcode_for command)).takes b (setting_in (medium_of b.drive) entry image) ≤ given
  unfolding view_of
  takes command is =
      subst (λ (e : TableRow). bytes_of e.takes b (setting_in (medium_of b.drive) entry image) ≤ given) (row b command is)
      (given_enough b (view_of (medium_of b.drive) entry image) given area ok.passed)

  gives : (command : Command) → (row_for b.opcode).command ≡ command
      → bytes_of (row_for (opcode_for command)).gives b (setting_in (medium_of b.drive) entry image) ≤ area
  unfolding view_of
  gives command is =
      subst (λ (e : TableRow). bytes_of e.gives b (setting_in (medium_of b.drive) entry image) ≤ area) (row b command is)
      (area_enough b (view_of (medium_of b.drive) entry image) given area ok.passed)

  pub free_admits : (command : FreeCommand) → (row_for b.opcode).command ≡ Free command → FreeReady command given area
  unfolding FreeReady row_for opcode_for bytes_of
  free_admits RequestSense is = gives (Free RequestSense) is
  free_admits WriteBuffer is = takes (Free WriteBuffer) is
  free_admits ReadBuffer is = gives (Free ReadBuffer) is
  free_admits Initialize is = takes (Free Initialize) is

-- ---- parameters in force
module _ {b : Block} {entry : Drive} {given area : ℕ} (image : List ℕ) {p : Params} (ok : Admitted b entry given area (length image))
    (valid : setting_in (medium_of b.drive) entry (length image) ≡ Some p) where
  fits : Fits p image
  fits =
      let medium = medium_of b.drive in
      let w = setting_within medium entry.config (length image) p (setting_known medium entry (length image) p valid) in
      record { within = w.0; long = w.1 }

  clear : (command : DiskCommand) → (row_for b.opcode).command ≡ OnDisk command
      → Cleared (row_for (opcode_for (OnDisk command))) b p entry.pending given
  unfolding view_of
  clear command is =
      subst (λ (e : TableRow). Cleared e b p entry.pending given) (row b (OnDisk command) is)
      (cleared b (view_of (medium_of b.drive) entry (length image)) given area ok.passed p valid)

  -- every track command has the checks of address and interleave, and no count
  pub track_admits : (command : TrackCommand) → (row_for b.opcode).command ≡ OnDisk (TrackWork command) → OnTrack b p image × TrackReady command given
  unfolding TrackReady row_for opcode_for is_among check_number bytes_of
  track_admits FormatDrive is =
      let c = clear (TrackWork FormatDrive) is in
      let w = fits.within in
      (record { fits = fits; block = ok.block; track = track_cleared w c refl refl; interleave = (interleave_in w c refl).1 }, omega arith)
  track_admits CheckTrack is =
      let c = clear (TrackWork CheckTrack) is in
      let w = fits.within in
      (record { fits = fits; block = ok.block; track = track_cleared w c refl refl; interleave = (interleave_in w c refl).1 }, omega arith)
  track_admits FormatTrack is =
      let c = clear (TrackWork FormatTrack) is in
      let w = fits.within in
      (record { fits = fits; block = ok.block; track = track_cleared w c refl refl; interleave = (interleave_in w c refl).1 }, omega arith)
  track_admits FormatBadTrack is =
      let c = clear (TrackWork FormatBadTrack) is in
      let w = fits.within in
      (record { fits = fits; block = ok.block; track = track_cleared w c refl refl; interleave = (interleave_in w c refl).1 }, omega arith)
  track_admits AssignAlternate is =
      let c = clear (TrackWork AssignAlternate) is in
      let w = fits.within in (
        record { fits = fits; block = ok.block; track = track_cleared w c refl refl; interleave = (interleave_in w c refl).1 },
        takes ok (OnDisk (TrackWork AssignAlternate)) is,
      )

  -- a command on as many sectors as its count says
  room : (len : ℕ) → count_of b * size_in (setting_in (medium_of b.drive) entry (length image)) ≤ len → count_of b * p.size ≤ len
  unfolding size_in
  room len h = subst (λ (s : Setting). count_of b * size_in s ≤ len) valid h

  pub sector_admits : (command : SectorCommand) → (row_for b.opcode).command ≡ OnDisk (SectorWork command) → SectorReady command b p image given area
  unfolding SectorReady row_for opcode_for is_among check_number bytes_of
  sector_admits Read is = record {
    fits = fits;
    block = ok.block;
    inside = count_cleared fits.within (clear (SectorWork Read) is) refl refl;
    enough = room area (gives ok (OnDisk (SectorWork Read)) is);
  }
  sector_admits Write is = record {
    fits = fits;
    block = ok.block;
    inside = count_cleared fits.within (clear (SectorWork Write) is) refl refl;
    enough = room given (takes ok (OnDisk (SectorWork Write)) is);
  }
