-- What the checks have shown of a command: what its function asks for.
use Rattle.std.specs.Prelude.{ℕ, ◌≤◌, ◌≡◌, List}
use Rattle.geometry.specs.declared.params.Params.{Params}
use Rattle.geometry.specs.Medium.{medium_of}
use Rattle.model.specs.declared.block.Block.{Block}
use Rattle.model.specs.declared.table.FreeCommand.{FreeCommand}
use Rattle.model.specs.declared.table.FreeCommand.TheVariants.{RequestSense, WriteBuffer, ReadBuffer, Initialize}
use Rattle.model.specs.declared.table.TrackCommand.{TrackCommand}
use Rattle.model.specs.declared.table.TrackCommand.TheVariants.{FormatDrive, CheckTrack, FormatTrack, FormatBadTrack, AssignAlternate}
use Rattle.model.specs.declared.table.SectorCommand.{SectorCommand}
use Rattle.model.specs.declared.table.SectorCommand.TheVariants.{Read, Write}
use Rattle.model.specs.declared.record.Drive.{Drive}
use Rattle.model.specs.Verdicts.{Passed}
use Rattle.model.specs.Checks.{judge}
use Rattle.model.specs.Engine.{view_of}
use Rattle.model.specs.Premises.{WellFormed, OnSectors}

-- The order of checks has let the command pass.
pub record Admitted (b : Block) (entry : Drive) (given area image : ℕ) : Type 0 where
  pub block : WellFormed b
  pub passed : judge b (view_of (medium_of b.drive) entry image) given area ≡ Passed

-- Its data is there, and room for what it hands over; a command that takes none has enough of any.
unfoldable pub FreeReady : FreeCommand → (given area : ℕ) → Type 0
FreeReady RequestSense given area = 4 ≤ area
FreeReady WriteBuffer given area = 512 ≤ given
FreeReady ReadBuffer given area = 512 ≤ area
FreeReady Initialize given area = 10 ≤ given

unfoldable pub TrackReady : TrackCommand → (given : ℕ) → Type 0
TrackReady FormatDrive given = 0 ≤ given
TrackReady CheckTrack given = 0 ≤ given
TrackReady FormatTrack given = 0 ≤ given
TrackReady FormatBadTrack given = 0 ≤ given
TrackReady AssignAlternate given = 3 ≤ given

unfoldable pub SectorReady : SectorCommand → Block → Params → (image : List ℕ) → (given area : ℕ) → Type 0
SectorReady Read b p image given area = OnSectors b p image area
SectorReady Write b p image given area = OnSectors b p image given
