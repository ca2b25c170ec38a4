-- A command that does not use the buffer leaves the same with any buffer, but for the buffer itself.
use Prim.Native.Nat.{ℕ, ◌≤◌, ◌/◌, ◌%◌}
use mathlib.Core.Path.{◌≡◌, refl, ◌∙◌}
use mathlib.Core.Bool.{Bool, true, false, ◌&&◌, ◌||◌, true≢false}
use mathlib.Core.List.{List, []}
use lib.ListN.{length}
use native.Mathlib.Omega.{arith}
use lib.Dec.{eqb}
use borrow.Author.Tests.{ne_eqb}
use Rattle.base.specs.Pick.{pick}
use Rattle.geometry.specs.declared.params.Params.{Params}
use Rattle.geometry.specs.Config.{Setting}
use Rattle.std.specs.Prelude.{Some, None}
use Rattle.geometry.specs.Medium.{medium_of}
use Rattle.model.specs.declared.block.Block.{Block}
use Rattle.model.specs.declared.table.Command.{Command}
use Rattle.model.specs.declared.table.Command.TheVariants.{Free, OnDisk, Copy, Unknown}
use Rattle.model.specs.declared.table.FreeCommand.{FreeCommand}
use Rattle.model.specs.declared.table.FreeCommand.TheVariants.{RequestSense, WriteBuffer, ReadBuffer, Initialize}
use Rattle.model.specs.declared.table.DiskCommand.{DiskCommand}
use Rattle.model.specs.declared.table.DiskCommand.TheVariants.{ArmWork, TrackWork, SectorWork}
use Rattle.model.specs.declared.table.TrackCommand.{TrackCommand}
use Rattle.model.specs.declared.table.TrackCommand.TheVariants.{FormatDrive, CheckTrack, FormatTrack, FormatBadTrack, AssignAlternate}
use Rattle.model.specs.declared.table.SectorCommand.{SectorCommand}
use Rattle.model.specs.declared.table.SectorCommand.TheVariants.{Read, Write}
use Rattle.model.specs.declared.record.Drive.{Drive}
use Rattle.model.specs.declared.record.Ending.{Ending}
use Rattle.model.specs.Verdicts.{Verdict}
use Rattle.model.specs.Verdicts.{Refused, Faulty, Passed}
use Rattle.model.specs.Block.{block_of, from_buffer}
use Rattle.model.specs.Table.{table, unknown, row_for}
use Rattle.model.specs.Record.{unless, unless_named, Effect, effect, Made}
use Rattle.model.specs.Commands.{fill_of, format_drive, alternated, assign_alternate, transferred, read, write, do_free, do_track, do_sectors, as_effect, do_disk, carry_out}
use Rattle.model.specs.Engine.{view_of, obey}
use Rattle.model.specs.Separation.{uses_buffer}
use Rattle.model.proofs.engine.Rows.{none, also, each_row}

-- ---- Which commands use it, where control bit 5 is this
unfoldable track_uses : (bit : Bool) → TrackCommand → Bool
track_uses bit FormatDrive = bit
track_uses bit CheckTrack = false
track_uses bit FormatTrack = bit
track_uses bit FormatBadTrack = false
track_uses bit AssignAlternate = bit

unfoldable free_uses : FreeCommand → Bool
free_uses RequestSense = false
free_uses WriteBuffer = false
free_uses ReadBuffer = true
free_uses Initialize = false

unfoldable uses : (bit : Bool) → Command → Bool
uses bit (Free command) = free_uses command
uses bit (OnDisk (ArmWork command)) = false
uses bit (OnDisk (TrackWork command)) = track_uses bit command
uses bit (OnDisk (SectorWork command)) = false
uses bit Unknown = false
uses bit Copy = false

-- the opcodes that the statement names are theirs
abbrev opcode_uses : (bit : Bool) → (opcode : ℕ) → Bool
opcode_uses bit opcode = eqb opcode 0x10 || ((eqb opcode 0x04 || (eqb opcode 0x06 || eqb opcode 0x0E)) && bit)

past_uses : (bit : Bool) (n : ℕ) → 33 ≤ n → false ≡ opcode_uses bit n
past_uses bit n l =
    rw (ne_eqb n 0x10 (λ e. omega arith), ne_eqb n 0x04 (λ e. omega arith), ne_eqb n 0x06 (λ e. omega arith), ne_eqb n 0x0E (λ e. omega arith)) refl

row_uses : (bit : Bool) (opcode : ℕ) → uses bit (row_for opcode).command ≡ opcode_uses bit opcode
unfolding row_for uses free_uses track_uses
row_uses bit opcode =
    each_row (λ n e. uses bit e.command ≡ opcode_uses bit n) table unknown
    (also refl (also refl (also refl (also refl (also refl (also refl (also refl (also refl (also refl
    (also refl (also refl (also refl (also refl (also refl (also refl (also refl (also refl (also refl
    (also refl (also refl (also refl (also refl (also refl (also refl (also refl (also refl (also refl
    (also refl (also refl (also refl (also refl (also refl (also refl none))))))))))))))))))))))))))))))))) (past_uses bit) opcode

-- ---- What it leaves
-- all but the buffer is the same
pub record SameBut (e f : Effect) : Type 0 where
  pub ending : e.ending ≡ f.ending
  pub handed : e.handed ≡ f.handed
  pub image : e.image ≡ f.image

kept : (ending : Ending) (x y handed image : List ℕ) → SameBut (effect ending x handed image) (effect ending y handed image)
kept ending x y handed image = record { ending = refl; handed = refl; image = refl }

made_same : (x y : List ℕ) (m n : Made) → m ≡ n → SameBut (as_effect x m) (as_effect y n)
unfolding as_effect
made_same x y m n e = rw e (record { ending = refl; handed = refl; image = refl })

module _ (b : Block) (given : List ℕ) (entry : Drive) (x y image : List ℕ) where
  abbrev bit : Bool
  bit = eqb (b.control / 32 % 2) 1

  -- without bit 5 the fill is the plain one
  fill_same : bit ≡ false → (p : Params) → fill_of b p x ≡ fill_of b p y
  unfolding fill_of from_buffer pick
  fill_same off p = rw off refl

  free_same : (command : FreeCommand) → free_uses command ≡ false → SameBut (do_free b given entry x image command) (do_free b given entry y image command)
  unfolding do_free free_uses
  free_same RequestSense off = kept _ _ _ _ _
  free_same WriteBuffer off = kept _ _ _ _ _
  free_same ReadBuffer off = absurd (true≢false off)
  free_same Initialize off = kept _ _ _ _ _

  module _ (p : Params) where
    track_same : (command : TrackCommand) → track_uses bit command ≡ false → do_track b p x given entry image command ≡ do_track b p y given entry image command
    unfolding do_track track_uses format_drive assign_alternate alternated
    track_same FormatDrive off = rw (fill_same off p) refl
    track_same CheckTrack off = refl
    track_same FormatTrack off = rw (fill_same off p) refl
    track_same FormatBadTrack off = refl
    track_same AssignAlternate off = rw (fill_same off p) refl

    sectors_same : (command : SectorCommand) → SameBut (do_sectors b p given entry x image command) (do_sectors b p given entry y image command)
    unfolding do_sectors read write transferred
    sectors_same Read = kept _ _ _ _ _
    sectors_same Write = kept _ _ _ _ _

    disk_same : (command : DiskCommand) → uses bit (OnDisk command) ≡ false → SameBut (do_disk b p given entry x image command) (do_disk b p given entry y image command)
    unfolding do_disk uses
    disk_same (ArmWork command) off = kept _ _ _ _ _
    disk_same (TrackWork command) off = made_same x y _ _ (track_same command off)
    disk_same (SectorWork command) off = sectors_same command

  carried_same : (setting : Setting) (command : Command) → uses bit command ≡ false
      → SameBut (carry_out b setting given entry x image command) (carry_out b setting given entry y image command)
  unfolding carry_out uses
  carried_same setting (Free command) off = free_same command off
  carried_same None (OnDisk command) off = kept _ _ _ _ _
  carried_same (Some p) (OnDisk command) off = disk_same p command off
  carried_same setting Unknown off = kept _ _ _ _ _
  carried_same setting Copy off = kept _ _ _ _ _

  unless_same : (verdict : Verdict) (drive : ℕ) (e f : Effect) → SameBut e f
      → SameBut (unless verdict drive entry (λ k. effect k x [] image) e) (unless verdict drive entry (λ k. effect k y [] image) f)
  unfolding unless_named
  unless_same (Refused number) drive e f same = kept _ _ _ _ _
  unless_same (Faulty code at) drive e f same = kept _ _ _ _ _
  unless_same Passed drive e f same = same

-- For every command: the order of checks does not see the buffer either.
pub obey_unbuffered : (block given : List ℕ) (area : ℕ) (entry : Drive) (x y image : List ℕ) → uses_buffer block ≡ false
    → SameBut (obey (block_of block) given area entry x image) (obey (block_of block) given area entry y image)
unfolding obey uses_buffer block_of
obey_unbuffered block given area entry x y image off =
    let b = block_of block in
    let view = view_of (medium_of b.drive) entry (length image) in
    unless_same b given entry x y image _ b.drive _ _
    (carried_same b given entry x y image view.setting (row_for b.opcode).command (row_uses (eqb (b.control / 32 % 2) 1) b.opcode ∙ off))
