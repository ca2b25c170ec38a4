-- What engine and plain machine have in common between two calls, and what a command keeps of it.
use Prim.Native.Nat.{ℕ, ◌<◌}
use mathlib.Core.Path.{◌≡◌}
use mathlib.Core.Bool.{false}
use mathlib.Core.Option.{Option, none, some}
use mathlib.Core.List.{List}
use lib.ListN.{length}
use Rattle.base.specs.Pick.{pick}
use Rattle.base.specs.Part.{splice}
use Rattle.geometry.specs.declared.params.Params.{Params}
use Rattle.geometry.specs.declared.medium.Medium.{Medium}
use Rattle.std.specs.Prelude.{Some, None}
use Rattle.geometry.specs.Medium.{medium_of}
use Rattle.geometry.specs.Config.{setting_of, label_config, label_setting}
use Rattle.model.specs.declared.record.Drive.{Drive}
use Rattle.model.specs.declared.record.Controller.{Controller}
use Rattle.model.specs.Feed.{Reply}
use Rattle.model.specs.Record.{drive_at, Effect}
use Rattle.model.specs.Engine.{image_of}
use Rattle.model.specs.Machine.{Disk, Machine}
use Rattle.model.specs.Claim.{System, reply_of}
use Rattle.model.proofs.claim.Mirrors.{Mirrors}

-- The stored configuration is the label's, and the image mirrors the machine under it; none is stored where the label is not valid.
pub data Stored (medium : Medium) (u : Disk) (image : List ℕ) : Option (List ℕ) → Type 0 where
  nothing : label_setting medium image ≡ None → Stored medium u image none
  something : (config : List ℕ) (p : Params) → setting_of medium config (length image) ≡ Some p → label_config image ≡ config
      → label_setting medium image ≡ Some p → Mirrors p u.kind u.inter u.held image → Stored medium u image (some config)

-- One drive, but for its sense.
pub record Drives (medium : Medium) (entry : Drive) (image : List ℕ) (u : Disk) : Type 0 where
  pub len : u.len ≡ length image
  pub force : u.force ≡ pick entry.known (some entry.config) none
  pub pending : u.pending ≡ entry.pending
  -- what is in force and not pending is what is stored
  pub current : u.pending ≡ false → u.force ≡ u.stored
  pub stored : Stored medium u image u.stored

-- The buffer and one drive: all that a command sees.
pub record InStep (d : ℕ) (entry : Drive) (buffer image : List ℕ) (m : Machine) : Type 0 where
  pub buffered : buffer ≡ m.buffer
  pub whole : length buffer ≡ 512
  pub sense : entry.sense ≡ m.senses d
  pub four : length entry.sense ≡ 4
  pub drive : Drives (medium_of d) entry image (m.disks d)

-- Every drive.
pub record Agrees (c : Controller) (image : ℕ → List ℕ) (m : Machine) : Type 0 where
  pub four : length c.drives ≡ 4
  pub drives : (d : ℕ) → d < 4 → InStep d (drive_at c d) c.buffer (image d) m

-- What a command of drive d leaves in the engine and in the machine, which was m.
pub record Follows (d : ℕ) (area image : List ℕ) (m : Machine) (e : Effect) (x : Reply × Machine) : Type 0 where
  pub reply : reply_of e.ending.answer (splice 0 e.handed area) ≡ x.0
  pub alike : InStep d e.ending.entry e.buffer e.image x.1
  -- the machine's other drives stay
  pub others : (j : ℕ) → (j ≡ d → ⊥) → (x.1.senses j ≡ m.senses j) × (x.1.disks j ≡ m.disks j)
  pub len : length e.image ≡ length image

-- What a call leaves in the engine and in the machine: they reply alike, and agree.
pub record Answered (y : Reply × System) (x : Reply × Machine) : Type 0 where
  pub same : y.0 ≡ x.0
  pub agree : Agrees y.1.controller (λ d. image_of d y.1.images) x.1
