-- After Reset, and fresh: what a label gives is what the machine has stored.
use Prim.Native.Nat.{ℕ, ◌<◌}
use mathlib.Core.Path.{◌≡◌, refl, sym, ap, ◌∙◌}
use mathlib.Core.Bool.{true, false}
use mathlib.Core.Option.{Option, none, some}
use mathlib.Core.List.{List}
use lib.ListN.{length, replicate, length-replicate}
use Rattle.base.specs.Pick.{pick}
use Rattle.geometry.specs.declared.params.Params.{Params}
use Rattle.std.specs.Prelude.{Some, None}
use Rattle.geometry.specs.Medium.{medium_of}
use Rattle.geometry.specs.Config.{label_config, label_setting}
use Rattle.model.specs.declared.record.Controller.{Controller}
use Rattle.model.specs.Feed.{reset}
use Rattle.model.specs.Record.{blank_drive, drive_at}
use Rattle.model.specs.Engine.{image_of, loaded_by, loaded, fresh}
use Rattle.model.specs.Machine.{Disk, Machine, fresh_disk, fresh_machine, in_force, restored, step}
use Rattle.model.specs.Claim.{begin_machine}
use Rattle.model.proofs.engine.Assembled.{fresh_drive}
use Rattle.model.proofs.claim.Agrees.{Stored, nothing, something, Drives, InStep, Agrees}
use Rattle.model.proofs.claim.Current.{stored_forced}
use Rattle.model.specs.Block.{is_whole, block_length, is_copy}

-- ---- the drives that Reset makes
pub loaded_blank : (drive : ℕ) (image : List ℕ) → label_setting (medium_of drive) image ≡ None → loaded drive image ≡ blank_drive
unfolding loaded loaded_by
loaded_blank drive image e = rw e

pub loaded_known : (drive : ℕ) (image : List ℕ) (p : Params) → label_setting (medium_of drive) image ≡ Some p
    → loaded drive image ≡ record { sense = replicate 4 0; config = label_config image; known = true; pending = false }
unfolding loaded loaded_by
loaded_known drive image p e = rw e

-- what is stored comes into force, and senses are zero
module _ (drive : ℕ) (u : Disk) (image : List ℕ) (len : u.len ≡ length image) where
  from_stored : {o : Option (List ℕ)} → Stored (medium_of drive) u image o → u.stored ≡ o
      → (u.stored ≡ pick (loaded drive image).known (some (loaded drive image).config) none) × ((loaded drive image).pending ≡ false)
      × ((loaded drive image).sense ≡ replicate 4 0)
  unfolding pick blank_drive
  from_stored (nothing i) e = rw (loaded_blank drive image i) (e, refl, refl)
  from_stored (something config p s l i mirror) e = rw (loaded_known drive image p i) (e ∙ ap {B = Option (List ℕ)} some (sym l), refl, refl)

  pub drive_restored : Stored (medium_of drive) u image u.stored → Drives (medium_of drive) (loaded drive image) image (restored u)
  unfolding restored in_force
  drive_restored stored =
      let from = from_stored stored refl in
      record {
        len = len;
        force = from.0;
        pending = sym from.1;
        current = λ e. refl;
        stored = stored_forced (medium_of drive) u image u.stored false stored;
      }

  loaded_sense : Stored (medium_of drive) u image u.stored → (loaded drive image).sense ≡ replicate 4 0
  loaded_sense stored = (from_stored stored refl).2

-- ---- the whole controller
module _ (images : List (List ℕ)) (m : Machine) where
  reset_follows : ((d : ℕ) → d < 4 → (m.disks d).len ≡ length (image_of d images))
      → ((d : ℕ) → d < 4 → Stored (medium_of d) (m.disks d) (image_of d images) (m.disks d).stored)
      → Agrees (fresh images) (λ d. image_of d images) (step m reset).1
  unfolding step fresh is_whole block_length is_copy
  reset_follows len stored = record { four = refl; drives = drives }
    where
      drives : (d : ℕ) → d < 4 → InStep d (drive_at (fresh images) d) (replicate 512 0) (image_of d images) (step m reset).1
      drives d h =
          let zero-sense = loaded_sense d (m.disks d) (image_of d images) (len d h) (stored d h) in
          rw (fresh_drive images d h) (record {
            buffered = refl;
            whole = length-replicate {A = ℕ} 512 0;
            sense = zero-sense;
            four = ap length zero-sense;
            drive = drive_restored d (m.disks d) (image_of d images) (len d h) (stored d h);
          })

  pub agree_reset : (c : Controller) → Agrees c (λ d. image_of d images) m → Agrees (fresh images) (λ d. image_of d images) (step m reset).1
  agree_reset c agree = reset_follows (λ d h. (agree.drives d h).drive.len) (λ d h. (agree.drives d h).drive.stored)

-- a fresh machine is one after Reset
module _ (images : List (List ℕ)) (none-stored : (d : ℕ) → d < 4 → label_setting (medium_of d) (image_of d images) ≡ None) where
  pub agree_fresh : Agrees (fresh images) (λ d. image_of d images) (begin_machine images)
  unfolding begin_machine fresh_machine fresh_disk step restored in_force is_whole block_length is_copy
  agree_fresh = reset_follows images (begin_machine images) (λ d h. refl) (λ d h. nothing (none-stored d h))
