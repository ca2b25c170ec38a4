-- Labels and parameters, in any list from a fresh controller.
use mathlib.Core.Path.{◌≡◌, sym, ◌∙◌}
use mathlib.Core.Bool.{true, false, not}
use mathlib.Core.List.{List}
use Prim.Native.Nat.{ℕ}
use Rattle.base.proofs.Bools.{not-false}
use Rattle.geometry.specs.Medium.{medium_of}
use Rattle.geometry.specs.Config.{label_holds}
use Rattle.model.specs.declared.record.Drive.{Drive}
use Rattle.model.specs.Record.{drive_at}
use Rattle.model.specs.Engine.{image_of}
use Rattle.model.specs.Claim.{System, Call, engine_at_end, begin}
use Rattle.model.proofs.readers.PendingCalls.{from_fresh}

-- On any images, each call lent the controller and images that the call before left: parameters are pending exactly where the label does not hold them
module _ (images : List (List ℕ)) (calls : List Call) (drive : ℕ) where
  abbrev at_last : System
  at_last = engine_at_end (begin images) calls

  abbrev entry : Drive
  entry = drive_at at_last.controller drive

  abbrev image : List ℕ
  image = image_of drive at_last.images

  pub pending_labels : entry.known ≡ true → entry.pending ≡ not (label_holds (medium_of drive) image entry.config)
  pending_labels known = (from_fresh images calls).drives drive known

  -- so a drive whose parameters are in force and not pending has those that its label holds
  pub settled_labels : entry.known ≡ true → entry.pending ≡ false → label_holds (medium_of drive) image entry.config ≡ true
  settled_labels known calm = not-false _ (sym (pending_labels known) ∙ calm)
