-- What Reset loads of an image's label.
use mathlib.Core.Path.{◌≡◌}
use mathlib.Core.Bool.{true}
use mathlib.Core.List.{List}
use Prim.Native.Nat.{ℕ}
use Rattle.geometry.specs.declared.params.Params.{Params}
use Rattle.geometry.specs.declared.medium.Medium.{Medium}
use Rattle.geometry.specs.Config.{Setting, label_config, label_setting}
use Rattle.std.specs.Prelude.{Some, None}
use Rattle.geometry.specs.Medium.{medium_of}
use Rattle.model.specs.declared.record.Drive.{Drive}
use Rattle.model.specs.Record.{blank_drive}
use Rattle.model.specs.Engine.{loaded_by, loaded}

module _ (drive : ℕ) (image : List ℕ) (medium : Medium) (setting : Setting) (of : medium ≡ medium_of drive) (is : setting ≡ label_setting medium image) where
  pub load_invalid : setting ≡ None → blank_drive ≡ loaded drive image
  unfolding loaded loaded_by
  load_invalid e = rw (← of, ← is, e)

  pub load_valid : (p : Params) → setting ≡ Some p → (config : List ℕ) → config ≡ label_config image → (blank : Drive) → blank ≡ blank_drive
      → ◌≡◌ {A = Drive} (record { sense = blank.sense; config = config; known = true; pending = blank.pending }) (loaded drive image)
  unfolding loaded loaded_by blank_drive
  load_valid p e config h blank k = rw (← of, ← is, e, h, k)
