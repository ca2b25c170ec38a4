-- What Initialize leaves, by whether the label holds its bytes and by whether others may come in.
use mathlib.Core.Path.{◌≡◌}
use mathlib.Core.Bool.{Bool, true, false, not, ◌&&◌, ◌||◌}
use mathlib.Core.List.{List}
use Prim.Native.Nat.{ℕ}
use lib.ListN.{length}
use Rattle.base.specs.Pick.{pick}
use Rattle.base.specs.Part.{part}
use Rattle.base.proofs.Bools.{test_on, test_off}
use Rattle.geometry.specs.declared.medium.Medium.{Medium}
use Rattle.geometry.specs.Config.{Setting, setting_of, is_valid, label_holds, precompensation_in}
use Rattle.std.specs.Prelude.{is_some}
use Rattle.geometry.specs.Medium.{medium_of}
use Rattle.geometry.proofs.Settings.{valid_some}
use Rattle.model.specs.declared.block.Block.{Block}
use Rattle.model.specs.declared.record.Drive.{Drive}
use Rattle.model.specs.declared.record.Ending.{Ending}
use Rattle.model.specs.Record.{failed, good}
use Rattle.model.specs.Commands.{initialized, initialized_by, initialize}

-- ---- Whether bytes that no label holds may come in
module _ (medium : Medium) (config : List ℕ) (image : ℕ) (setting : Setting) (is : setting ≡ setting_of medium config image) {valid : Bool}
    (by : valid ≡ is_some setting) where
  pub enter_invalid : valid ≡ false → valid ≡ (is_valid (setting_of medium config image) && precompensation_in medium config)
  enter_invalid e = rw (← is, ← valid_some setting, ← by, e)

  pub enter_valid : valid ≡ true → (bound : Bool) → bound ≡ precompensation_in medium config
      → bound ≡ (is_valid (setting_of medium config image) && precompensation_in medium config)
  enter_valid e bound eb = rw (← is, ← valid_some setting, ← by, e, eb)

-- ---- What is left
module _ (b : Block) (given : List ℕ) (entry : Drive) (image config : List ℕ) (medium : Medium) (held fits taken : Bool) (r : Ending)
    (ten : config ≡ part 0 10 given) (of : medium ≡ medium_of b.drive) (label : held ≡ label_holds medium image config)
    (may : fits ≡ (is_valid (setting_of medium config (length image)) && precompensation_in medium config)) (is : taken ≡ (held || fits)) where
  pub initialize_failed : not taken ≡ true → r ≡ failed b.drive b.drive 0x22 b.address 0 0 entry → r ≡ initialize b given entry image
  unfolding initialize initialized_by pick
  initialize_failed e o = rw (o, ← ten, ← of, ← label, ← may, test_off taken (held || fits) is e)

  pub initialize_taken : not taken ≡ false → r ≡ good b.drive 0 0 (record { sense = entry.sense; config = config; known = true; pending = not held })
      → r ≡ initialize b given entry image
  unfolding initialize initialized_by initialized pick
  initialize_taken e o = rw (o, ← ten, ← of, ← label, ← may, test_on taken (held || fits) is e)
