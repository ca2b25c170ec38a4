-- Parameters in force come from a configuration that is known.
use Prim.Native.Nat.{ℕ}
use mathlib.Core.Path.{◌≡◌, refl}
use mathlib.Core.Bool.{Bool, true, false}
use mathlib.Core.Option.{none, some}
use mathlib.Core.List.{List}
use native.Mathlib.Omega.{arith}
use Rattle.base.specs.Pick.{pick}
use Rattle.geometry.specs.declared.params.Params.{Params}
use Rattle.geometry.specs.declared.medium.Medium.{Medium}
use Rattle.geometry.specs.Config.{Setting}
use Rattle.std.specs.Prelude.{Some, None}
use Rattle.geometry.specs.Config.{setting_of}
use Rattle.model.specs.declared.record.Drive.{Drive}
use Rattle.model.specs.Record.{setting_in}

pub known_valid : (medium : Medium) (known : Bool) (config : List ℕ) (len : ℕ) (p : Params)
    → pick known (setting_of medium config len) None ≡ Some p
    → (pick known (some config) none ≡ some config) × (setting_of medium config len ≡ Some p)
unfolding pick
known_valid medium true config len p e = (refl, e)
known_valid medium false config len p e = absurd (let z : ◌≡◌ {A = ℕ} 0 1 = cc in omega arith)

known_true : (known : Bool) (s : Setting) (p : Params) → pick known s None ≡ Some p → known ≡ true
unfolding pick
known_true true s p e = refl
known_true false s p e = absurd (let z : ◌≡◌ {A = ℕ} 0 1 = cc in omega arith)

pub setting_has : (medium : Medium) (entry : Drive) (image : ℕ) (p : Params) → setting_in medium entry image ≡ Some p → entry.known ≡ true
unfolding setting_in
setting_has medium entry image p e = known_true entry.known _ p e

pub setting_known : (medium : Medium) (entry : Drive) (image : ℕ) (p : Params) → setting_in medium entry image ≡ Some p
    → setting_of medium entry.config image ≡ Some p
unfolding setting_in
setting_known medium entry image p e = (known_valid medium entry.known entry.config image p e).1
