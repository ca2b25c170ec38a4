-- Parameters, where there are any, are within their ranges.
use Rattle.std.specs.Prelude.{◌≤◌, ◌≡◌, Some}
use Rattle.geometry.specs.declared.params.Params.{Params}
use Rattle.geometry.specs.Config.{Setting}
use Rattle.geometry.specs.Params.{Within}

abbrev pub Legal : Setting → Type 0
Legal setting = (p : Params) → setting ≡ Some p → Within p

-- No sector is shorter than a floppy's, so that a Copy fills at most 1,024.
abbrev pub AtLeast128 : Setting → Type 0
AtLeast128 setting = (p : Params) → setting ≡ Some p → 128 ≤ p.size
