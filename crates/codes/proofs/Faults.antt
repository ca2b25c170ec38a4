-- A code is not 0 and below 80h, so that a fault is told from its number.
use mathlib.Core.Path.{◌≡◌, refl}
use mathlib.Core.Bool.{true, false}
use Prim.Native.Nat.{◌<◌}
use native.Mathlib.Omega.{arith}
use Rattle.std.specs.Prelude.{Option, Some, None, is_some}
use Rattle.codes.specs.declared.Code.{Code}
use Rattle.codes.specs.declared.Code.TheVariants.{Absent, NoParameters, UnknownFlag, NoId, NoSector, OtherTrack, Pending, BadTrack, OtherIds, Taken, Paired, NoPartner, UnfitAlternate, UnknownCommand, PastEnd, NotValid, PartlyFilled}
use Rattle.codes.specs.Numbers.{number_of, code_number}

pub number_range : (code : Code) → (0 < number_of code) × (number_of code < 0x80)
number_range Absent = (omega arith, omega arith)
number_range NoParameters = (omega arith, omega arith)
number_range UnknownFlag = (omega arith, omega arith)
number_range NoId = (omega arith, omega arith)
number_range NoSector = (omega arith, omega arith)
number_range OtherTrack = (omega arith, omega arith)
number_range Pending = (omega arith, omega arith)
number_range BadTrack = (omega arith, omega arith)
number_range OtherIds = (omega arith, omega arith)
number_range Taken = (omega arith, omega arith)
number_range Paired = (omega arith, omega arith)
number_range NoPartner = (omega arith, omega arith)
number_range UnfitAlternate = (omega arith, omega arith)
number_range UnknownCommand = (omega arith, omega arith)
number_range PastEnd = (omega arith, omega arith)
number_range NotValid = (omega arith, omega arith)
number_range PartlyFilled = (omega arith, omega arith)

pub code_some : (code : Code) → number_of code ≡ 0 → ⊥
code_some code z = omega (arith, (number_range code).0)

pub fault_none : (fault : Option Code) → is_some fault ≡ false → fault ≡ None
fault_none None e = refl
fault_none (Some code) e = cc

pub fault_some : (fault : Option Code) → is_some fault ≡ true → code_number fault ≡ 0 → ⊥
fault_some None e z = cc
fault_some (Some code) e z = omega (arith, (number_range code).0)

-- where its number is 0 there is none
pub number_none : (fault : Option Code) → code_number fault ≡ 0 → fault ≡ None
number_none None z = refl
number_none (Some code) z = absurd (omega (arith, (number_range code).0))
