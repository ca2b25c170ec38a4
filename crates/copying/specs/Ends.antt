-- What ended a copy: nothing, a source or a destination sector that is not found, or a last sector completed with zeros.
use Rattle.std.specs.Prelude.{ℕ, Option, Some, None}
use Rattle.codes.specs.Numbers.{number_of}
use Rattle.copying.specs.declared.route.CopyFault.{CopyFault}
use Rattle.copying.specs.declared.route.CopyFault.TheVariants.{AtSource, AtTarget, PartlyFilled}

pub data End : Type 0 where
  Going : End
  SourceFault : ℕ → End
  TargetFault : ℕ → End
  Short : End

-- What the code says, in these terms.
abbrev pub fault_end : CopyFault → End
fault_end (AtSource code) = SourceFault (number_of code)
fault_end (AtTarget code) = TargetFault (number_of code)
fault_end PartlyFilled = Short

abbrev pub as_end : Option CopyFault → End
as_end None = Going
as_end (Some fault) = fault_end fault
