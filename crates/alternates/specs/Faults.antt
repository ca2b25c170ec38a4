-- What the code says of a pair of tracks, as a verdict: a code and the address that goes with it.
use Rattle.std.specs.Prelude.{Result, Ok, Err}
use Rattle.codes.specs.declared.Code.{Code}
use Rattle.codes.specs.Numbers.{number_of}
use Rattle.geometry.specs.declared.params.Lba.{Lba}
use Rattle.model.specs.Verdicts.{Verdict, Faulty, Passed}

abbrev pub fault_verdict : {T : Type 0} → Result T (Code × Lba) → Verdict
fault_verdict (Ok x) = Passed
fault_verdict (Err fault) = Faulty (number_of fault.0) fault.1
