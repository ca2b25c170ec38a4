-- The codes of document 01, 'Tracks and slots', 'Commands' and 'Order of checks', and of request E5, by their numbers.
use Rattle.std.specs.Prelude.{Bool, true, false, Result, Ok, Err, ℕ, Option, Some, None}
use Rattle.codes.specs.declared.Code.{Code}
use Rattle.codes.specs.declared.Refusal.{Refusal}
use Rattle.codes.specs.declared.Refusal.TheVariants.{Block, Given, Area}
use Rattle.codes.specs.declared.Code.TheVariants.{Absent, NoParameters, UnknownFlag, NoId, NoSector, OtherTrack, Pending, BadTrack, OtherIds, Taken, Paired, NoPartner, UnfitAlternate, UnknownCommand, PastEnd, NotValid, PartlyFilled}

abbrev pub number_of : Code → ℕ
number_of Absent = 0x04
number_of NoParameters = 0x0A
number_of UnknownFlag = 0x10
number_of NoId = 0x12
number_of NoSector = 0x14
number_of OtherTrack = 0x15
number_of Pending = 0x16
number_of BadTrack = 0x19
number_of OtherIds = 0x1A
number_of Taken = 0x1C
number_of Paired = 0x1D
number_of NoPartner = 0x1E
number_of UnfitAlternate = 0x1F
number_of UnknownCommand = 0x20
number_of PastEnd = 0x21
number_of NotValid = 0x22
number_of PartlyFilled = 0x23

-- Sense code 0: no code has arisen.
abbrev pub code_number : Option Code → ℕ
code_number None = 0
code_number (Some code) = number_of code

abbrev pub end_number : {T : Type 0} → Result T Code → ℕ
end_number (Ok x) = 0
end_number (Err code) = number_of code

-- The numbers 1 to 3 of the table of returned values.
abbrev pub refusal_number : Refusal → ℕ
refusal_number Block = 1
refusal_number Given = 2
refusal_number Area = 3
