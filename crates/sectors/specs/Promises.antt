-- What reading and writing sectors promise.
use Rattle.std.specs.Prelude.{ℕ, ◌≡◌, List}
use Rattle.codes.specs.Numbers.{code_number}
use Rattle.base.specs.Part.{splice}
use Rattle.geometry.specs.declared.params.Lba.{Lba}
use Rattle.geometry.specs.declared.params.Params.{Params}
use Rattle.sectors.specs.declared.transfer.Done.{Done}
use Rattle.sectors.specs.Transfer.{Transfer, begun, reading, writing}

-- How far it came and why it ended, and what is at the front of the data area: as the transfer x says.
pub record ReadBy (x : Transfer) (done : Done) (before after : List ℕ) : Type 0 where
  pub sectors : done.sectors ≡ x.done
  pub code : code_number done.fault ≡ x.code
  pub area : after ≡ splice 0 x.handed before

-- n sectors from address a on, read
abbrev pub HasRead : Params → (n : ℕ) → Lba → (image : List ℕ) → Done → (before after : List ℕ) → Type 0
HasRead p n a image done before after = ReadBy (reading p n a (begun image)) done before after

-- How far it came and why it ended, and the whole image: as the transfer x says.
pub record WrittenBy (x : Transfer) (done : Done) (after : List ℕ) : Type 0 where
  pub sectors : done.sectors ≡ x.done
  pub code : code_number done.fault ≡ x.code
  pub image : after ≡ x.image

-- n sectors from address a on, written
abbrev pub HasWritten : Params → (n : ℕ) → Lba → (given : List ℕ) → Done → (before after : List ℕ) → Type 0
HasWritten p n a given done before after = WrittenBy (writing p n a given (begun before)) done after
