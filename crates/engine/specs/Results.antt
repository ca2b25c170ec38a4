-- All that a call has left, as a contract sees it.
use Rattle.std.specs.Prelude.{ℕ, List, length, set}
use Rattle.model.specs.declared.block.Block.{Block}
use Rattle.model.specs.declared.record.Drive.{Drive}
use Rattle.model.specs.declared.record.Ending.{Ending}
use Rattle.model.specs.declared.record.Outcome.{Outcome}
use Rattle.model.specs.Record.{Effect, area_after}
use Rattle.model.specs.Engine.{obey, Result, image_of}

abbrev pub result_now : Outcome → (area : List ℕ) → (images : List (List ℕ)) → Result
result_now outcome area images = record { outcome = outcome; area = area; images = images }

-- Before the record is put together: the entry of the drive named with the answer, the buffer, the data area, all images.
pub record Lent : Type 0 where
  pub ending : Ending
  pub buffer : List ℕ
  pub area : List ℕ
  pub images : List (List ℕ)

abbrev pub lent_now : Ending → (buffer area : List ℕ) → (images : List (List ℕ)) → Lent
lent_now ending buffer area images = record { ending = ending; buffer = buffer; area = area; images = images }

unfoldable pub lent_by : (drive : ℕ) → Effect → (area : List ℕ) → (images : List (List ℕ)) → Lent
lent_by drive e area images =
    record { ending = e.ending; buffer = e.buffer; area = area_after e area; images = set images drive e.image }

-- What a command leaves of it, on the image of the drive that it names.
unfoldable pub obeyed : Block → (given : List ℕ) → Drive → (buffer area : List ℕ) → (images : List (List ℕ)) → Lent
obeyed b given entry buffer area images =
    lent_by b.drive (obey b given (length area) entry buffer (image_of b.drive images)) area images
