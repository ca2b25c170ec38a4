-- The controller's record, what a command leaves, and the three ways in which one ends (document 01, table of returned values).
use Rattle.std.specs.Prelude.{ℕ, ◌+◌, ◌*◌, false, List, get_or, replicate}
use Rattle.base.specs.Pick.{pick}
use Rattle.base.specs.Part.{splice}
use Rattle.geometry.specs.declared.params.Lba.{Lba}
use Rattle.geometry.specs.declared.medium.Medium.{Medium}
use Rattle.geometry.specs.Config.{Setting}
use Rattle.std.specs.Prelude.{None}
use Rattle.geometry.specs.Config.{setting_of}
use Rattle.model.specs.declared.record.Drive.{Drive}
use Rattle.model.specs.declared.record.Controller.{Controller}
use Rattle.model.specs.declared.record.Answer.{Answer}
use Rattle.model.specs.declared.record.Ending.{Ending}
use Rattle.model.specs.Verdicts.{Verdict}
use Rattle.model.specs.Verdicts.{Refused, Faulty, Passed}
use Rattle.model.specs.Sense.{sense_of}

-- A drive's entry without parameters, its sense zero.
unfoldable pub blank_drive : Drive
blank_drive = record { sense = replicate 4 0; config = replicate 10 0; known = false; pending = false }

unfoldable pub drive_at : Controller → (drive : ℕ) → Drive
drive_at c drive = get_or c.drives drive blank_drive

unfoldable pub sensed : List ℕ → Drive → Drive
sensed sense entry = record { sense = sense; config = entry.config; known = entry.known; pending = entry.pending }

-- Parameters not valid with the image lent at a call count there as none.
unfoldable pub setting_in : Medium → Drive → (image : ℕ) → Setting
setting_in medium entry image = pick entry.known (setting_of medium entry.config image) None

-- ---- Answers
-- Status, message and counts 0: with numbers 1, 2 and 3, and with number 0 the answer to Reset.
abbrev pub bare_answer : (number : ℕ) → Answer
bare_answer number = record { number = number; status = 0; message = 0; sectors = 0; bytes = 0 }

abbrev pub failed_answer : (drive sectors bytes : ℕ) → Answer
failed_answer drive sectors bytes = record { number = 0; status = 2 + 32 * drive; message = 0; sectors = sectors; bytes = bytes }

abbrev pub good_answer : (drive sectors bytes : ℕ) → Answer
good_answer drive sectors bytes = record { number = 0; status = 32 * drive; message = 0; sectors = sectors; bytes = bytes }

-- ---- How a command of a drive ends
-- A refusal changes nothing.
unfoldable pub refused : (number : ℕ) → Drive → Ending
refused number entry = record { entry = entry; answer = bare_answer number }

-- A code arises: status 2 + 32 × drive; sense has the code. `named` is the drive that the sense bytes name.
unfoldable pub failed : (drive named code : ℕ) → Lba → (sectors bytes : ℕ) → Drive → Ending
failed drive named code at sectors bytes entry =
    record { entry = sensed (sense_of code named at) entry; answer = failed_answer drive sectors bytes }

-- Otherwise: status 32 × drive; sense code 0.
unfoldable pub good : (drive sectors bytes : ℕ) → Drive → Ending
good drive sectors bytes entry =
    record { entry = sensed (sense_of 0 drive (record { 0 = 0 })) entry; answer = good_answer drive sectors bytes }

-- By a verdict on drive `named`: what the command leaves where all is passed; else all but entry and answer as it was.
unfoldable pub unless_named {ℓ} : {A : Type ℓ} → Verdict → (drive named : ℕ) → Drive → (kept : Ending → A) → A → A
unless_named (Refused number) drive named entry kept after = kept (refused number entry)
unless_named (Faulty code at) drive named entry kept after = kept (failed drive named code at 0 0 entry)
unless_named Passed drive named entry kept after = after

-- The verdict on a command of one drive names that drive.
abbrev pub unless {ℓ} : {A : Type ℓ} → Verdict → (drive : ℕ) → Drive → (kept : Ending → A) → A → A
unless verdict drive entry kept after = unless_named verdict drive drive entry kept after

-- ---- What a command leaves of what it is lent: its drive's entry with the answer, the buffer, its drive's image; and the
-- bytes handed over.
pub record Effect : Type 0 where
  pub ending : Ending
  pub buffer : List ℕ
  pub handed : List ℕ
  pub image : List ℕ

abbrev pub effect : Ending → (buffer handed image : List ℕ) → Effect
effect ending buffer handed image = record { ending = ending; buffer = buffer; handed = handed; image = image }

-- The bytes handed over are the front of the data area, the area past them stays.
abbrev pub area_after : Effect → (area : List ℕ) → List ℕ
area_after e area = splice 0 e.handed area

-- A command that leaves the buffer and hands nothing over.
pub record Made : Type 0 where
  pub ending : Ending
  pub image : List ℕ

abbrev pub made : Ending → (image : List ℕ) → Made
made ending image = record { ending = ending; image = image }
