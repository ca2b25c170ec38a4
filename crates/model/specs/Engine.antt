-- The engine: what `execute` and `reset` promise, for any record, block, given data, data area and images.
use Rattle.std.specs.Prelude.{ℕ, true, false, List, [], ◌∷◌, length, set, replicate}
use Rattle.base.specs.Pick.{pick}
use Rattle.geometry.specs.declared.medium.Medium.{Medium}
use Rattle.geometry.specs.Config.{Setting}
use Rattle.std.specs.Prelude.{Some, None}
use Rattle.geometry.specs.Medium.{medium_of}
use Rattle.geometry.specs.Config.{label_config, label_setting}
use Rattle.model.specs.declared.block.Block.{Block}
use Rattle.model.specs.declared.block.CopyBlock.{CopyBlock}
use Rattle.model.specs.declared.record.Drive.{Drive}
use Rattle.model.specs.declared.record.Controller.{Controller}
use Rattle.model.specs.declared.record.Ending.{Ending}
use Rattle.model.specs.declared.record.Outcome.{Outcome}
use Rattle.model.specs.Block.{block_of, is_copy, is_whole, copy_of}
use Rattle.model.specs.Table.{row_for}
use Rattle.model.specs.declared.verdict.View.{View}
use Rattle.model.specs.Checks.{present_with, judge, judge_copy}
use Rattle.model.specs.Record.{blank_drive, drive_at, setting_in, bare_answer, Effect, effect, area_after, unless, unless_named}
use Rattle.model.specs.Commands.{carry_out}
use Rattle.model.specs.Copies.{CopyEffect, copy_effect, copy_with}
-- the images lent, as a list: two hard disks, then two floppies
pub use Rattle.copying.specs.Images.{images_of}
unfoldable pub use Rattle.copying.specs.Images.{image_of}

-- ---- A command of six bytes on the image of the drive that it names
unfoldable pub view_of : Medium → Drive → (image : ℕ) → View
view_of medium entry image =
    record { medium = medium; present = present_with image; setting = setting_in medium entry image; pending = entry.pending }

-- The order of checks with numbers 2 and 3, then the command: its drive's entry, the buffer and its drive's image are all it sees.
unfoldable pub obey : Block → (given : List ℕ) → (area : ℕ) → Drive → (buffer image : List ℕ) → Effect
obey b given area entry buffer image =
    let view = view_of (medium_of b.drive) entry (length image) in
    unless (judge b view (length given) area) b.drive entry (λ e. effect e buffer [] image)
    (carry_out b view.setting given entry buffer image (row_for b.opcode).command)

-- ---- Copy, on the images of the two drives that it names; of their entries it leaves the source's
unfoldable pub obey_copy : CopyBlock → (source target : Drive) → (buffer : List ℕ) → (images : List (List ℕ)) → CopyEffect
obey_copy k source target buffer images =
    let v = view_of (medium_of k.from.drive) source (length (image_of k.from.drive images)) in
    let w = view_of (medium_of k.to.drive) target (length (image_of k.to.drive images)) in
    let said = judge_copy k v w in
    unless_named said.verdict k.from.drive said.named source (λ e. copy_effect e buffer images)
    (copy_with k v.setting w.setting source buffer images)

-- ---- All that a call leaves
pub record Result : Type 0 where
  pub outcome : Outcome
  pub area : List ℕ
  pub images : List (List ℕ)

-- The record is put together with the answer: the entry of every other drive stays.
abbrev pub outcome_of : (drive : ℕ) → Ending → (buffer : List ℕ) → Controller → Outcome
outcome_of drive ending buffer c = record {
  controller = record { buffer = buffer; drives = set c.drives drive ending.entry };
  answer = ending.answer;
}

-- And the images: that of every other drive stays.
unfoldable pub left : (drive : ℕ) → Effect → Controller → (area : List ℕ) → (images : List (List ℕ)) → Result
left drive e c area images = record {
  outcome = outcome_of drive e.ending e.buffer c;
  area = area_after e area;
  images = set images drive e.image;
}

-- A command on the drive that it names.
unfoldable pub on_drive : Block → (given : List ℕ) → Controller → (area : List ℕ) → (images : List (List ℕ)) → Result
on_drive b given c area images =
    left b.drive (obey b given (length area) (drive_at c b.drive) c.buffer (image_of b.drive images)) c area images

-- Copy: the source drive's entry and the destination drive's image change, the data area does not.
unfoldable pub left_by_copy : (drive : ℕ) → CopyEffect → Controller → (area : List ℕ) → Result
left_by_copy drive e c area = record {
  outcome = outcome_of drive e.ending e.buffer c;
  area = area;
  images = e.images;
}

unfoldable pub on_drives : CopyBlock → Controller → (area : List ℕ) → (images : List (List ℕ)) → Result
on_drives k c area images =
    left_by_copy k.from.drive (obey_copy k (drive_at c k.from.drive) (drive_at c k.to.drive) c.buffer images) c area

-- A block that is not whole: number 1, all unchanged.
unfoldable pub execute : Controller → (block given area : List ℕ) → (images : List (List ℕ)) → Result
execute c block given area images =
    pick (is_whole block)
    (pick (is_copy block) (on_drives (copy_of block) c area images) (on_drive (block_of block) given c area images))
    (record { outcome = record { controller = c; answer = bare_answer 1 }; area = area; images = images })

-- ---- Reset: the buffer and all sixteen sense bytes are zero. A valid label comes into force, not pending; otherwise the
-- drive has no parameters.
unfoldable pub loaded_by : Setting → (config : List ℕ) → Drive
loaded_by None config = blank_drive
loaded_by (Some p) config = record { sense = replicate 4 0; config = config; known = true; pending = false }

unfoldable pub loaded : (drive : ℕ) → (image : List ℕ) → Drive
loaded drive image = loaded_by (label_setting (medium_of drive) image) (label_config image)

-- Fresh means after Reset.
unfoldable pub fresh : (images : List (List ℕ)) → Controller
fresh images = record {
  buffer = replicate 512 0;
  drives =
      loaded 0 (image_of 0 images) ∷ loaded 1 (image_of 1 images) ∷ loaded 2 (image_of 2 images) ∷ loaded 3 (image_of 3 images) ∷ [];
}

-- It answers zeros and changes no image.
unfoldable pub reset_of : (images : List (List ℕ)) → Outcome
reset_of images = record { controller = fresh images; answer = bare_answer 0 }
