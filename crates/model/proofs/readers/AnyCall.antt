-- What follows from the engine's definition for any controller, block, data and images: what a call leaves, part by part.
use Prim.Native.Nat.{ℕ, ◌≤◌, ◌<◌}
use mathlib.Core.Path.{◌≡◌, refl, sym, ap, subst, ◌∙◌}
use mathlib.Core.Bool.{true, false, true≢false}
use mathlib.Core.List.{List, []}
use native.Mathlib.Omega.{arith}
use native.Mathlib.Nat.{zero-add}
use lib.ListN.{length, take, drop}
use lib.Seq.{take_at, drop-append_seam}
use Rattle.base.specs.Part.{part, splice}
use Rattle.geometry.specs.declared.params.Track.{Track}
use Rattle.geometry.specs.declared.params.Params.{Params}
use Rattle.std.specs.Prelude.{Some}
use Rattle.geometry.specs.Params.{track_count, further}
use Rattle.geometry.specs.Medium.{medium_of}
use Rattle.track.specs.Find.{Slot}
use Rattle.track.specs.Find.{holds}
use Rattle.track.specs.Image.{track_bytes, slot_id, slot_data}
use Rattle.sectors.specs.Transfer.{begun, found}
use Rattle.sectors.proofs.Laws.{found_first}
use Rattle.model.specs.declared.block.Block.{Block}
use Rattle.model.specs.declared.table.Command.{Command}
use Rattle.model.specs.declared.table.Command.TheVariants.{Free, OnDisk}
use Rattle.model.specs.declared.table.FreeCommand.{FreeCommand}
use Rattle.model.specs.declared.table.FreeCommand.TheVariants.{Initialize}
use Rattle.model.specs.declared.table.DiskCommand.TheVariants.{SectorWork}
use Rattle.model.specs.declared.table.SectorCommand.TheVariants.{Write}
use Rattle.model.specs.declared.record.Drive.{Drive}
use Rattle.model.specs.declared.record.Controller.{Controller}
use Rattle.model.specs.Block.{block_of, count_of, is_whole, is_copy}
use Rattle.model.specs.Table.{row_for}
use Rattle.model.specs.Record.{drive_at, setting_in, refused, Effect, effect}
use Rattle.model.specs.Commands.{transferred, write, do_sectors, do_disk, carry_out}
use Rattle.model.specs.Engine.{Result, view_of, obey, image_of, left, on_drive, execute}
use Rattle.model.proofs.engine.Leaving.{Makes, Fills, Hands, LeavesBy, Writes, untouched as as_lent, Obeyed, answered, denied, obeyed, images_kept}
use Rattle.model.proofs.engine.Leaving.{unmoved, drives_kept}
use Rattle.model.proofs.engine.Blocks.{by_block, six_whole, other_row}
use Rattle.model.proofs.engine.CopyLeaves.{copy_leaves}
use Rattle.model.proofs.engine.Assembled.{drive_below, own_entry, other_entry, other_image}
use Rattle.model.proofs.engine.Beyond.{unless_left}
use Rattle.model.proofs.engine.Written.{Written, written_none, writes}
use Rattle.model.proofs.records.Calls.{good_image, to_write, one_drive, its_image}

-- ---- (a) Number 1, 2 or 3: status, message and counts 0, and controller, area and images as they were. There is no other number.
data Answered (c : Controller) (area : List ℕ) (images : List (List ℕ)) (r : Result) : Type 0 where
  accepted : r.outcome.answer.number ≡ 0 → Answered c area images r
  unchanged : (number : ℕ) → 1 ≤ number → number ≤ 3 → r ≡ unmoved c area images number → Answered c area images r

module _ (c : Controller) (block given area : List ℕ) (images : List (List ℕ)) where
  left_answered : (b : Block) (command : Command) (e : Effect) → Obeyed b given (drive_at c b.drive) c.buffer (image_of b.drive images) command e
      → Answered c area images (left b.drive e c area images)
  unfolding left refused splice
  left_answered b command e (answered ends) = accepted ends.number
  left_answered b command e (denied number least most is) =
      unchanged number (omega arith) most (rw (is, images_kept b.drive images, drives_kept b.drive c))

  all_answered : Answered c area images (execute c block given area images)
  unfolding on_drive
  all_answered =
      let b = block_of block in
      by_block c block given area images (Answered c area images) (λ whole copy. accepted (copy_leaves c block area images copy).number)
      (λ whole other. left_answered b _ _ (obeyed b given (length area) (drive_at c b.drive) c.buffer (image_of b.drive images)))
      (λ none. unchanged 1 (omega arith) (omega arith) refl)

module _ (c : Controller) (block given area : List ℕ) (images : List (List ℕ)) where
  abbrev result : Result
  result = execute c block given area images

  refusal : 1 ≤ result.outcome.answer.number
      → (result.outcome.answer.number ≤ 3) × (result ≡ unmoved c area images result.outcome.answer.number)
  refusal some = by (all_answered c block given area images)
    where
      by : Answered c area images result
          → (result.outcome.answer.number ≤ 3) × (result ≡ unmoved c area images result.outcome.answer.number)
      by (accepted z) = absurd (omega arith)
      by (unchanged number least most is) = rw is (most, refl)

-- ---- (b) Number 0, of a command of one drive: entry, buffer, bytes handed over and image are what it makes of them, by its status
module _ (c : Controller) (block given area : List ℕ) (images : List (List ℕ)) (whole : is_whole block ≡ true) (other : is_copy block ≡ false) where
  abbrev b : Block
  b = block_of block

  abbrev entry : Drive
  entry = drive_at c b.drive

  abbrev command : Command
  command = (row_for b.opcode).command

  abbrev done : Effect
  done = obey b given (length area) entry c.buffer (image_of b.drive images)

  abbrev after : Result
  after = execute c block given area images

  left_it : after ≡ left b.drive done c area images
  left_it = one_drive c block given area images whole other

  leaves : after.outcome.answer.number ≡ 0 → LeavesBy b given entry c.buffer (image_of b.drive images) command done
  unfolding left refused
  leaves number = by (obeyed b given (length area) entry c.buffer (image_of b.drive images)) (rw left_it at number)
    where
      by : Obeyed b given entry c.buffer (image_of b.drive images) command done → done.ending.answer.number ≡ 0
          → LeavesBy b given entry c.buffer (image_of b.drive images) command done
      by (answered ends) z = ends
      by (denied number least most is) z =
          let same : done.ending.answer.number ≡ number = ap (λ (e : Effect). e.ending.answer.number) is in absurd (omega (arith, same, z))

  -- a record has four entries, as its type in the code says
  entry_left : length c.drives ≡ 4 → after.outcome.answer.number ≡ 0
      → Makes b given entry (image_of b.drive images) command after.outcome.answer.status (drive_at after.outcome.controller b.drive)
  unfolding left
  entry_left four number =
      let own = own_entry b.drive done c area images (omega (arith, drive_below block, four)) in
      rw left_it (subst (λ (x : Drive). Makes b given entry (image_of b.drive images) command done.ending.answer.status x) (sym own) (leaves number).makes)

  buffer_left : after.outcome.answer.number ≡ 0 → Fills b given c.buffer command after.outcome.answer.status after.outcome.controller.buffer
  unfolding left
  buffer_left number = rw left_it (leaves number).fills

  handed_over : after.outcome.answer.number ≡ 0
      → Hands b entry c.buffer command after.outcome.answer.status (take after.outcome.answer.bytes after.area)
  unfolding left splice
  handed_over number =
      let l = leaves number in
      let front : take done.ending.answer.bytes (splice 0 done.handed area) ≡ done.handed = take_at done.handed _ _ (sym l.bytes) in
      rw (left_it, front) l.hands

  -- The data area past the bytes counted stays.
  area_past : after.outcome.answer.number ≡ 0 → drop after.outcome.answer.bytes after.area ≡ drop after.outcome.answer.bytes area
  unfolding left splice
  area_past number = rw (left_it, (leaves number).bytes) (drop-append_seam done.handed _ ∙ rw zero-add)

  image_left : after.outcome.answer.number ≡ 0 → Writes (image_of b.drive images) command (image_of b.drive after.images)
  image_left number = rw (left_it, its_image c block given area images) (leaves number).writes

  -- The entry and the image of every other drive stay.
  others_left : (d : ℕ) → (d ≡ b.drive → ⊥) → drive_at after.outcome.controller d ≡ drive_at c d
  others_left d ne = rw left_it (other_entry b.drive done c area images d ne)

  others_images : (d : ℕ) → (d ≡ b.drive → ⊥) → image_of d after.images ≡ image_of d images
  others_images d ne = rw left_it (other_image b.drive done c area images d ne)

-- ---- (c) A Write changes only the data bytes of slots that it found: the label, every ID and all other data stay
module _ (b : Block) (given : List ℕ) (area : ℕ) (entry : Drive) (buffer image : List ℕ) (p : Params)
    (is : (row_for b.opcode).command ≡ OnDisk (SectorWork Write)) (valid : setting_in (medium_of b.drive) entry (length image) ≡ Some p) where
  write_obeyed : Written p (count_of b) b.address image (obey b given area entry buffer image).image
  unfolding obey view_of carry_out do_disk do_sectors write transferred begun
  write_obeyed =
      unless_left (λ (e : Effect). Written p (count_of b) b.address image e.image) _ b.drive entry (λ e. effect e buffer [] image) _
      (λ e. written_none p (count_of b) b.address image)
      (λ passed.
      let fits = good_image b given area entry buffer image passed p valid in
      let ours = to_write b given area entry buffer image passed p valid is in
      rw (valid, is) (writes p fits.within (count_of b) b.address given (begun image) fits.long ours.on_drive_lem ours.enough))

module _ (c : Controller) (block given area : List ℕ) (images : List (List ℕ)) (p : Params) (six : length block ≡ 6) where
  abbrev w : Block
  w = block_of block

  abbrev before : List ℕ
  before = image_of w.drive images

  abbrev written : List ℕ
  written = image_of w.drive (execute c block given area images).images

  module _ (is : (row_for w.opcode).command ≡ OnDisk (SectorWork Write)) (valid : setting_in (medium_of w.drive) (drive_at c w.drive) (length before) ≡ Some p) where
    all_written : Written p (count_of w) w.address before written
    all_written =
        let other = other_row block _ is (λ e. let z : ◌≡◌ {A = ℕ} 0 1 = cc in omega arith) in
        rw (one_drive c block given area images (six_whole block other six) other, its_image c block given area images)
        (write_obeyed w given (length area) (drive_at c w.drive) c.buffer before p is valid)

    label_kept : part 0 16 written ≡ part 0 16 before
    label_kept = all_written.outside.below 0 16 (omega arith)

    ids_kept : (t : Track) (k : ℕ) → t.0 < track_count p → k < p.sectors → slot_id p k (track_bytes p t written) ≡ slot_id p k (track_bytes p t before)
    ids_kept = all_written.ids

    data_kept : (t : Track) (k : ℕ) → t.0 < track_count p → k < p.sectors
        → ((i : ℕ) → i < count_of w → found p (further w.address i) before ≡ Slot t k → ⊥)
        → slot_data p k (track_bytes p t written) ≡ slot_data p k (track_bytes p t before)
    data_kept = all_written.others

    -- of two slots that hold one sector number the second is not written
    second_stays : (t : Track) (j k s : ℕ) → t.0 < track_count p → j < k → k < p.sectors
        → holds p s (track_bytes p t before) j ≡ true → holds p s (track_bytes p t before) k ≡ true
        → slot_data p k (track_bytes p t written) ≡ slot_data p k (track_bytes p t before)
    second_stays t j k s ht l hk first second =
        data_kept t k ht hk (λ i li here. true≢false (sym first ∙ found_first p (further w.address i) before t k here j s l second))

-- ---- (d) Initialize leaves the images, those of hard disks and of floppies
left_kept : (drive : ℕ) (e : Effect) (c : Controller) (area : List ℕ) (images : List (List ℕ)) → e.image ≡ image_of drive images
    → (left drive e c area images).images ≡ images
unfolding left
left_kept drive e c area images same = rw same (images_kept drive images)

free_image : {command : FreeCommand} {image after : List ℕ} → Writes image (Free command) after → after ≡ image
free_image as_lent = refl

module _ (given : List ℕ) where
  initialize_obeyed : (b : Block) (area : ℕ) (entry : Drive) (buffer image : List ℕ) → b.opcode ≡ 0x11 → (obey b given area entry buffer image).image ≡ image
  unfolding row_for
  initialize_obeyed b area entry buffer image is =
      let command : (row_for b.opcode).command ≡ Free Initialize = ap (λ (opcode : ℕ). (row_for opcode).command) is in
      by (subst (λ (k : Command). Obeyed b given entry buffer image k (obey b given area entry buffer image)) command (obeyed b given area entry buffer image))
    where
      by : {e : Effect} → Obeyed b given entry buffer image (Free Initialize) e → e.image ≡ image
      by (answered ends) = free_image ends.writes
      by (denied number least most refusal) = ap (λ (e : Effect). e.image) refusal

  initialize_leaves : (c : Controller) (block area : List ℕ) (images : List (List ℕ)) → (block_of block).opcode ≡ 0x11
      → (execute c block given area images).images ≡ images
  unfolding on_drive row_for
  initialize_leaves c block area images is =
      let drive = (block_of block).drive in
      let row : (row_for (block_of block).opcode).command ≡ Free Initialize = ap (λ (opcode : ℕ). (row_for opcode).command) is in
      by_block c block given area images (λ (r : Result). r.images ≡ images)
      (λ whole copy. absurd (true≢false (sym copy ∙ other_row block _ row (λ e. let z : ◌≡◌ {A = ℕ} 0 1 = cc in omega arith))))
      (λ whole other.
      left_kept drive _ c area images (initialize_obeyed (block_of block) (length area) (drive_at c drive) c.buffer (image_of drive images) is))
      (λ none. refl)
