-- The theorems of records on copies (request E5): of a floppy of one track two sectors are copied to one sector of a hard disk of one
-- track; and three of them to two, 23h.
use Prim.Native.Nat.{ℕ, ◌+◌, ◌*◌, ◌<◌}
use mathlib.Core.Path.{◌≡◌, refl, ap, ◌∙◌}
use mathlib.Core.Bool.{true, false}
use mathlib.Core.List.{List, [], ◌∷◌, ◌++◌}
use native.Mathlib.Omega.{arith}
use lib.ListN.{length, get_or, replicate}
use Rattle.base.specs.Pick.{pick}
use Rattle.base.specs.Part.{part, splice, rows}
use Rattle.base.specs.First.{first_from, first_below}
use Rattle.base.specs.Same.{same_bytes}
use Rattle.geometry.specs.declared.params.Lba.{Lba}
use Rattle.geometry.specs.declared.params.Params.{Params}
use Rattle.std.specs.Prelude.{Some}
use Rattle.geometry.specs.Medium.{medium_of, is_floppy, is_in, ranges_of}
use Rattle.geometry.specs.Config.{size_for, fitted_to, fields_in, setting_by, setting_of, is_valid, label_setting}
use Rattle.track.specs.Id.{id_in, own_id}
use Rattle.track.specs.Image.{track_bytes, with_track, slot_id, slot_data, with_data, first_id}
use Rattle.track.specs.Find.{taken_by, where_by, where_of, holds, slot_used, sector_in, sector_from, sector_found}
use Rattle.sectors.specs.Transfer.{begun, ended, read_slot, onward, found, reading}
use Rattle.contents.specs.Content.{Bytes, content_in, content_of, put_in, put}
use Rattle.copying.specs.Copying.{on_by, store_in, store, stores, poured_by, copying, completed_by, completed}
use Rattle.model.specs.Block.{block_of, copy_of, count_of, is_whole, block_length, is_copy}
use Rattle.model.specs.Table.{check_number, is_among, row_for}
use Rattle.model.specs.Checks.{judged, present_with, is_unknown, block_wrong, control_wrong, with_params, past_end, not_spared, size_in, bytes_of, hits_of, in_order}
use Rattle.model.specs.Checks.{reach_of, judge, filling_of, shares, saying_of, judge_copy}
use Rattle.model.specs.Sense.{addressed, sense_of}
use Rattle.model.specs.Record.{drive_at, sensed, setting_in, failed, good, unless_named}
use Rattle.model.specs.Copies.{copy_ending, copy_left, copy_with}
use Rattle.model.specs.Engine.{view_of, obey_copy, Result, images_of, image_of, left_by_copy, on_drives, execute, loaded_by, loaded, fresh}
use Rattle.model.specs.declared.record.Answer.{Answer}
use Rattle.model.specs.declared.record.Controller.{Controller}
use Rattle.model.specs.Records.{is_good, named_by_copy, named, NoOtherRecord, CopiedReads, GoodCopies, ShortCopies}
use Rattle.model.proofs.records.Calls.{no_other_record}
use Rattle.model.proofs.records.Copies.{copied_reads, good_copies, short_copies}

-- the floppy's parameters, and the hard disk's
p : Params
p = record { cylinders = 1; heads = 1; sectors = 16; size = 128 }

q : Params
q = record { cylinders = 1; heads = 1; sectors = 32; size = 256 }

-- a sound slot of track 0
slot : (sector : ℕ) → (bytes : List ℕ) → List ℕ
slot sector bytes = 0xA1 ∷ 0 ∷ 0 ∷ 0 ∷ sector ∷ 0 ∷ 0 ∷ 0 ∷ bytes

-- the hard disk has 6Ch throughout; the floppy 7s at address 3, 8s at 4, 9s at 5
images : List (List ℕ)
images =
    images_of (0 ∷ 1 ∷ 1 ∷ 0 ∷ 1 ∷ replicate 11 0 ++ rows (λ s. slot s (replicate 256 0x6C)) 32) []
    (0 ∷ 1 ∷ 1 ∷ 1 ∷ replicate 12 0 ++ rows (λ s. slot s (replicate 128 (4 + s))) 16) []

start : Controller
start = fresh images

-- from address 3 of drive 2 to drive 0
copy : (count onto : ℕ) → List ℕ
copy count onto = 0x20 ∷ 0x40 ∷ 0 ∷ 3 ∷ count ∷ 0x00 ∷ 0 ∷ onto ∷ 0 ∷ 0 ∷ []

made : (block : List ℕ) → Result
made block = execute start block [] [] images

lba : ℕ → Lba
lba a = record { 0 = a }

-- in force are p and q; two sectors fill one, three fill two, the second in part; and what a Read of the floppy hands over
facts :
    (setting_in (medium_of 2) (drive_at start 2) (length (image_of 2 images)) ≡ Some p)
    × (setting_in (medium_of 0) (drive_at start 0) (length (image_of 0 images)) ≡ Some q)
    × ((made (copy 2 9)).outcome.answer ≡ record { number = 0; status = 0x40; message = 0; sectors = 1; bytes = 0 })
    × ((made (copy 3 9)).outcome.answer ≡ record { number = 0; status = 0x42; message = 0; sectors = 2; bytes = 0 })
    × ((reading p 3 (lba 3) (begun (image_of 2 images))).handed ≡ replicate 128 7 ++ (replicate 128 8 ++ replicate 128 9))
    × (content_of q (lba 10) (image_of 0 images) ≡ Bytes (replicate 256 0x6C))
    × (content_of p (lba 4) (image_of 2 images) ≡ Bytes (replicate 128 8))
unfolding p q slot images start copy made lba pick part splice rows first_from first_below same_bytes medium_of is_floppy is_in ranges_of size_for fitted_to
    fields_in setting_by setting_of is_valid label_setting id_in own_id track_bytes with_track slot_id slot_data with_data first_id taken_by where_by where_of holds
    slot_used sector_in sector_from sector_found begun ended read_slot onward found reading content_in content_of put_in put on_by store_in store stores
    poured_by copying completed_by completed block_of copy_of count_of is_whole block_length is_copy check_number is_among row_for judged present_with is_unknown
    block_wrong control_wrong with_params past_end not_spared size_in bytes_of hits_of in_order filling_of shares saying_of judge reach_of
    judge_copy addressed sense_of drive_at
    sensed setting_in failed good unless_named copy_ending copy_left copy_with view_of obey_copy image_of left_by_copy on_drives execute loaded_by loaded fresh
facts = (refl, refl, refl, refl, refl, refl, refl)

-- what the engine leaves of senses and buffer: drive 2's sense has no code, or 23h of drive 0 and address 10, drive 0's stays; the last
-- destination sector is at the buffer's front
sense_of_lem : Result → (d : ℕ) → List ℕ
sense_of_lem r d = (drive_at r.outcome.controller d).sense

left_over : (sense_of_lem (made (copy 2 9)) 2 ≡ 0 ∷ 0x40 ∷ 0 ∷ 0 ∷ [])
    × (sense_of_lem (made (copy 3 9)) 2 ≡ 0xA3 ∷ 0x00 ∷ 0 ∷ 10 ∷ [])
    × (sense_of_lem (made (copy 3 9)) 0 ≡ 0 ∷ 0 ∷ 0 ∷ 0 ∷ [])
    × (sense_of_lem (made (copy 2 32)) 2 ≡ 0xA1 ∷ 0x00 ∷ 0 ∷ 32 ∷ [])
    × (sense_of_lem (made (copy 2 32)) 0 ≡ 0 ∷ 0 ∷ 0 ∷ 0 ∷ [])
    × (same_bytes (made (copy 2 9)).outcome.controller.buffer (replicate 128 7 ++ (replicate 128 8 ++ replicate 256 0)) ≡ true)
unfolding sense_of_lem p q slot images start copy made lba pick part splice rows first_from first_below same_bytes medium_of is_floppy is_in ranges_of size_for
    fitted_to fields_in setting_by setting_of is_valid label_setting id_in own_id track_bytes with_track slot_id slot_data with_data first_id taken_by where_by
    where_of holds slot_used sector_in sector_from sector_found begun ended read_slot onward found reading content_in content_of put_in put on_by store_in store
    stores poured_by copying completed_by completed block_of copy_of count_of is_whole block_length is_copy check_number is_among row_for judged present_with
    is_unknown block_wrong control_wrong with_params past_end not_spared size_in bytes_of hits_of in_order filling_of shares saying_of judge reach_of
    judge_copy addressed sense_of
    drive_at sensed setting_in failed good unless_named copy_ending copy_left copy_with view_of obey_copy image_of left_by_copy on_drives execute loaded_by loaded
    fresh
left_over = (refl, refl, refl, refl, refl, refl)

-- the sectors that an answer counts, and whether its status is good
answered : ((r : Answer) → r ≡ record { number = 0; status = 0x40; message = 0; sectors = 1; bytes = 0 } → (r.sectors ≡ 1) × (is_good 2 r ≡ true))
    × ((r : Answer) → r ≡ record { number = 0; status = 0x42; message = 0; sectors = 2; bytes = 0 } → (r.sectors ≡ 2) × (is_good 2 r ≡ false))
unfolding is_good
answered = (λ r e. rw e (refl, refl), λ r e. rw e (refl, refl))

-- Behind the last sector done no address of the destination is named, and none of the source drive at all.
spared : ((r : Answer) → r.sectors ≡ 1 → named 0 q (copy 2 9) [] r (lba 10) ≡ false)
    × ((r : Answer) → named 2 p (copy 2 9) [] r (lba 4) ≡ false)
unfolding p q copy lba named named_by_copy copy_of block_of is_whole block_length is_copy pick
spared = (λ r e. rw e refl, λ r. refl)

-- By the theorem: the sectors done read as the floppy's bytes, run on, with zeros behind them.
reads :
    (content_of q (lba 9) (image_of 0 (made (copy 3 9)).images) ≡ Bytes (replicate 128 7 ++ replicate 128 8))
    × (content_of q (lba 10) (image_of 0 (made (copy 3 9)).images) ≡ Bytes (replicate 128 9 ++ replicate 128 0))
unfolding p q lba made copy copy_of block_of count_of is_whole block_length is_copy pick part CopiedReads
reads =
    let read = facts.4 in
    let two = (answered.1 _ facts.3).0 in
    let done = copied_reads start (copy 3 9) [] [] images p q refl refl facts.0 facts.1 in
    (done 0 (omega (arith, two)) ∙ rw read refl, done 1 (omega (arith, two)) ∙ rw read refl)

-- By the theorem: what the copy does not name reads as before, behind it and on the floppy.
stays :
    (content_of q (lba 10) (image_of 0 (made (copy 2 9)).images) ≡ Bytes (replicate 256 0x6C))
    × (content_of p (lba 4) (image_of 2 (made (copy 2 9)).images) ≡ Bytes (replicate 128 8))
unfolding p q lba made NoOtherRecord
stays = (
  no_other_record start (copy 2 9) [] [] images 0 q facts.1 (lba 10) (omega arith) (spared.0 _ (answered.0 _ facts.2).0) ∙ facts.5,
  no_other_record start (copy 2 9) [] [] images 2 p facts.0 (lba 4) (omega arith) (spared.1 _) ∙ facts.6,
)

-- By the theorem: with good status both drives have parameters, all was read, and as many bytes are in the sectors done.
all_there : (from : Params) × (to : Params)
    × (setting_in (medium_of 2) (drive_at start 2) (length (image_of 2 images)) ≡ Some from)
    × (setting_in (medium_of 0) (drive_at start 0) (length (image_of 0 images)) ≡ Some to)
    × ((reading from 2 (lba 3) (begun (image_of 2 images))).done ≡ 2)
    × ((made (copy 2 9)).outcome.answer.sectors * to.size ≡ 2 * from.size)
unfolding lba made copy copy_of block_of count_of is_whole block_length is_copy pick GoodCopies
all_there = good_copies start (copy 2 9) [] [] images refl refl (answered.0 _ facts.2).1

-- With 23h too, and the last sector done is not full.
all_but_full : (from : Params) × (to : Params)
    × (setting_in (medium_of 2) (drive_at start 2) (length (image_of 2 images)) ≡ Some from)
    × (setting_in (medium_of 0) (drive_at start 0) (length (image_of 0 images)) ≡ Some to)
    × ((reading from 3 (lba 3) (begun (image_of 2 images))).done ≡ 3)
    × (3 * from.size < (made (copy 3 9)).outcome.answer.sectors * to.size)
    × ((made (copy 3 9)).outcome.answer.sectors * to.size < 3 * from.size + to.size)
unfolding lba made copy copy_of block_of count_of is_whole block_length is_copy pick sense_of_lem ShortCopies
all_but_full = short_copies start (copy 3 9) [] [] images refl refl (ap (λ (sense : List ℕ). get_or sense 0 0) left_over.1)
