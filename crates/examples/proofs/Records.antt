-- The theorems of records on a drive: a floppy of two tracks, zero throughout and two bytes longer than it must be, is initialized
-- and formatted with interleave 2, two sectors are written over the track boundary, and the second track is formatted again. Drive
-- 3 has no parameters.
use Prim.Native.Nat.{ℕ}
use mathlib.Core.Path.{◌≡◌, refl, ap, ◌∙◌}
use mathlib.Core.Bool.{Bool, true, false, ◌&&◌}
use mathlib.Core.List.{List, [], ◌∷◌, ◌++◌}
use native.Mathlib.Omega.{arith}
use lib.ListN.{length, replicate}
use Rattle.base.specs.Pick.{pick}
use Rattle.base.specs.Part.{part, splice, rows}
use Rattle.base.specs.First.{first_from, first_below, is_some, some_below}
use Rattle.base.specs.Same.{same_bytes}
use Rattle.geometry.specs.declared.params.Lba.{Lba}
use Rattle.geometry.specs.declared.params.Params.{Params}
use Rattle.std.specs.Prelude.{Some, None}
use Rattle.geometry.specs.Medium.{medium_of, is_floppy, is_in, ranges_of}
use Rattle.geometry.specs.Config.{size_for, fitted_to, fields_in, setting_by, setting_of, is_valid, label_setting, label_holds}
use Rattle.interleave.specs.Layout.{empty_from, lay_at, place, laid, layout_of}
use Rattle.track.specs.Id.{id_bytes, id_in, id_for, own_id, with_sector}
use Rattle.track.specs.State.{flag_of, partner_of, is_moved, is_taken}
use Rattle.track.specs.Image.{track_bytes, with_track, slot_id, slot_data, with_data, first_id}
use Rattle.track.specs.Find.{taken_by, where_by, where_of, holds, slot_used, sector_in, sector_from, sector_found}
use Rattle.track.specs.Pair.{state_by, state_of, splits, pair_split}
use Rattle.formatter.specs.Format.{slot_made, slots_made, formatted, sound_from}
use Rattle.sectors.specs.Transfer.{begun, ended, write_slot, onward, found, writing}
use Rattle.contents.specs.Content.{Bytes, content_in, content_of}
use Rattle.model.specs.declared.table.Command.TheVariants.{Free, OnDisk}
use Rattle.model.specs.declared.table.FreeCommand.TheVariants.{Initialize}
use Rattle.model.specs.declared.table.DiskCommand.TheVariants.{TrackWork}
use Rattle.model.specs.declared.table.TrackCommand.TheVariants.{FormatDrive}
use Rattle.model.specs.Block.{block_of, count_of, from_buffer, is_whole, block_length, is_copy}
use Rattle.model.specs.Table.{check_number, is_among, row_for}
use Rattle.model.specs.Checks.{judged, present_with, is_unknown, block_wrong, control_wrong, with_params, interleave_wrong, past_end, not_spared, size_in, bytes_of, reach_of, hits_of, in_order, judge}
use Rattle.model.specs.Sense.{addressed, sense_of}
use Rattle.model.specs.Record.{blank_drive, drive_at, sensed, setting_in, failed, good, unless_named}
use Rattle.model.specs.Commands.{plain_byte, plain_fill, fill_of, made_at, drive_formatted, pending_ended, format_drive, alone_tests, format_track, transfer_ending, transferred, write}
use Rattle.model.specs.Commands.{initialized, initialized_by, initialize, do_free, do_track, do_sectors, as_effect, do_disk, carry_out}
use Rattle.model.specs.Engine.{view_of, obey, Result, images_of, image_of, left, on_drive, execute, loaded_by, loaded, fresh, reset_of}
use Rattle.model.specs.Records.{is_good, one_track, on_tracks, named_by, named, NoOtherRecord, WrittenReads}
use Rattle.model.specs.Records.{GoodWrites, NoneWithoutParameters, Is, LabelStays, ParametersStay, PastStays}
use Rattle.model.specs.declared.record.Answer.{Answer}
use Rattle.model.proofs.records.Calls.{no_other_record, written_reads, good_writes, none_without_parameters, past_stays}
use Rattle.model.proofs.records.Places.{label_stays, parameters_stay}

p : Params
p = record { cylinders = 1; heads = 2; sectors = 16; size = 128 }

-- drive 2 has 16 + 2 × 16 × 136 bytes, and two more
start : Result
start =
    let images = images_of [] [] (replicate 4368 0 ++ (0xEE ∷ 0xED ∷ [])) (replicate 20 5) in
    record { outcome = reset_of images; area = []; images = images }

then : Result → (block given : List ℕ) → Result
then r block given = execute r.outcome.controller block given [] r.images

block : (opcode address extra : ℕ) → List ℕ
block opcode address extra = opcode ∷ 0x40 ∷ 0 ∷ address ∷ extra ∷ 0 ∷ []

sectors : List ℕ
sectors = replicate 128 7 ++ replicate 128 8

config : List ℕ
config = 0 ∷ 1 ∷ 2 ∷ 1 ∷ 0 ∷ 0 ∷ 0 ∷ 0 ∷ 0 ∷ 0 ∷ []

made : Result
made = then (then start (block 0x11 0 0) config) (block 0x04 0 2) []

wrote : Result
wrote = then made (block 0x0A 15 2) sectors

remade : Result
remade = then wrote (block 0x06 16 1) []

lba : ℕ → Lba
lba a = record { 0 = a }

-- in force are p; both sectors are written; the addresses that the theorems are used for are not named
facts :
    (setting_in (medium_of 2) (drive_at made.outcome.controller 2) (length (image_of 2 made.images)) ≡ Some p)
    × (setting_in (medium_of 2) (drive_at wrote.outcome.controller 2) (length (image_of 2 wrote.images)) ≡ Some p)
    × (wrote.outcome.answer.sectors ≡ 2)
    × (content_of p (lba 17) (image_of 2 made.images) ≡ Bytes (replicate 128 0xE5))
    × (part 0 16 (image_of 2 made.images) ≡ config ++ replicate 6 0)
    × (part 4368 2 (image_of 2 made.images) ≡ 0xEE ∷ 0xED ∷ [])
    × ((drive_at made.outcome.controller 2).config ≡ config)
    × (image_of 3 made.images ≡ replicate 20 5)
    × (setting_in (medium_of 3) (drive_at made.outcome.controller 3) (length (image_of 3 made.images)) ≡ None)
    × (is_good 2 wrote.outcome.answer ≡ true)
    × ((drive_at made.outcome.controller 2).known ≡ true)
unfolding p start then block config sectors made wrote lba pick part splice rows first_from first_below is_some some_below same_bytes medium_of is_floppy
    is_in ranges_of size_for fitted_to fields_in setting_by setting_of is_valid label_setting label_holds empty_from lay_at place laid layout_of id_bytes id_in id_for
    own_id with_sector flag_of partner_of is_moved is_taken track_bytes with_track slot_id slot_data with_data first_id taken_by where_by where_of holds slot_used
    sector_in sector_from sector_found state_by state_of splits pair_split slot_made slots_made formatted sound_from begun ended write_slot onward found writing
    content_in content_of block_of count_of from_buffer check_number is_among row_for judged present_with is_unknown block_wrong control_wrong with_params
    interleave_wrong past_end not_spared size_in bytes_of reach_of hits_of in_order judge addressed sense_of blank_drive drive_at sensed setting_in failed good
    unless_named plain_byte plain_fill fill_of made_at drive_formatted pending_ended format_drive alone_tests format_track transfer_ending transferred write
    initialized initialized_by initialize do_free do_track do_sectors as_effect do_disk carry_out view_of obey image_of left on_drive execute loaded_by loaded
    fresh reset_of is_good is_whole block_length is_copy
facts = (refl, refl, refl, refl, refl, refl, refl, refl, refl, refl, refl)

and_off : (x : Bool) → (x && false) ≡ false
and_off true = refl
and_off false = refl

spared : ((r : Answer) → r.sectors ≡ 2 → named 2 p (block 0x0A 15 2) sectors r (lba 17) ≡ false)
    × ((r : Answer) → named 2 p (block 0x06 16 1) [] r (lba 15) ≡ false)
unfolding p block lba named named_by on_tracks one_track block_of row_for is_whole block_length pick is_copy
spared = (λ r e. rw e refl, λ r. and_off (is_good 2 r))

given : (part 0 128 sectors ≡ replicate 128 7) × (part 128 128 sectors ≡ replicate 128 8)
unfolding sectors part
given = (refl, refl)

-- By the theorems: sectors written read as given, their neighbour and a sector of the other track as before.
reads :
    (content_of p (lba 15) (image_of 2 wrote.images) ≡ Bytes (replicate 128 7))
    × (content_of p (lba 16) (image_of 2 wrote.images) ≡ Bytes (replicate 128 8))
    × (content_of p (lba 17) (image_of 2 wrote.images) ≡ Bytes (replicate 128 0xE5))
    × (content_of p (lba 15) (image_of 2 remade.images) ≡ Bytes (replicate 128 7))
unfolding p lba wrote remade then block block_of row_for NoOtherRecord WrittenReads
reads =
    let c = made.outcome.controller in
    let first : content_of p (lba 15) (image_of 2 wrote.images) ≡ Bytes (part 0 128 sectors) =
    written_reads c (block 0x0A 15 2) sectors [] made.images p refl refl facts.0 0 (omega (arith, facts.2)) in
    let second : content_of p (lba 16) (image_of 2 wrote.images) ≡ Bytes (part 128 128 sectors) =
    written_reads c (block 0x0A 15 2) sectors [] made.images p refl refl facts.0 1 (omega (arith, facts.2)) in
    let other : content_of p (lba 17) (image_of 2 wrote.images) ≡ content_of p (lba 17) (image_of 2 made.images) =
    no_other_record c (block 0x0A 15 2) sectors [] made.images 2 p facts.0 (lba 17) (omega arith) (spared.0 _ facts.2) in
    let across : content_of p (lba 15) (image_of 2 remade.images) ≡ content_of p (lba 15) (image_of 2 wrote.images) =
    no_other_record wrote.outcome.controller (block 0x06 16 1) [] [] wrote.images 2 p facts.1 (lba 15) (omega arith) (spared.1 _) in
    (first ∙ ap Bytes given.0, second ∙ ap Bytes given.1, other ∙ facts.3, across ∙ first ∙ ap Bytes given.0)

-- a Write is neither Format Drive nor Initialize
other_command : (r : Answer) → (Is (OnDisk (TrackWork FormatDrive)) 2 (block 0x0A 15 2) r → ⊥) × (Is (Free Initialize) 2 (block 0x0A 15 2) r → ⊥)
unfolding Is block block_of row_for
other_command r = (
  λ is. let command = is.2 in let clash : ◌≡◌ {A = ℕ} 0 1 = cc in omega (arith, clash),
  λ is. let command = is.2 in let clash : ◌≡◌ {A = ℕ} 0 1 = cc in omega (arith, clash),
)

-- By the theorems: the Write leaves the label, the parameters in force, the bytes past the last track and the drive without
-- parameters; and since its status is good, both sectors are done.
stays :
    (part 0 16 (image_of 2 wrote.images) ≡ config ++ replicate 6 0)
    × ((drive_at wrote.outcome.controller 2).config ≡ config)
    × (part 4368 2 (image_of 2 wrote.images) ≡ 0xEE ∷ 0xED ∷ [])
    × (image_of 3 wrote.images ≡ replicate 20 5)
    × (wrote.outcome.answer.sectors ≡ count_of (block_of (block 0x0A 15 2)))
    × ((drive_at wrote.outcome.controller 2).known ≡ true)
    × (length (image_of 2 wrote.images) ≡ length (image_of 2 made.images))
unfolding p wrote then LabelStays ParametersStay PastStays NoneWithoutParameters GoodWrites block block_of row_for
stays =
    let c = made.outcome.controller in
    let save = block 0x0A 15 2 in (
      label_stays c save sectors [] made.images 2 (other_command _).0 ∙ facts.4,
      (parameters_stay c save sectors [] made.images 2 (other_command _).1).0 ∙ facts.6,
      (past_stays c save sectors [] made.images 2).1 p facts.0 4368 2 (omega arith) ∙ facts.5,
      none_without_parameters c save sectors [] made.images 3 facts.8 ∙ facts.7,
      (good_writes c save sectors [] made.images refl refl facts.9).2,
      (parameters_stay c save sectors [] made.images 2 (other_command _).1).1 ∙ facts.10,
      (past_stays c save sectors [] made.images 2).0,
    )
