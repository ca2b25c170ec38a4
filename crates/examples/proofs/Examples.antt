-- Document 01, 'Proved examples': the ten, together as a single fact.
use Prim.Native.Nat.{ℕ}
use mathlib.Core.Path.{◌≡◌, refl}
use mathlib.Core.Bool.{true, false}
use mathlib.Core.List.{List, [], ◌∷◌, ◌++◌}
use lib.ListN.{get_or, replicate}
use Rattle.base.specs.Pick.{pick}
use Rattle.base.specs.Part.{part, splice, rows}
use Rattle.base.specs.Same.{same_bytes}
use Rattle.base.specs.First.{first_from, first_below, is_some, some_below}
use Rattle.geometry.specs.declared.params.Lba.{Lba}
use Rattle.geometry.specs.declared.params.Track.{Track}
use Rattle.geometry.specs.declared.params.Params.{Params}
use Rattle.geometry.specs.declared.medium.Medium.TheVariants.{HardDisk}
use Rattle.geometry.specs.Config.{Setting}
use Rattle.std.specs.Prelude.{Some, None}
use Rattle.geometry.specs.Params.{image_length, track_count, track_of, cylinder_of, head_of, sector_of, track}
use Rattle.geometry.specs.Medium.{medium_of, is_floppy, is_in, ranges_of}
use Rattle.geometry.specs.Config.{size_for, fitted_to, fields_in, setting_by, setting_of, is_valid}
use Rattle.interleave.specs.Layout.{empty_from, lay_at, place, laid, layout_of}
use Rattle.track.specs.declared.state.State.TheVariants.{Moved, Taken}
use Rattle.track.specs.Id.{id_bytes, id_in, id_for, own_id, with_sector}
use Rattle.track.specs.State.{flag_of, partner_of, is_bad, is_moved, is_taken, is_taken_by_other}
use Rattle.track.specs.Image.{track_bytes, with_track, slot_id, slot_data, first_id}
use Rattle.track.specs.Find.{taken_by, where_by, where_of, holds, slot_used, sector_in, sector_from, sector_found}
use Rattle.track.specs.Pair.{state_by, state_of, one_below, splits, pair_split}
use Rattle.formatter.specs.Format.{slot_made, slots_made, formatted, sound_from}
use Rattle.sectors.specs.Transfer.{begun, ended, read_slot, onward, found, reading}
use Rattle.model.specs.declared.block.Block.{Block}
use Rattle.model.specs.declared.record.Drive.{Drive}
use Rattle.model.specs.declared.record.Controller.{Controller}
use Rattle.model.specs.Verdicts.{Faulty, Passed}
use Rattle.model.specs.Block.{block_of, count_of, from_buffer, keeps, alternate_of, is_copy, block_length, is_whole}
use Rattle.model.specs.Table.{check_number, is_among, row_for}
use Rattle.model.specs.declared.verdict.View.{View}
use Rattle.model.specs.Checks.{judged, present_with, is_unknown, block_wrong, control_wrong, with_params, interleave_wrong, past_end, not_spared, size_in, bytes_of, reach_of, hits_of, in_order, judge}
use Rattle.model.specs.Sense.{addressed, sense_of}
use Rattle.model.specs.Record.{blank_drive, drive_at, sensed, setting_in, bare_answer, failed, good, unless_named}
use Rattle.model.specs.Commands.{plain_byte, plain_fill, fill_of, made_at, drive_formatted, pending_ended, format_drive, transfer_ending, transferred, read}
use Rattle.model.specs.Commands.{assign_tests, assigned, missing_in, alternated, assign_alternate, do_free, do_track, do_sectors, as_effect, do_disk, carry_out}
use Rattle.model.specs.Engine.{view_of, obey, Result, images_of, image_of, left, on_drive, execute}
use Rattle.model.specs.Machine.{Kind, fresh_disk, becomes, filled, moving, assign_to, parted, parted_by, some_parted}

-- sector s of a track of n, interleave f, is in slot k
InSlot : (n f s k : ℕ) → Type 0
InSlot n f s k = get_or (layout_of n f) k n ≡ s

-- ten configuration bytes: C, H, and 1 for D = 256 or 2 for D = 512
config : (high low heads size : ℕ) → List ℕ
config high low heads size = high ∷ low ∷ heads ∷ 0 ∷ size ∷ 0 ∷ 0 ∷ 0 ∷ 0 ∷ 0x0B ∷ []

-- the image length of a configuration, in an image that is large enough
length_of : Setting → ℕ
length_of None = 0
length_of (Some p) = image_length p

length_for : List ℕ → ℕ
length_for c = length_of (setting_of HardDisk c 100000000)

-- a drive of one track, ready
one : (size : ℕ) → View
one size = record { medium = HardDisk; present = true; setting = setting_of HardDisk (config 0 1 1 size) 8856; pending = false }

block : (a b c d e f : ℕ) → Block
block a b c d e f = block_of (a ∷ b ∷ c ∷ d ∷ e ∷ f ∷ [])

-- H 4, n 17; the others do not matter
four : Params
four = record { cylinders = 306; heads = 4; sectors = 17; size = 512 }

address : ℕ → Lba
address a = record { 0 = a }

-- a controller with these configurations in force on drives 0 and 1
ready : List ℕ → Drive
ready bytes = record { sense = replicate 4 0; config = bytes; known = true; pending = false }

on : (config₀ config₁ : List ℕ) → Controller
on config₀ config₁ = record { buffer = replicate 512 0; drives = ready config₀ ∷ ready config₁ ∷ blank_drive ∷ blank_drive ∷ [] }

-- a call with what the call before left: opcode, the two low bytes of the address, interleave or count
then : Result → (opcode middle low extra : ℕ) → (given area : List ℕ) → Result
then r opcode middle low extra given area = execute r.outcome.controller (opcode ∷ 0 ∷ middle ∷ low ∷ extra ∷ 0 ∷ []) given area r.images

begins : Controller → (image0 : List ℕ) → Result
begins c image0 = record { outcome = record { controller = c; answer = bare_answer 0 }; area = []; images = images_of image0 [] [] [] }

-- status, both counts, the sense of drive 0
ends : Result → List ℕ
ends r =
    r.outcome.answer.number ∷ r.outcome.answer.status ∷ r.outcome.answer.sectors ∷ r.outcome.answer.bytes
    ∷ (drive_at r.outcome.controller 0).sense

-- (7) drive 0 has one track of 32, formatted; the data area has 512 bytes
track_made_lem : Result
track_made_lem = then (begins (on (config 0 1 1 1) []) (replicate 8464 0)) 0x04 0 0 1 [] []

read_for : (count : ℕ) → Result
read_for count = then track_made_lem 0x08 0 31 count [] (replicate 512 0xFF)

-- (8) drive 0 has 4 cylinders and 2 heads, so that track 3 begins at address 96 and 5 at 160; track 3 is assigned to 5
eight : Params
eight = record { cylinders = 4; heads = 2; sectors = 32; size = 256 }

moved : Result
moved = then (begins (on (config 0 4 2 1) []) (replicate 67600 0)) 0x0E 0 96 1 (0 ∷ 0 ∷ 160 ∷ []) []

-- (9) Format Drive from the address on
format_from : (low : ℕ) → Result
format_from low = then moved 0x04 0 low 1 [] []

-- the machine's states of tracks
kinds : Track → Kind
kinds = (assign_to eight false (track 3) (track 5) 1 (0x6C ∷ []) (fresh_disk 67600)).kind

-- (10) Seek on drive 1 to address 20h; then Request Sense, into an area of six bytes
sought : Result
sought = execute (on [] (config 0 1 1 1)) (0x0B ∷ 0x20 ∷ 0 ∷ 0x20 ∷ 0 ∷ 0 ∷ []) [] [] (images_of [] (replicate 8464 0) [] [])

asked : Result
asked = execute sought.outcome.controller (0x03 ∷ 0x20 ∷ 0 ∷ 0 ∷ 0 ∷ 0 ∷ []) [] (replicate 6 0xFF) sought.images

examples :
    -- (1) n 17, f 2: sectors 8, 9 in slots 16, 1.
    (InSlot 17 2 8 16 × InSlot 17 2 9 1)
    -- (2) n 32, f 2: 15, 16, 31 in 30, 1, 31.
    × (InSlot 32 2 15 30 × InSlot 32 2 16 1 × InSlot 32 2 31 31)
    -- (3) n 32, f 16: 1, 2, 3 in 16, 1, 17.
    × (InSlot 32 16 1 16 × InSlot 32 16 2 1 × InSlot 32 16 3 17)
    -- (4) n 17, f 16: 2 in 15; f 17 is 22h.
    × (InSlot 17 16 2 15 × (judge (block 0x05 0 0 0 16 0) (one 2) 0 0 ≡ Passed) × (judge (block 0x05 0 0 0 17 0) (one 2) 0 0 ≡ Faulty 0x22 (address 0)))
    -- (5) Lengths 8,464 (C = H = 1, D 256), 8,856 (D 512), 63,365,136 (1,024, 7, D 512).
    × ((length_for (config 0 1 1 1) ≡ 8464) × (length_for (config 0 1 1 2) ≡ 8856) × (length_for (config 4 0 7 2) ≡ 63365136))
    -- (6) H 4, n 17, address 100: cylinder 1, head 1, sector 15.
    × ((cylinder_of four (track_of four (address 100)) ≡ 1) × (head_of four (track_of four (address 100)) ≡ 1) × (sector_of four (address 100) ≡ 15))
    -- (7) One track of 32: read 31 count 1 good, count 2 is 21h.
    × ((ends (read_for 1) ≡ 0 ∷ 0 ∷ 1 ∷ 256 ∷ 0 ∷ 0 ∷ 0 ∷ 0 ∷ []) × (same_bytes (read_for 1).area (replicate 256 0x6C ++ replicate 256 0xFF) ≡ true)
    × (ends (read_for 2) ≡ 0 ∷ 2 ∷ 0 ∷ 0 ∷ 0xA1 ∷ 0 ∷ 0 ∷ 31 ∷ []) × (same_bytes (read_for 2).area (replicate 512 0xFF) ≡ true))
    -- (8) H 2, track 3 moved to 5: slot 0 A1 00 01 01 00 02 00 05; its partner A1 00 02 01 00 03 00 03. In the image, and as IDs.
    × ((slot_id eight 0 (track_bytes eight (track 3) (image_of 0 moved.images)) ≡ 0xA1 ∷ 0x00 ∷ 0x01 ∷ 0x01 ∷ 0x00 ∷ 0x02 ∷ 0x00 ∷ 0x05 ∷ [])
    × (slot_id eight 0 (track_bytes eight (track 5) (image_of 0 moved.images)) ≡ 0xA1 ∷ 0x00 ∷ 0x02 ∷ 0x01 ∷ 0x00 ∷ 0x03 ∷ 0x00 ∷ 0x03 ∷ [])
    × (id_bytes (id_for eight (track 3) (Moved (track 5)) 0) ≡ 0xA1 ∷ 0x00 ∷ 0x01 ∷ 0x01 ∷ 0x00 ∷ 0x02 ∷ 0x00 ∷ 0x05 ∷ [])
    × (id_bytes (id_for eight (track 5) (Taken (track 3)) 0) ≡ 0xA1 ∷ 0x00 ∷ 0x02 ∷ 0x01 ∷ 0x00 ∷ 0x03 ∷ 0x00 ∷ 0x03 ∷ []))
    -- (9) Then Format Drive from track 4 is 1Dh; from 3 or 6 it runs. The machine says the same.
    × ((ends (format_from 128) ≡ 0 ∷ 2 ∷ 0 ∷ 0 ∷ 0x9D ∷ 0 ∷ 0 ∷ 128 ∷ []) × (ends (format_from 96) ≡ replicate 8 0) × (ends (format_from 192) ≡ replicate 8 0)
    × (some_parted kinds (track 4) (track_count eight) ≡ true) × (some_parted kinds (track 3) (track_count eight) ≡ false)
    × (some_parted kinds (track 6) (track_count eight) ≡ false))
    -- (10) Drive 1, address 20h past the end: sense A1 20 00 20.
    × (asked.area ≡ 0xA1 ∷ 0x20 ∷ 0x00 ∷ 0x20 ∷ 0xFF ∷ 0xFF ∷ [])
unfolding InSlot config length_of length_for one block four address ready on then begins ends track_made_lem read_for eight moved format_from kinds sought asked
    part splice rows first_from first_below is_some some_below same_bytes pick medium_of is_floppy is_in ranges_of size_for fitted_to fields_in setting_by setting_of empty_from lay_at place laid layout_of
    flag_of partner_of id_bytes id_in id_for own_id track_bytes with_track slot_id first_id with_sector slot_made slots_made formatted
    state_by state_of one_below splits pair_split block_of count_of row_for present_with
    judge judged in_order hits_of is_unknown block_wrong control_wrong with_params interleave_wrong past_end not_spared is_valid reach_of size_in bytes_of is_among check_number
    addressed sense_of blank_drive drive_at sensed setting_in failed good unless_named plain_byte plain_fill fill_of from_buffer keeps alternate_of made_at assign_tests assigned missing_in alternated assign_alternate drive_formatted sound_from format_drive pending_ended as_effect do_free do_track do_sectors do_disk carry_out
    is_bad is_moved is_taken is_taken_by_other taken_by where_by where_of holds slot_used sector_in sector_from sector_found slot_data begun ended read_slot onward found reading transfer_ending transferred read
    view_of obey image_of left on_drive execute is_copy block_length is_whole
    fresh_disk becomes filled moving assign_to parted parted_by some_parted
examples = (
  (refl, refl),
  (refl, refl, refl),
  (refl, refl, refl),
  (refl, refl, refl),
  (refl, refl, refl),
  (refl, refl, refl),
  (refl, refl, refl, refl),
  (refl, refl, refl, refl),
  (refl, refl, refl, refl, refl, refl),
  refl,
)
