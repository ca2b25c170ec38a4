-- Damaged images: how Check Track, Read and Write of drive 1 end there, with answer, sense, buffer and image. Each is asked in the middle
-- of a track, so that the address shows whose it is.
use Prim.Native.Nat.{ℕ}
use mathlib.Core.Path.{◌≡◌, refl}
use mathlib.Core.Bool.{true, false}
use mathlib.Core.List.{List, [], ◌∷◌, ◌++◌}
use lib.ListN.{replicate}
use Rattle.base.specs.Pick.{pick}
use Rattle.base.specs.Part.{part, splice}
use Rattle.base.specs.First.{first_from, first_below, is_some, some_below, every_below}
use Rattle.base.specs.Same.{same_bytes}
use Rattle.std.specs.Prelude.{Some}
use Rattle.interleave.specs.Layout.{empty_from, lay_at, place, laid, layout_of}
use Rattle.track.specs.Id.{id_bytes, id_in, id_for, own_id, with_sector}
use Rattle.track.specs.State.{flag_of, partner_of}
use Rattle.track.specs.Image.{track_bytes, with_track, slot_id, slot_data, with_data, first_id}
use Rattle.track.specs.Find.{taken_by, where_by, where_of, holds, slot_used, sector_in, sector_from, sector_found}
use Rattle.formatter.specs.Check.{id_is, ids_are, home_state, checked_on, check_code}
use Rattle.sectors.specs.Transfer.{begun, ended, read_slot, write_slot, onward, found, reading, writing}
use Rattle.model.specs.declared.table.Command.{Command}
use Rattle.model.specs.declared.table.Command.TheVariants.{OnDisk}
use Rattle.model.specs.declared.table.DiskCommand.TheVariants.{TrackWork, SectorWork}
use Rattle.model.specs.declared.table.TrackCommand.TheVariants.{CheckTrack}
use Rattle.model.specs.declared.table.SectorCommand.TheVariants.{Read, Write}
use Rattle.model.specs.Block.{block_of, count_of}
use Rattle.model.specs.Checks.{judged}
use Rattle.model.specs.Sense.{addressed, sense_of}
use Rattle.model.specs.Record.{sensed, failed, good, Effect, unless_named}
use Rattle.model.specs.Commands.{check_tests, check_track, transfer_ending, transferred, read, write, do_track, do_sectors, as_effect, do_disk, carry_out}
use Rattle.model.proofs.anchors.Damage.{p, slot, whole, hurt}

-- a command of drive 1 at this address; the interleave is 2, or it is the count; the sense has a code, the buffer 1s
at : (address extra : ℕ) → (given image : List ℕ) → Command → Effect
at address extra given image command =
    carry_out (block_of (0 ∷ 0x20 ∷ 0 ∷ address ∷ extra ∷ 0 ∷ [])) (Some p) given
    (record { sense = 0x16 ∷ 0x20 ∷ 0 ∷ 0 ∷ []; config = replicate 10 0; known = true; pending = false }) (replicate 512 1) image command

check : (address : ℕ) → List ℕ → Effect
check address image = at address 2 [] image (OnDisk (TrackWork CheckTrack))

reads : (address count : ℕ) → List ℕ → Effect
reads address count image = at address count [] image (OnDisk (SectorWork Read))

writes : (address count : ℕ) → List ℕ → Effect
writes address count image = at address count (21 ∷ 22 ∷ 23 ∷ []) image (OnDisk (SectorWork Write))

-- number, status, sectors and bytes, the sense, the bytes handed over; and the buffer's first byte
ends : Effect → List ℕ
ends e =
    e.ending.answer.number ∷ e.ending.answer.status ∷ e.ending.answer.sectors ∷ e.ending.answer.bytes
    ∷ (e.ending.entry.sense ++ (e.handed ++ part 0 1 e.buffer))

-- no sector done, this sense; the buffer stays
stopped : (a b c d : ℕ) → List ℕ
stopped a b c d = 0 ∷ 0x22 ∷ 0 ∷ 0 ∷ a ∷ b ∷ c ∷ d ∷ 1 ∷ []

-- track 0: no A1h; another cylinder; a flag above 3; and without the slot of sector 1
unmarked : List ℕ
unmarked = hurt 0 0 0 9 whole

misplaced : List ℕ
misplaced = hurt 0 0 2 9 whole

unflagged : List ℕ
unflagged = hurt 0 0 5 9 whole

without : List ℕ
without = hurt 0 2 0 0 whole

-- track 3 does not name track 2 back
parted : List ℕ
parted = hurt 3 0 7 1 whole

checked :
    (ends (check 1 whole) ≡ 0 ∷ 0x20 ∷ 0 ∷ 0 ∷ 0 ∷ 0x20 ∷ 0 ∷ 0 ∷ 1 ∷ [])
    × (ends (check 1 unmarked) ≡ stopped 0x92 0x20 0 1)
    × (ends (check 1 misplaced) ≡ stopped 0x95 0x20 0 1)
    × (ends (check 1 unflagged) ≡ stopped 0x90 0x20 0 1)
    × (ends (check 1 without) ≡ stopped 0x9A 0x20 0 1)
    × (ends (check 7 parted) ≡ stopped 0x9E 0x20 0 7)
    × ((check 7 parted).image ≡ parted)
unfolding at check ends stopped unmarked misplaced unflagged without parted p slot whole hurt carry_out do_disk do_track as_effect check_track check_tests
    judged unless_named failed good sensed addressed sense_of block_of check_code checked_on ids_are id_is home_state same_bytes every_below some_below is_some
    first_below first_from where_of where_by taken_by own_id first_id id_in track_bytes slot_id part pick with_sector id_bytes id_for flag_of partner_of layout_of
    laid place lay_at empty_from
checked = (refl, refl, refl, refl, refl, refl, refl)

-- Sector 0 of track 0 is done where sector 1 is not there; on a moved track its own address counts, not its partner's.
transferred_there :
    (ends (reads 1 1 unmarked) ≡ stopped 0x92 0x20 0 1)
    × (ends (reads 1 1 misplaced) ≡ stopped 0x95 0x20 0 1)
    × (ends (reads 1 1 unflagged) ≡ stopped 0x90 0x20 0 1)
    × (ends (reads 7 1 parted) ≡ stopped 0x9E 0x20 0 7)
    × (ends (reads 0 3 without) ≡ 0 ∷ 0x22 ∷ 1 ∷ 1 ∷ 0x94 ∷ 0x20 ∷ 0 ∷ 1 ∷ 0x6C ∷ 0x6C ∷ [])
    × (ends (writes 1 1 unmarked) ≡ stopped 0x92 0x20 0 1)
    × (ends (writes 1 1 misplaced) ≡ stopped 0x95 0x20 0 1)
    × (ends (writes 1 1 unflagged) ≡ stopped 0x90 0x20 0 1)
    × (ends (writes 7 1 parted) ≡ stopped 0x9E 0x20 0 7)
    × (ends (writes 0 3 without) ≡ 0 ∷ 0x22 ∷ 1 ∷ 0 ∷ 0x94 ∷ 0x20 ∷ 0 ∷ 1 ∷ 21 ∷ [])
    × ((writes 7 1 parted).image ≡ parted)
    × ((writes 0 3 without).image ≡ hurt 0 0 8 21 without)
unfolding at reads writes ends stopped unmarked misplaced unflagged without parted p slot whole hurt
    carry_out do_disk do_sectors read write transferred transfer_ending failed good sensed addressed sense_of block_of count_of
    sector_found sector_from sector_in slot_used holds where_of where_by taken_by own_id first_id id_in track_bytes slot_id part first_below first_from pick
    reading read_slot slot_data writing write_slot onward found begun ended with_track with_data splice
transferred_there = (refl, refl, refl, refl, refl, refl, refl, refl, refl, refl, refl, refl)
