-- Assign Alternate with keep (request E7) on images, byte for byte, and the senses of what it refuses: one cylinder, three heads, three
-- sectors of two bytes. The steps between are in keeping's Example.
use Prim.Native.Nat.{ℕ}
use mathlib.Core.Path.{◌≡◌, refl}
use mathlib.Core.Bool.{true, false}
use mathlib.Core.List.{List, [], ◌∷◌, ◌++◌, map}
use native.Mathlib.Omega.{arith}
use lib.ListN.{replicate}
use Rattle.base.specs.Pick.{pick}
use Rattle.base.specs.Part.{part, splice, rows}
use Rattle.base.specs.First.{first_from, first_below}
use Rattle.geometry.specs.declared.params.Params.{Params}
use Rattle.std.specs.Prelude.{Some}
use Rattle.geometry.specs.Medium.{medium_of, is_floppy}
use Rattle.interleave.specs.Layout.{empty_from, lay_at, place, laid, layout_of}
use Rattle.track.specs.Id.{id_bytes, id_in, id_for, own_id, with_sector}
use Rattle.track.specs.State.{flag_of, partner_of, is_bad, is_moved, is_taken, is_taken_by_other}
use Rattle.track.specs.Image.{track_bytes, with_track, slot_id, slot_data, first_id}
use Rattle.track.specs.Find.{taken_by, where_by, where_of, holds, slot_used, sector_in, sector_from, sector_found}
use Rattle.track.specs.Pair.{state_by, state_of}
use Rattle.formatter.specs.Format.{slot_made, slots_made, formatted}
use Rattle.contents.specs.Content.{read_bytes, content_in, content_at}
use Rattle.keeping.specs.Power.{may_tear, new_bytes, with_bytes, torn, finished}
use Rattle.keeping.specs.Keep.{code_of, first_missing, keep_code, after_write, write_with, write_of, after_writes, kept}
use Rattle.model.specs.declared.table.Command.TheVariants.{OnDisk}
use Rattle.model.specs.declared.table.DiskCommand.TheVariants.{TrackWork}
use Rattle.model.specs.declared.table.TrackCommand.TheVariants.{AssignAlternate}
use Rattle.model.specs.declared.record.Drive.{Drive}
use Rattle.model.specs.Block.{block_of, from_buffer, keeps, alternate_of}
use Rattle.model.specs.Checks.{judged}
use Rattle.model.specs.Power.{CutShort}
use Rattle.model.specs.Records.{one_track, on_tracks}
use Rattle.model.specs.Sense.{addressed, sense_of}
use Rattle.model.specs.Record.{sensed, good, failed, unless_named, Effect}
use Rattle.model.specs.Commands.{plain_byte, plain_fill, fill_of, made_at, assign_tests, missing_in, assigned, alternated, assign_alternate, do_track, as_effect, do_disk, carry_out}

p : Params
p = record { cylinders = 1; heads = 3; sectors = 3; size = 2 }

slot : (a b c d e f g h i j : ℕ) → List ℕ
slot a b c d e f g h i j = a ∷ b ∷ c ∷ d ∷ e ∷ f ∷ g ∷ h ∷ i ∷ j ∷ []

-- a slot of track 1 and of track 2: sector, flag, partner, data
of_a : (s flag partner x y : ℕ) → List ℕ
of_a s flag partner x y = slot 0xA1 0 0 1 s flag 0 partner x y

of_b : (s flag partner x y : ℕ) → List ℕ
of_b s flag partner x y = slot 0xA1 0 0 2 s flag 0 partner x y

-- label; track 0 with this slot 0; tracks 1 and 2, slot by slot; a byte past the last track
under : (first a b c d e f : List ℕ) → List ℕ
under first a b c d e f =
    replicate 16 0xEE ++ (first ++ slot 0xA1 0 0 0 1 0 0 0 3 4 ++ slot 0xA1 0 0 0 2 0 0 0 5 6) ++ (a ++ b ++ c) ++ (d ++ e ++ f) ++ (0xEE ∷ [])

-- slot 0 of track 0 has lost its mark
image : (a b c d e f : List ℕ) → List ℕ
image a b c d e f = under (slot 0xFF 0 0 0 0 0 0 0 1 2) a b c d e f

-- track 1 has sectors 1, 2, 0 in its slots; track 2 is sound, but has lost sector 1
old : List ℕ
old = image (of_a 1 0 0 11 12) (of_a 2 0 0 21 22) (of_a 0 0 0 31 32) (of_b 0 0 0 7 7) (of_b 2 0 0 8 8) (of_b 2 0 0 9 9)

-- the same, with another slot 0 of track 0
old_under : List ℕ → List ℕ
old_under first = under first (of_a 1 0 0 11 12) (of_a 2 0 0 21 22) (of_a 0 0 0 31 32) (of_b 0 0 0 7 7) (of_b 2 0 0 8 8) (of_b 2 0 0 9 9)

-- power has failed: one slot of track 2 is written, and the data of the next are torn
half : List ℕ
half = image (of_a 1 0 0 11 12) (of_a 2 0 0 21 22) (of_a 0 0 0 31 32) (of_b 0 3 1 31 32) (of_b 2 3 1 98 99) (of_b 2 0 0 9 9)

-- track 1 is moved to track 2, with interleave 2
moved : List ℕ
moved = image (of_a 0 2 2 11 12) (of_a 2 2 2 21 22) (of_a 1 2 2 31 32) (of_b 0 3 1 31 32) (of_b 2 3 1 21 22) (of_b 1 3 1 11 12)

-- drive 0 with a code in its sense
controller : Drive
controller = record { sense = 0x16 ∷ 0 ∷ 0 ∷ 0 ∷ []; config = replicate 10 0; known = true; pending = false }

-- Assign Alternate with interleave 2: A at this address, control byte, B at this address, on an image; the buffer has other bytes
sent : (address control alternate : ℕ) → (image : List ℕ) → Effect
sent address control alternate image =
    carry_out (block_of (0x0E ∷ 0 ∷ 0 ∷ address ∷ 2 ∷ control ∷ [])) (Some p) (0 ∷ 0 ∷ alternate ∷ []) controller (71 ∷ 72 ∷ 73 ∷ []) image (OnDisk (TrackWork AssignAlternate))

-- what it leaves: the image, the buffer; what it says: number, status, counts, then the sense
left : Effect → List ℕ
left e = e.image ++ e.buffer ++ e.handed

saying : Effect → List ℕ
saying e = e.ending.answer.number ∷ e.ending.answer.status ∷ e.ending.answer.sectors ∷ e.ending.answer.bytes ∷ e.ending.entry.sense

moves :
    -- with keep, with control bit 7 too, by any addresses of the two tracks; the sense is 0, the buffer stays
    (map (λ (x : List ℕ). left (sent 3 0x10 6 x)) (old ∷ half ∷ []) ≡ replicate 2 (moved ++ (71 ∷ 72 ∷ 73 ∷ [])))
    × (left (sent 5 0x90 8 old) ≡ moved ++ (71 ∷ 72 ∷ 73 ∷ []))
    × (map saying (sent 3 0x10 6 old ∷ sent 3 0x10 6 half ∷ sent 5 0x90 8 old ∷ []) ≡ replicate 3 (0 ∷ 0 ∷ 0 ∷ 0 ∷ 0 ∷ 0 ∷ 0 ∷ 0 ∷ []))
    -- a taken track 2 whose partner is track 1 is free for it without keep too: both are formatted
    × (left (sent 3 0 6 half)
    ≡ image (of_a 0 2 2 0x6C 0x6C) (of_a 2 2 2 0x6C 0x6C) (of_a 1 2 2 0x6C 0x6C) (of_b 0 3 1 0x6C 0x6C) (of_b 2 3 1 0x6C 0x6C) (of_b 1 3 1 0x6C 0x6C) ++ (71 ∷ 72 ∷ 73 ∷ []))
unfolding p slot of_a of_b under image old old_under half moved controller sent left saying layout_of laid place lay_at empty_from carry_out do_disk do_track as_effect assign_alternate assign_tests missing_in alternated assigned
    keeps keep_code first_missing code_of kept after_writes after_write write_of write_with made_at plain_byte plain_fill fill_of from_buffer medium_of is_floppy block_of alternate_of judged unless_named
    good failed sensed sense_of addressed is_bad is_moved is_taken is_taken_by_other state_of state_by with_track formatted slots_made slot_made with_sector rows pick splice part
    content_at content_in read_bytes sector_found sector_from sector_in where_of where_by first_id slot_id slot_data track_bytes id_in own_id taken_by slot_used first_below first_from holds
    id_bytes id_for flag_of partner_of
moves = (refl, refl, refl, refl)

-- A sector is missing, or slot 0 is no good: the code of the first missing sector, the block's address, and nothing else changes; without
-- keep it is not asked for. Track 2 is taken by track 1, so that it is not free for track 0; nor is a moved track.
refused :
    (map saying (sent 8 0x10 3 old ∷ sent 2 0x10 6 old ∷ sent 2 0x10 6 half ∷ sent 1 0x10 4 moved ∷ [])
    ≡ (0 ∷ 2 ∷ 0 ∷ 0 ∷ 0x94 ∷ 0 ∷ 0 ∷ 8 ∷ []) ∷ (0 ∷ 2 ∷ 0 ∷ 0 ∷ 0x92 ∷ 0 ∷ 0 ∷ 2 ∷ []) ∷ (0 ∷ 2 ∷ 0 ∷ 0 ∷ 0x9D ∷ 0 ∷ 0 ∷ 6 ∷ []) ∷ (0 ∷ 2 ∷ 0 ∷ 0 ∷ 0x9F ∷ 0 ∷ 0 ∷ 4 ∷ []) ∷ [])
    × (map left (sent 8 0x10 3 old ∷ sent 2 0x10 6 old ∷ []) ≡ replicate 2 (old ++ (71 ∷ 72 ∷ 73 ∷ [])))
    × (saying (sent 8 0 3 old) ≡ replicate 8 0)
    -- slot 0 with another head, with flag 4, with flag 1
    × (map (λ (first : List ℕ). saying (sent 1 0x10 6 (old_under first))) (slot 0xA1 0 0 1 0 0 0 0 1 2 ∷ slot 0xA1 0 0 0 0 4 0 0 1 2 ∷ slot 0xA1 0 0 0 0 1 0 0 1 2 ∷ [])
    ≡ (0 ∷ 2 ∷ 0 ∷ 0 ∷ 0x95 ∷ 0 ∷ 0 ∷ 1 ∷ []) ∷ (0 ∷ 2 ∷ 0 ∷ 0 ∷ 0x90 ∷ 0 ∷ 0 ∷ 1 ∷ []) ∷ (0 ∷ 2 ∷ 0 ∷ 0 ∷ 0x99 ∷ 0 ∷ 0 ∷ 1 ∷ []) ∷ [])
unfolding p slot of_a of_b under image old old_under half moved controller sent left saying layout_of laid place lay_at empty_from carry_out do_disk do_track as_effect assign_alternate assign_tests missing_in alternated assigned
    keeps keep_code first_missing code_of kept after_writes after_write write_of write_with made_at plain_byte plain_fill fill_of from_buffer medium_of is_floppy block_of alternate_of judged unless_named
    good failed sensed sense_of addressed is_bad is_moved is_taken is_taken_by_other state_of state_by with_track formatted slots_made slot_made with_sector rows pick splice part
    content_at content_in read_bytes sector_found sector_from sector_in where_of where_by first_id slot_id slot_data track_bytes id_in own_id taken_by slot_used first_below first_from holds
    id_bytes id_for flag_of partner_of
refused = (refl, refl, refl, refl)

-- ---- What power can leave of it: the image above with data torn at its write 3, and its end
block : List ℕ
block = 0x0E ∷ 0 ∷ 0 ∷ 3 ∷ 2 ∷ 0x10 ∷ []

cuts : CutShort p block (0 ∷ 0 ∷ 6 ∷ []) old half × CutShort p block (0 ∷ 0 ∷ 6 ∷ []) old moved
unfolding block may_tear new_bytes with_bytes p slot of_a of_b under image old old_under half moved controller sent left saying layout_of laid place lay_at empty_from carry_out do_disk do_track as_effect assign_alternate assign_tests missing_in alternated assigned
    keeps keep_code first_missing code_of kept after_writes after_write write_of write_with made_at plain_byte plain_fill fill_of from_buffer medium_of is_floppy block_of alternate_of judged unless_named
    good failed sensed sense_of addressed is_bad is_moved is_taken is_taken_by_other state_of state_by with_track formatted slots_made slot_made with_sector rows pick splice part
    content_at content_in read_bytes sector_found sector_from sector_in where_of where_by first_id slot_id slot_data track_bytes id_in own_id taken_by slot_used first_below first_from holds
    id_bytes id_for flag_of partner_of
cuts = (record { i = 3; within = omega arith; cut = torn (98 ∷ 99 ∷ []) refl refl refl }, record { i = 8; within = omega arith; cut = finished refl })

-- ---- What it names, of tracks 0, 1 and 2: with keep B's addresses alone
naming : map (λ (control : ℕ). map (λ (a : ℕ). on_tracks p (block_of (0x0E ∷ 0 ∷ 0 ∷ 3 ∷ 2 ∷ control ∷ [])) (0 ∷ 0 ∷ 8 ∷ []) (record { 0 = a }) AssignAlternate) (2 ∷ 3 ∷ 5 ∷ 6 ∷ 8 ∷ [])) (0 ∷ 0x10 ∷ 0x20 ∷ 0x90 ∷ [])
    ≡ (false ∷ true ∷ true ∷ true ∷ true ∷ []) ∷ (false ∷ false ∷ false ∷ true ∷ true ∷ []) ∷ (false ∷ true ∷ true ∷ true ∷ true ∷ []) ∷ (false ∷ false ∷ false ∷ true ∷ true ∷ []) ∷ []
unfolding p on_tracks one_track keeps block_of alternate_of
naming = refl
