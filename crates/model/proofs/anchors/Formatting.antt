-- What the format commands write, byte for byte: flags, partners, fills, the label. One cylinder, three heads, two sectors of one byte.
-- And a track formatted step by step.
use Prim.Native.Nat.{ℕ, ◌*◌}
use mathlib.Core.Path.{◌≡◌, refl}
use mathlib.Core.Bool.{true}
use mathlib.Core.List.{List, [], ◌∷◌, ◌++◌}
use lib.ListN.{replicate}
use Rattle.base.specs.Pick.{pick}
use Rattle.base.specs.Part.{part, splice, rows}
use Rattle.base.specs.First.{first_from, first_below, is_some, some_below}
use Rattle.geometry.specs.declared.params.Params.{Params}
use Rattle.std.specs.Prelude.{Some}
use Rattle.geometry.specs.Medium.{medium_of, is_floppy}
use Rattle.geometry.specs.Params.{track}
use Rattle.interleave.specs.Layout.{empty_from, lay_at, place, laid, layout_of}
use Rattle.track.specs.declared.state.State.TheVariants.{Bad}
use Rattle.track.specs.Id.{id_bytes, id_in, id_for, own_id, with_sector}
use Rattle.track.specs.State.{flag_of, partner_of, is_bad, is_moved, is_taken, is_taken_by_other}
use Rattle.track.specs.Image.{track_bytes, with_track, slot_id, first_id}
use Rattle.track.specs.Pair.{state_by, state_of, splits, pair_split}
use Rattle.formatter.specs.Format.{slot_made, slots_made, stepped, after_steps, formatted, sound_from}
use Rattle.model.specs.declared.table.Command.TheVariants.{OnDisk}
use Rattle.model.specs.declared.table.DiskCommand.TheVariants.{TrackWork}
use Rattle.model.specs.declared.table.TrackCommand.{TrackCommand}
use Rattle.model.specs.declared.table.TrackCommand.TheVariants.{FormatDrive, FormatTrack, FormatBadTrack, AssignAlternate}
use Rattle.model.specs.declared.record.Drive.{Drive}
use Rattle.model.specs.declared.record.Controller.{Controller}
use Rattle.model.specs.Block.{block_of, from_buffer, keeps, alternate_of}
use Rattle.model.specs.Checks.{judged}
use Rattle.model.specs.Record.{blank_drive, drive_at, unless_named}
use Rattle.model.specs.Commands.{plain_byte, plain_fill, fill_of, made_at, drive_formatted, format_drive, alone_tests}
use Rattle.model.specs.Commands.{format_track, assign_tests, assigned, missing_in, alternated, assign_alternate, do_track, as_effect, do_disk, carry_out}

p : Params
p = record { cylinders = 1; heads = 3; sectors = 2; size = 1 }

-- the configuration in force, and 7 at the buffer's front
config : List ℕ
config = 1 ∷ 2 ∷ 3 ∷ 4 ∷ 5 ∷ 6 ∷ 7 ∷ 8 ∷ 9 ∷ 10 ∷ []

-- that of drive 2
other : List ℕ
other = 11 ∷ 12 ∷ 13 ∷ 14 ∷ 15 ∷ 16 ∷ 17 ∷ 18 ∷ 19 ∷ 20 ∷ []

entry : List ℕ → Drive
entry bytes = record { sense = replicate 4 0; config = bytes; known = true; pending = true }

controller : Controller
controller = record {
  buffer = 7 ∷ replicate 511 8;
  drives = entry config ∷ blank_drive ∷ entry other ∷ blank_drive ∷ [];
}

-- the image that a command leaves of one that is EEh throughout, two bytes longer than the drive; address and control byte
leaves_on : (drive : ℕ) → TrackCommand → (address control : ℕ) → (given : List ℕ) → List ℕ
leaves_on drive command address control given =
    (carry_out (block_of (0 ∷ (32 * drive) ∷ 0 ∷ address ∷ 1 ∷ control ∷ [])) (Some p) given (drive_at controller drive) controller.buffer (replicate 72 0xEE)
    (OnDisk (TrackWork command))).image

leaves : TrackCommand → (address control : ℕ) → (given : List ℕ) → List ℕ
leaves = leaves_on 0

slot : (a b c d e f g h i : ℕ) → List ℕ
slot a b c d e f g h i = a ∷ b ∷ c ∷ d ∷ e ∷ f ∷ g ∷ h ∷ i ∷ []

-- n bytes that were there before
old : ℕ → List ℕ
old n = replicate n 0xEE

formats :
    -- one track, filled with 6Ch, or with control bit 5 from the buffer
    (leaves FormatTrack 3 0 [] ≡ old 34 ++ slot 0xA1 0 0 1 0 0 0 0 0x6C ++ slot 0xA1 0 0 1 1 0 0 0 0x6C ++ old 20)
    × (leaves FormatTrack 3 0x20 [] ≡ old 34 ++ slot 0xA1 0 0 1 0 0 0 0 7 ++ slot 0xA1 0 0 1 1 0 0 0 7 ++ old 20)
    -- a bad one
    × (leaves FormatBadTrack 3 0 [] ≡ old 34 ++ slot 0xA1 0 0 1 0 1 0 0 0x6C ++ slot 0xA1 0 0 1 1 1 0 0 0x6C ++ old 20)
    -- A moved to B, with 6Ch; B taken by A, with control bit 5 from the buffer
    × (leaves AssignAlternate 0 0 (0 ∷ 0 ∷ 5 ∷ []) ≡ old 16 ++ slot 0xA1 0 0 0 0 2 0 2 0x6C ++ slot 0xA1 0 0 0 1 2 0 2 0x6C ++ old 18
    ++ slot 0xA1 0 0 2 0 3 0 0 0x6C ++ slot 0xA1 0 0 2 1 3 0 0 0x6C ++ old 2)
    × (leaves AssignAlternate 0 0x20 (0 ∷ 0 ∷ 5 ∷ []) ≡ old 16 ++ slot 0xA1 0 0 0 0 2 0 2 0x6C ++ slot 0xA1 0 0 0 1 2 0 2 0x6C ++ old 18
    ++ slot 0xA1 0 0 2 0 3 0 0 7 ++ slot 0xA1 0 0 2 1 3 0 0 7 ++ old 2)
    -- tracks from 1 on, and the label
    × (leaves FormatDrive 3 0x20 [] ≡ config ++ replicate 6 0 ++ old 18 ++ slot 0xA1 0 0 1 0 0 0 0 7 ++ slot 0xA1 0 0 1 1 0 0 0 7
    ++ slot 0xA1 0 0 2 0 0 0 0 7 ++ slot 0xA1 0 0 2 1 0 0 0 7 ++ old 2)
    -- a floppy's fill is E5h, for a bad track too; control bit 5 has no effect
    × (leaves_on 2 FormatTrack 3 0 [] ≡ old 34 ++ slot 0xA1 0 0 1 0 0 0 0 0xE5 ++ slot 0xA1 0 0 1 1 0 0 0 0xE5 ++ old 20)
    × (leaves_on 2 FormatTrack 3 0x20 [] ≡ leaves_on 2 FormatTrack 3 0 [])
    × (leaves_on 3 FormatBadTrack 3 0 [] ≡ old 34 ++ slot 0xA1 0 0 1 0 1 0 0 0xE5 ++ slot 0xA1 0 0 1 1 1 0 0 0xE5 ++ old 20)
    × (leaves_on 2 FormatDrive 3 0x20 [] ≡ other ++ replicate 6 0 ++ old 18 ++ slot 0xA1 0 0 1 0 0 0 0 0xE5 ++ slot 0xA1 0 0 1 1 0 0 0 0xE5
    ++ slot 0xA1 0 0 2 0 0 0 0 0xE5 ++ slot 0xA1 0 0 2 1 0 0 0 0xE5 ++ old 2)
unfolding p config other entry controller leaves_on leaves slot old carry_out do_disk do_track as_effect format_drive format_track assign_alternate assigned
    alternated missing_in drive_formatted made_at plain_byte plain_fill fill_of from_buffer keeps medium_of is_floppy block_of alternate_of judged alone_tests assign_tests is_bad is_moved
    is_taken is_taken_by_other unless_named drive_at blank_drive pair_split splits state_of state_by first_id id_in own_id track_bytes slot_id with_track part splice rows formatted
    slots_made slot_made with_sector id_bytes id_for flag_of partner_of sound_from layout_of laid place lay_at empty_from some_below is_some first_below first_from
    pick
formats = (refl, refl, refl, refl, refl, refl, refl, refl, refl, refl)

-- ---- With four sectors a track and interleave 3: sectors 0, 3, 2, 1 are in slots 0, 1, 2, 3 of every track that is made
q : Params
q = record { cylinders = 1; heads = 3; sectors = 4; size = 1 }

makes : TrackCommand → (address : ℕ) → (given : List ℕ) → List ℕ
makes command address given =
    (carry_out (block_of (0 ∷ 0 ∷ 0 ∷ address ∷ 3 ∷ 0 ∷ [])) (Some q) given (drive_at controller 0) controller.buffer (replicate 124 0xEE)
    (OnDisk (TrackWork command))).image

track_of_lem : (head flag partner : ℕ) → List ℕ
track_of_lem head flag partner =
    slot 0xA1 0 0 head 0 flag 0 partner 0x6C ++ slot 0xA1 0 0 head 3 flag 0 partner 0x6C ++ slot 0xA1 0 0 head 2 flag 0 partner 0x6C
    ++ slot 0xA1 0 0 head 1 flag 0 partner 0x6C

interleaved :
    (makes FormatTrack 5 [] ≡ old 52 ++ track_of_lem 1 0 0 ++ old 36)
    × (makes FormatBadTrack 5 [] ≡ old 52 ++ track_of_lem 1 1 0 ++ old 36)
    -- both tracks of an assignment
    × (makes AssignAlternate 1 (0 ∷ 0 ∷ 9 ∷ []) ≡ old 16 ++ track_of_lem 0 2 2 ++ old 36 ++ track_of_lem 2 3 0)
    × (makes FormatDrive 5 [] ≡ config ++ replicate 6 0 ++ old 36 ++ track_of_lem 1 0 0 ++ track_of_lem 2 0 0)
unfolding q config other entry controller makes track_of_lem slot old carry_out do_disk do_track as_effect format_drive format_track assign_alternate assigned
    alternated missing_in drive_formatted made_at plain_byte plain_fill fill_of from_buffer keeps medium_of is_floppy block_of alternate_of judged alone_tests assign_tests is_bad is_moved
    is_taken is_taken_by_other unless_named drive_at blank_drive pair_split splits state_of state_by first_id id_in own_id track_bytes slot_id with_track part splice rows formatted
    slots_made slot_made with_sector id_bytes id_for flag_of partner_of sound_from layout_of laid place lay_at empty_from some_below is_some first_below first_from
    pick
interleaved = (refl, refl, refl, refl)

-- Track 1 made bad, on a stretch of five slots with interleave 2: after each number of steps the slots so far are there, whole and
-- in slot order.
after : (k : ℕ) → List ℕ
after k = after_steps (id_for p (track 1) Bad 0) (layout_of 5 2) (7 ∷ []) k (old 45)

steps :
    (after 0 ≡ old 45)
    × (after 1 ≡ slot 0xA1 0 0 1 0 1 0 0 7 ++ old 36)
    × (after 2 ≡ slot 0xA1 0 0 1 0 1 0 0 7 ++ slot 0xA1 0 0 1 3 1 0 0 7 ++ old 27)
    × (after 3 ≡ slot 0xA1 0 0 1 0 1 0 0 7 ++ slot 0xA1 0 0 1 3 1 0 0 7 ++ slot 0xA1 0 0 1 1 1 0 0 7 ++ old 18)
    × (after 5 ≡ slot 0xA1 0 0 1 0 1 0 0 7 ++ slot 0xA1 0 0 1 3 1 0 0 7 ++ slot 0xA1 0 0 1 1 1 0 0 7 ++ slot 0xA1 0 0 1 4 1 0 0 7
    ++ slot 0xA1 0 0 1 2 1 0 0 7)
unfolding p after slot old after_steps stepped slot_made with_sector id_bytes id_for flag_of partner_of splice layout_of laid place lay_at empty_from pick
steps = (refl, refl, refl, refl, refl)
