-- Document 01, 'Commands': what each leaves of its drive's entry, the buffer and its drive's image, once the order of checks has let it pass.
use Rattle.std.specs.Prelude.{ℕ, ◌-◌, Bool, true, false, not, ◌&&◌, ◌||◌, List, [], ◌∷◌, ◌++◌, length, replicate, ltb, eqb}
use Rattle.base.specs.Pick.{pick}
use Rattle.base.specs.Part.{part, splice}
use Rattle.base.specs.Byte.{byte}
use Rattle.geometry.specs.declared.params.Lba.{Lba}
use Rattle.geometry.specs.declared.params.Track.{Track}
use Rattle.geometry.specs.declared.params.Params.{Params}
use Rattle.geometry.specs.declared.medium.Medium.{Medium}
use Rattle.geometry.specs.declared.medium.Medium.TheVariants.{HardDisk, Floppy}
use Rattle.geometry.specs.Config.{Setting}
use Rattle.std.specs.Prelude.{Some, None}
use Rattle.geometry.specs.Params.{track_count, track_of, last_address, further}
use Rattle.geometry.specs.Medium.{medium_of, is_floppy}
use Rattle.geometry.specs.Config.{setting_of, is_valid, label_rest, label_holds, precompensation_in}
use Rattle.interleave.specs.Layout.{layout_of}
use Rattle.track.specs.declared.state.State.{State}
use Rattle.track.specs.declared.state.State.TheVariants.{Sound, Bad, Moved, Taken}
use Rattle.track.specs.State.{is_bad, is_moved, is_taken, is_taken_by_other}
use Rattle.track.specs.Image.{with_track}
use Rattle.track.specs.Pair.{state_of, pair_split}
use Rattle.formatter.specs.Format.{formatted, sound_from}
use Rattle.formatter.specs.Check.{check_code}
use Rattle.sectors.specs.Transfer.{Transfer, begun, reading, writing}
use Rattle.keeping.specs.Keep.{keep_code, kept}
use Rattle.model.specs.declared.block.Block.{Block}
use Rattle.model.specs.declared.table.Command.{Command}
use Rattle.model.specs.declared.table.Command.TheVariants.{Free, OnDisk, Copy, Unknown}
use Rattle.model.specs.declared.table.FreeCommand.{FreeCommand}
use Rattle.model.specs.declared.table.FreeCommand.TheVariants.{RequestSense, WriteBuffer, ReadBuffer, Initialize}
use Rattle.model.specs.declared.table.DiskCommand.{DiskCommand}
use Rattle.model.specs.declared.table.DiskCommand.TheVariants.{ArmWork, TrackWork, SectorWork}
use Rattle.model.specs.declared.table.ArmCommand.{ArmCommand}
use Rattle.model.specs.declared.table.ArmCommand.TheVariants.{TestReady, Recalibrate, Seek}
use Rattle.model.specs.declared.table.TrackCommand.{TrackCommand}
use Rattle.model.specs.declared.table.TrackCommand.TheVariants.{FormatDrive, CheckTrack, FormatTrack, FormatBadTrack, AssignAlternate}
use Rattle.model.specs.declared.table.SectorCommand.{SectorCommand}
use Rattle.model.specs.declared.table.SectorCommand.TheVariants.{Read, Write}
use Rattle.model.specs.declared.record.Drive.{Drive}
use Rattle.model.specs.declared.record.Ending.{Ending}
use Rattle.model.specs.Block.{count_of, from_buffer, keeps, alternate_of}
use Rattle.model.specs.Checks.{Test, on, judged}
use Rattle.model.specs.Record.{good_answer, good, failed, unless, Effect, effect, Made, made}

-- ---- What formatting fills the data with: on a floppy E5h (request E3); on a hard disk 6Ch, or with control bit 5 the buffer's
-- first D bytes.
unfoldable pub plain_byte : Medium → ℕ
plain_byte HardDisk = 0x6C
plain_byte Floppy = 0xE5

unfoldable pub plain_fill : Medium → Params → List ℕ
plain_fill medium p = replicate p.size (plain_byte medium)

unfoldable pub fill_of : Block → Params → (buffer : List ℕ) → List ℕ
fill_of b p buffer =
    pick (from_buffer b && not (is_floppy (medium_of b.drive))) (part 0 p.size buffer) (plain_fill (medium_of b.drive) p)

-- The image with track t formatted, with the block's interleave.
unfoldable pub made_at : Block → Params → Track → State → (fill image : List ℕ) → List ℕ
made_at b p t state fill image = with_track p t (formatted p t state (layout_of p.sectors b.extra) fill) image

-- ---- 04 Format Drive: if some track is moved or taken and exactly one of it and its partner is below s, 1Dh. Tracks from s
-- to the last become sound. Then the configuration in force and six zeros are written to the label. Pending ends.
unfoldable pub drive_formatted : Block → Params → (config fill image : List ℕ) → List ℕ
drive_formatted b p config fill image =
    splice 0 (config ++ label_rest)
    (sound_from p (layout_of p.sectors b.extra) fill (track_count p - (track_of p b.address).0) (track_of p b.address) image)

unfoldable pub pending_ended : Drive → Drive
pending_ended entry = record { sense = entry.sense; config = entry.config; known = entry.known; pending = false }

unfoldable pub format_drive : Block → Params → (buffer : List ℕ) → Drive → (image : List ℕ) → Made
format_drive b p buffer entry image =
    unless (judged (on (pair_split p (track_of p b.address) image) 0x1D b.address ∷ [])) b.drive entry (λ e. made e image)
    (made (good b.drive 0 0 (pending_ended entry)) (drive_formatted b p entry.config (fill_of b p buffer) image))

-- ---- 05 Check Track: slot 0 as for finding a sector; then every slot's ID bytes; else 1Ah.
unfoldable pub check_tests : (code : ℕ) → Lba → List Test
check_tests code a = on (not (eqb code 0)) code a ∷ []

unfoldable pub check_track : Block → Params → Drive → (image : List ℕ) → Ending
check_track b p entry image =
    unless (judged (check_tests (check_code p (track_of p b.address) (layout_of p.sectors b.extra) image) b.address)) b.drive entry
    (λ e. e) (good b.drive 0 0 entry)

-- ---- 06 Format Track, 07 Format Bad Track: the track becomes sound or bad. Moved: 1Dh. Taken: 1Ch.
unfoldable pub alone_tests : State → Lba → List Test
alone_tests state a = on (is_moved state) 0x1D a ∷ on (is_taken state) 0x1C a ∷ []

unfoldable pub format_track : Block → Params → State → (fill : List ℕ) → Drive → (image : List ℕ) → Made
format_track b p state fill entry image =
    unless (judged (alone_tests (state_of p (track_of p b.address) image) b.address)) b.drive entry (λ e. made e image)
    (made (good b.drive 0 0 entry) (made_at b p (track_of p b.address) state fill image))

-- ---- 08 Read, 0Ah Write
-- Good, or the failing sector's code with its own address; the sectors done are counted either way.
unfoldable pub transfer_ending : Block → (sectors code bytes : ℕ) → Drive → Ending
transfer_ending b sectors code bytes entry =
    pick (eqb code 0) (good b.drive sectors bytes entry)
    (failed b.drive b.drive code (further b.address sectors) sectors bytes entry)

-- Each sector read or written is left in the buffer's first D bytes.
unfoldable pub transferred : Block → Drive → (buffer : List ℕ) → Transfer → Effect
transferred b entry buffer x =
    effect (transfer_ending b x.done x.code (length x.handed) entry) (splice 0 x.last buffer) x.handed x.image

unfoldable pub read : Block → Params → Drive → (buffer image : List ℕ) → Effect
read b p entry buffer image = transferred b entry buffer (reading p (count_of b) b.address (begun image))

unfoldable pub write : Block → Params → (given : List ℕ) → Drive → (buffer image : List ℕ) → Effect
write b p given entry buffer image = transferred b entry buffer (writing p (count_of b) b.address given (begun image))

-- ---- 0Eh Assign Alternate. A is the track of the block's address a, B the track of the address `alternate` given.
-- First byte above 1Fh, 22h; B out of range, 21h; A moved, 1Dh; A taken, 1Ch; B = A, 22h; B taken, 1Dh; B moved or bad, 1Fh. Request E7: a
-- taken B whose partner is A is free for A, which is not moved then; after all other checks comes the code of what is missing in A.
unfoldable pub assign_tests : Params → (first : ℕ) → (a alternate : Lba) → (state_a state_b : State) → (missing : ℕ) → List Test
assign_tests p first a alternate state_a state_b missing =
    on (ltb 0x1F first) 0x22 a
    ∷ on (ltb (last_address p).0 alternate.0) 0x21 alternate
    ∷ on (is_moved state_a) 0x1D a
    ∷ on (is_taken state_a) 0x1C a
    ∷ on (eqb (track_of p alternate).0 (track_of p a).0) 0x22 a
    ∷ on (is_taken_by_other (track_of p a) state_b) 0x1D alternate
    ∷ on (is_moved state_b || is_bad state_b) 0x1F alternate
    ∷ on (not (eqb missing 0)) missing a
    ∷ []

-- Then both are formatted with the block's interleave, A as moved to B, B as taken by A. The buffer's fill reaches B only.
unfoldable pub assigned : Block → Params → (A B : Track) → (fill image : List ℕ) → List ℕ
assigned b p A B fill image = made_at b p B (Taken A) fill (made_at b p A (Moved B) (plain_fill (medium_of b.drive) p) image)

-- With keep A must be sound with every sector found, else the code of the first missing one; without, nothing is asked.
unfoldable pub missing_in : Block → Params → (A : Track) → (image : List ℕ) → ℕ
missing_in b p A image = pick (keeps b) (keep_code p A image) 0

-- With keep A is moved to B with its contents, and the buffer is not used.
unfoldable pub alternated : Block → Params → (A B : Track) → (buffer image : List ℕ) → List ℕ
alternated b p A B buffer image = pick (keeps b) (kept p A B (layout_of p.sectors b.extra) image) (assigned b p A B (fill_of b p buffer) image)

unfoldable pub assign_alternate : Block → Params → (buffer given : List ℕ) → Drive → (image : List ℕ) → Made
assign_alternate b p buffer given entry image =
    let A = track_of p b.address in
    let B = track_of p (alternate_of given) in
    unless
    (judged
    (assign_tests p (byte given 0) b.address (alternate_of given) (state_of p A image) (state_of p B image) (missing_in b p A image)))
    b.drive entry (λ e. made e image)
    (made (good b.drive 0 0 entry) (alternated b p A B buffer image))

-- ---- 11h Initialize: takes the 10 configuration bytes. A valid label's own come into force, not pending (request E1), whatever
-- their precompensation; others come into force, pending, if they are valid with precompensation in its bound (request E8), else
-- 22h. The image is untouched.
unfoldable pub initialized : (config : List ℕ) → (pending : Bool) → Drive → Drive
initialized config pending entry = record { sense = entry.sense; config = config; known = true; pending = pending }

unfoldable pub initialized_by : (held fits : Bool) → Block → (config : List ℕ) → Drive → Ending
initialized_by held fits b config entry =
    pick (held || fits)
    (good b.drive 0 0 (initialized config (not held) entry))
    (failed b.drive b.drive 0x22 b.address 0 0 entry)

unfoldable pub initialize : Block → (given : List ℕ) → Drive → (image : List ℕ) → Ending
initialize b given entry image =
    let medium = medium_of b.drive in
    let config = part 0 10 given in
    initialized_by (label_holds medium image config) (is_valid (setting_of medium config (length image)) && precompensation_in medium config) b config entry

-- ---- The commands by their groups, once their checks have passed, up to their own
-- 03 hands over 4 bytes and leaves the sense as it is; 0Fh takes 512 bytes, 10h hands over 512.
unfoldable pub do_free : Block → (given : List ℕ) → Drive → (buffer image : List ℕ) → FreeCommand → Effect
do_free b given entry buffer image RequestSense =
    effect (record { entry = entry; answer = good_answer b.drive 0 (length entry.sense) }) buffer entry.sense image
do_free b given entry buffer image WriteBuffer = effect (good b.drive 0 0 entry) (part 0 512 given) [] image
do_free b given entry buffer image ReadBuffer = effect (good b.drive 0 (length buffer) entry) buffer buffer image
do_free b given entry buffer image Initialize = effect (initialize b given entry image) buffer [] image

-- 00 Test Ready, 01 Recalibrate, 0Bh Seek: checks only.
unfoldable pub do_arm : Block → Drive → ArmCommand → Ending
do_arm b entry TestReady = good b.drive 0 0 entry
do_arm b entry Recalibrate = good b.drive 0 0 entry
do_arm b entry Seek = good b.drive 0 0 entry

unfoldable pub do_track : Block → Params → (buffer given : List ℕ) → Drive → (image : List ℕ) → TrackCommand → Made
do_track b p buffer given entry image FormatDrive = format_drive b p buffer entry image
do_track b p buffer given entry image CheckTrack = made (check_track b p entry image) image
do_track b p buffer given entry image FormatTrack = format_track b p Sound (fill_of b p buffer) entry image
do_track b p buffer given entry image FormatBadTrack = format_track b p Bad (plain_fill (medium_of b.drive) p) entry image
do_track b p buffer given entry image AssignAlternate = assign_alternate b p buffer given entry image

unfoldable pub do_sectors : Block → Params → (given : List ℕ) → Drive → (buffer image : List ℕ) → SectorCommand → Effect
do_sectors b p given entry buffer image Read = read b p entry buffer image
do_sectors b p given entry buffer image Write = write b p given entry buffer image

unfoldable pub as_effect : (buffer : List ℕ) → Made → Effect
as_effect buffer x = effect x.ending buffer [] x.image

unfoldable pub do_disk : Block → Params → (given : List ℕ) → Drive → (buffer image : List ℕ) → DiskCommand → Effect
do_disk b p given entry buffer image (ArmWork command) = effect (do_arm b entry command) buffer [] image
do_disk b p given entry buffer image (TrackWork command) = as_effect buffer (do_track b p buffer given entry image command)
do_disk b p given entry buffer image (SectorWork command) = do_sectors b p given entry buffer image command

-- Without parameters a command that needs them is 0Ah, which has been tested for before.
unfoldable pub carry_out : Block → Setting → (given : List ℕ) → Drive → (buffer image : List ℕ) → Command → Effect
carry_out b setting given entry buffer image (Free command) = do_free b given entry buffer image command
carry_out b None given entry buffer image (OnDisk command) =
    effect (failed b.drive b.drive 0x0A b.address 0 0 entry) buffer [] image
carry_out b (Some p) given entry buffer image (OnDisk command) = do_disk b p given entry buffer image command
carry_out b setting given entry buffer image Unknown =
    effect (failed b.drive b.drive 0x20 b.address 0 0 entry) buffer [] image
-- Copy's block has ten bytes, and it is two drives' command: it does not come here.
carry_out b setting given entry buffer image Copy =
    effect (failed b.drive b.drive 0x20 b.address 0 0 entry) buffer [] image
