-- What each command can leave. Numbers 1, 2 and 3 and no others refuse, and a refusal changes nothing at all.
use Prim.Native.Nat.{ℕ, zero, suc, ◌+◌, ◌*◌, ◌≤◌}
use mathlib.Core.Path.{◌≡◌, refl, sym, ap, ◌∙◌}
use mathlib.Core.Bool.{Bool, true, false, not, true≢false}
use mathlib.Core.List.{List, [], ◌∷◌}
use native.Mathlib.Omega.{arith}
use lib.ListN.{length, set, take, drop}
use lib.Seq.{set-get_or}
use lib.Dec.{ltb, eqb}
use Rattle.base.specs.Pick.{pick}
use Rattle.base.specs.Part.{part, splice}
use Rattle.base.proofs.Decide.{pick-both}
use Rattle.geometry.specs.declared.params.Lba.{Lba}
use Rattle.geometry.specs.declared.params.Params.{Params}
use Rattle.geometry.specs.Config.{Setting}
use Rattle.std.specs.Prelude.{Some, None}
use Rattle.geometry.specs.Params.{next, further, track_of}
use Rattle.geometry.specs.Medium.{medium_of}
use Rattle.geometry.specs.Config.{label_holds}
use Rattle.track.specs.Find.{Sector}
use Rattle.track.specs.Find.{Slot, Fault}
use Rattle.interleave.specs.Layout.{layout_of}
use Rattle.formatter.specs.Check.{check_code}
use Rattle.sectors.specs.Transfer.{Transfer, begun, ended, read_slot, write_slot, onward, found, reading, writing}
use Rattle.track.specs.declared.state.State.{State}
use Rattle.base.specs.Byte.{byte}
use Rattle.model.specs.declared.block.Block.{Block}
use Rattle.model.specs.declared.table.Command.{Command}
use Rattle.model.specs.declared.table.Command.TheVariants.{Free, OnDisk, Copy, Unknown}
use Rattle.model.specs.declared.table.FreeCommand.{FreeCommand}
use Rattle.model.specs.declared.table.FreeCommand.TheVariants.{RequestSense, WriteBuffer, ReadBuffer, Initialize}
use Rattle.model.specs.declared.table.DiskCommand.{DiskCommand}
use Rattle.model.specs.declared.table.DiskCommand.TheVariants.{ArmWork, TrackWork, SectorWork}
use Rattle.model.specs.declared.table.ArmCommand.{ArmCommand}
use Rattle.model.specs.declared.table.ArmCommand.TheVariants.{TestReady, Recalibrate, Seek}
use Rattle.model.specs.declared.table.TrackCommand.{TrackCommand}
use Rattle.model.specs.declared.table.TrackCommand.TheVariants.{FormatDrive, CheckTrack, FormatTrack, FormatBadTrack, AssignAlternate}
use Rattle.model.specs.declared.table.SectorCommand.{SectorCommand}
use Rattle.model.specs.declared.table.SectorCommand.TheVariants.{Read, Write}
use Rattle.model.specs.declared.record.Drive.{Drive}
use Rattle.model.specs.declared.record.Controller.{Controller}
use Rattle.model.specs.declared.record.Ending.{Ending}
use Rattle.model.specs.declared.verdict.View.{View}
use Rattle.model.specs.Verdicts.{Verdict}
use Rattle.model.specs.Verdicts.{Refused, Faulty, Passed}
use Rattle.model.specs.Block.{count_of, alternate_of}
use Rattle.model.specs.Table.{row_for}
use Rattle.model.specs.Checks.{Test, on, refuses, judged, bytes_of, hits_of, in_order, judge_over, judge}
use Rattle.model.specs.Sense.{addressed, sense_of}
use Rattle.model.specs.Record.{drive_at, blank_drive, sensed, refused, failed, good, unless, Effect, effect, Made, made, unless_named}
use Rattle.model.specs.Commands.{pending_ended, format_drive, check_tests, check_track, alone_tests, format_track, transfer_ending, transferred, read, write}
use Rattle.model.specs.Commands.{assign_tests, missing_in, assign_alternate, initialized, initialized_by, initialize, do_free, do_arm, do_track, do_sectors, as_effect, do_disk, carry_out}
use Rattle.model.specs.Engine.{obey, Result, image_of}

-- ---- What becomes of the entry of the drive, by the status
-- The sense after a good end: no code, the number of the drive, no address.
abbrev pub clear : Block → List ℕ
clear b = 0 ∷ 32 * b.drive ∷ 0 ∷ 0 ∷ []

-- The commands that change nothing but the sense of an entry. Request Sense does not even do that, and Initialize and Format
-- Drive do more.
unfoldable pub is_plain : Command → Bool
is_plain (Free RequestSense) = false
is_plain (Free Initialize) = false
is_plain (Free WriteBuffer) = true
is_plain (Free ReadBuffer) = true
is_plain (OnDisk (ArmWork command)) = true
is_plain (OnDisk (TrackWork FormatDrive)) = false
is_plain (OnDisk (TrackWork CheckTrack)) = true
is_plain (OnDisk (TrackWork FormatTrack)) = true
is_plain (OnDisk (TrackWork FormatBadTrack)) = true
is_plain (OnDisk (TrackWork AssignAlternate)) = true
is_plain (OnDisk (SectorWork command)) = true
is_plain Unknown = false
is_plain Copy = false

-- Any command can end with a code, which is in the sense then.
pub data Makes (b : Block) (given : List ℕ) (entry : Drive) (image : List ℕ) : Command → (status : ℕ) → Drive → Type 0 where
  coded : {command : Command} (code : ℕ) (at : Lba) → 1 ≤ code → Makes b given entry image command (2 + 32 * b.drive) (sensed (sense_of code b.drive at) entry)
  cleared : {command : Command} → is_plain command ≡ true → Makes b given entry image command (32 * b.drive) (sensed (clear b) entry)
  kept : Makes b given entry image (Free RequestSense) (32 * b.drive) entry
  initial : Makes b given entry image (Free Initialize) (32 * b.drive)
      (sensed (clear b) (initialized (part 0 10 given) (not (label_holds (medium_of b.drive) image (part 0 10 given))) entry))
  formatted : Makes b given entry image (OnDisk (TrackWork FormatDrive)) (32 * b.drive) (sensed (clear b) (pending_ended entry))

-- ---- Of the buffer: Write Buffer takes the data given, Read and Write change its front, every other command leaves it
unfoldable pub spares_buffer : Command → Bool
spares_buffer (Free RequestSense) = true
spares_buffer (Free Initialize) = true
spares_buffer (Free WriteBuffer) = false
spares_buffer (Free ReadBuffer) = true
spares_buffer (OnDisk (ArmWork command)) = true
spares_buffer (OnDisk (TrackWork command)) = true
spares_buffer (OnDisk (SectorWork command)) = false
spares_buffer Unknown = true
spares_buffer Copy = true

pub data Fills (b : Block) (given buffer : List ℕ) : Command → (status : ℕ) → List ℕ → Type 0 where
  as_was : {command : Command} {status : ℕ} → spares_buffer command ≡ true → Fills b given buffer command status buffer
  taken : Fills b given buffer (Free WriteBuffer) (32 * b.drive) (part 0 512 given)
  untaken : Fills b given buffer (Free WriteBuffer) (2 + 32 * b.drive) buffer
  front : {command : SectorCommand} {status : ℕ} (last : List ℕ) → Fills b given buffer (OnDisk (SectorWork command)) status (splice 0 last buffer)

-- ---- The bytes handed over: the sense by Request Sense, the buffer by Read Buffer, sectors by Read, by every other command none
unfoldable pub is_quiet : Command → Bool
is_quiet (Free RequestSense) = false
is_quiet (Free Initialize) = true
is_quiet (Free WriteBuffer) = true
is_quiet (Free ReadBuffer) = false
is_quiet (OnDisk (ArmWork command)) = true
is_quiet (OnDisk (TrackWork command)) = true
is_quiet (OnDisk (SectorWork Read)) = false
is_quiet (OnDisk (SectorWork Write)) = true
is_quiet Unknown = true
is_quiet Copy = true

pub data Hands (b : Block) (entry : Drive) (buffer : List ℕ) : Command → (status : ℕ) → List ℕ → Type 0 where
  nothing : {command : Command} {status : ℕ} → is_quiet command ≡ true → Hands b entry buffer command status []
  no_sense : Hands b entry buffer (Free RequestSense) (2 + 32 * b.drive) []
  own_sense : Hands b entry buffer (Free RequestSense) (32 * b.drive) entry.sense
  no_buffer : Hands b entry buffer (Free ReadBuffer) (2 + 32 * b.drive) []
  own_buffer : Hands b entry buffer (Free ReadBuffer) (32 * b.drive) buffer
  read_out : {status : ℕ} (bytes : List ℕ) → Hands b entry buffer (OnDisk (SectorWork Read)) status bytes

-- ---- And of the image of the drive: only formats, Assign Alternate and Write change it
pub data Writes (image : List ℕ) : Command → List ℕ → Type 0 where
  untouched : {command : Command} → Writes image command image
  drive_format : (after : List ℕ) → Writes image (OnDisk (TrackWork FormatDrive)) after
  track_format : (after : List ℕ) → Writes image (OnDisk (TrackWork FormatTrack)) after
  bad_format : (after : List ℕ) → Writes image (OnDisk (TrackWork FormatBadTrack)) after
  alternate : (after : List ℕ) → Writes image (OnDisk (TrackWork AssignAlternate)) after
  stored : (after : List ℕ) → Writes image (OnDisk (SectorWork Write)) after

-- A command that ends with number 0: all four, and as many bytes counted as handed over.
pub record LeavesBy (b : Block) (given : List ℕ) (entry : Drive) (buffer image : List ℕ) (command : Command) (e : Effect) : Type 0 where
  pub number : e.ending.answer.number ≡ 0
  pub bytes : e.ending.answer.bytes ≡ length e.handed
  pub makes : Makes b given entry image command e.ending.answer.status e.ending.entry
  pub fills : Fills b given buffer command e.ending.answer.status e.buffer
  pub hands : Hands b entry buffer command e.ending.answer.status e.handed
  pub writes : Writes image command e.image

-- ---- Verdicts: the order of checks refuses with 2 or 3 only, own checks never
pub data Verdicts : (refusals : Bool) → Verdict → Type 0 where
  second : Verdicts true (Refused 2)
  third : Verdicts true (Refused 3)
  fault : {refusals : Bool} (code : ℕ) (at : Lba) → 1 ≤ code → Verdicts refusals (Faulty code at)
  pass : {refusals : Bool} → Verdicts refusals Passed

picked : {refusals : Bool} (b : Bool) {x y : Verdict} → (b ≡ true → Verdicts refusals x) → Verdicts refusals y → Verdicts refusals (pick b x y)
unfolding pick
picked true hx hy = hx refl
picked false hx hy = hy

-- tests that can give such a verdict
data Tests : (refusals : Bool) → List Test → Type 0 where
  done : {refusals : Bool} → Tests refusals []
  faults : {refusals : Bool} {hit : Bool} {code : ℕ} {at : Lba} {tests : List Test} → (hit ≡ true → 1 ≤ code) → Tests refusals tests
      → Tests refusals (on hit code at ∷ tests)
  seconds : {hit : Bool} {tests : List Test} → Tests true tests → Tests true (refuses hit 2 ∷ tests)
  thirds : {hit : Bool} {tests : List Test} → Tests true tests → Tests true (refuses hit 3 ∷ tests)
  spares : {refusals hit : Bool} {number : ℕ} {tests : List Test} → hit ≡ false → Tests refusals tests → Tests refusals (refuses hit number ∷ tests)

-- a code that is written out is not 0; nor is one that a test has looked at
some : {hit : Bool} {code : ℕ} → hit ≡ true → 1 ≤ suc code
some hit = omega arith

not_zero : (code : ℕ) → not (eqb code 0) ≡ true → 1 ≤ code
not_zero zero hit = let clash : true ≡ false = sym hit in absurd (true≢false clash)
not_zero (suc code) hit = omega arith

judged_by : {refusals : Bool} {tests : List Test} → Tests refusals tests → Verdicts refusals (judged tests)
unfolding judged
judged_by done = pass
judged_by (faults some rest) = picked _ (λ hit. fault _ _ (some hit)) (judged_by rest)
judged_by (seconds rest) = picked _ (λ hit. second) (judged_by rest)
judged_by (thirds rest) = picked _ (λ hit. third) (judged_by rest)
judged_by (spares off rest) = picked _ (λ hit. absurd (true≢false (sym hit ∙ off))) (judged_by rest)

pub assign_judged : (p : Params) (first : ℕ) (a b : Lba) (state_a state_b : State) (missing : ℕ) → Verdicts false (judged (assign_tests p first a b state_a state_b missing))
unfolding assign_tests
assign_judged p first a b state_a state_b missing =
    judged_by (faults some (faults some (faults some (faults some (faults some (faults some (faults some (faults (not_zero missing) done))))))))

check_judged : (code : ℕ) (a : Lba) → Verdicts false (judged (check_tests code a))
unfolding check_tests
check_judged code a = judged_by (faults (not_zero code) done)

pub judge_by : (b : Block) (v : View) (given area : ℕ) → Verdicts true (judge b v given area)
unfolding judge in_order
judge_by b v given area = judged_by (faults some (faults some (faults some (faults some (faults some (faults some (faults some (seconds (thirds done)))))))))

-- A Copy takes no data and hands none over, so that neither drive's checks refuse it.
pub copy_judge_by : (b : Block) (reach : ℕ) (v : View) → b.opcode ≡ 0x20 → Verdicts false (judge_over b reach v 0 0)
unfolding in_order hits_of row_for bytes_of
copy_judge_by b reach v is =
    let short : ltb 0 (bytes_of (row_for b.opcode).takes b v.setting) ≡ false =
    ap (λ (opcode : ℕ). ltb 0 (bytes_of (row_for opcode).takes b v.setting)) is
    in
    let small : ltb 0 (bytes_of (row_for b.opcode).gives b v.setting) ≡ false =
    ap (λ (opcode : ℕ). ltb 0 (bytes_of (row_for opcode).gives b v.setting)) is
    in
    judged_by
    (faults some (faults some (faults some (faults some (faults some (faults some (faults some (spares short (spares small done)))))))))

-- own checks: what holds of a command that has failed or passed them holds
own : {A : Type 0} (P : A → Type 0) (drive : ℕ) (entry : Drive) (keep : Ending → A) (after : A) {v : Verdict} → Verdicts false v
    → ((code : ℕ) (at : Lba) → 1 ≤ code → P (keep (failed drive drive code at 0 0 entry))) → P after → P (unless v drive entry keep after)
unfolding unless_named
own P drive entry keep after (fault code at some) failing passing = failing code at some
own P drive entry keep after pass failing passing = passing

-- ---- A Read changes no image, a Write hands nothing over
pub read_image : (n : ℕ) (a : Lba) (p : Params) (x : Transfer) → (reading p n a x).image ≡ x.image
unfolding reading onward ended read_slot
read_image zero a p x = refl
read_image (suc n) a p x = by (found p a x.image) (λ y. read_image n (next a) p y)
  where
    by : (s : Sector) → ((y : Transfer) → (reading p n (next a) y).image ≡ y.image)
        → (onward x (λ t k. reading p n (next a) (read_slot p x t k)) s).image ≡ x.image
    by (Fault code) rest = refl
    by (Slot t k) rest = rest (read_slot p x t k)

write_handed : (n : ℕ) (a : Lba) (p : Params) (given : List ℕ) (x : Transfer) → (writing p n a given x).handed ≡ x.handed
unfolding writing onward ended write_slot
write_handed zero a p given x = refl
write_handed (suc n) a p given x = by (found p a x.image) (λ y. write_handed n (next a) p (drop p.size given) y)
  where
    by : (s : Sector) → ((y : Transfer) → (writing p n (next a) (drop p.size given) y).handed ≡ y.handed)
        → (onward x (λ t k. writing p n (next a) (drop p.size given) (write_slot p (take p.size given) x t k)) s).handed ≡ x.handed
    by (Fault code) rest = refl
    by (Slot t k) rest = rest (write_slot p (take p.size given) x t k)

-- ---- Each command
module _ (b : Block) (given : List ℕ) (entry : Drive) (buffer image : List ℕ) where
  abbrev LeavesAs : Command → Effect → Type 0
  LeavesAs = LeavesBy b given entry buffer image

  good_makes : {command : Command} → is_plain command ≡ true → Makes b given entry image command (32 * b.drive) (sensed (sense_of 0 b.drive (record { 0 = 0 })) entry)
  unfolding sense_of addressed pick
  good_makes only = cleared only

  -- a code, and nothing done
  fault_fills : (command : Command) → Fills b given buffer command (2 + 32 * b.drive) buffer
  unfolding splice spares_buffer
  fault_fills (Free RequestSense) = as_was refl
  fault_fills (Free WriteBuffer) = untaken
  fault_fills (Free ReadBuffer) = as_was refl
  fault_fills (Free Initialize) = as_was refl
  fault_fills (OnDisk (ArmWork command)) = as_was refl
  fault_fills (OnDisk (TrackWork command)) = as_was refl
  fault_fills (OnDisk (SectorWork command)) = front []
  fault_fills Unknown = as_was refl
  fault_fills Copy = as_was refl

  fault_hands : (command : Command) → Hands b entry buffer command (2 + 32 * b.drive) []
  unfolding is_quiet
  fault_hands (Free RequestSense) = no_sense
  fault_hands (Free WriteBuffer) = nothing refl
  fault_hands (Free ReadBuffer) = no_buffer
  fault_hands (Free Initialize) = nothing refl
  fault_hands (OnDisk (ArmWork command)) = nothing refl
  fault_hands (OnDisk (TrackWork command)) = nothing refl
  fault_hands (OnDisk (SectorWork Read)) = read_out []
  fault_hands (OnDisk (SectorWork Write)) = nothing refl
  fault_hands Unknown = nothing refl
  fault_hands Copy = nothing refl

  faulty : (command : Command) (code : ℕ) (at : Lba) → 1 ≤ code → LeavesAs command (effect (failed b.drive b.drive code at 0 0 entry) buffer [] image)
  unfolding failed
  faulty command code at some =
      record { number = refl; bytes = refl; makes = coded code at some; fills = fault_fills command; hands = fault_hands command; writes = untouched }

  -- ---- Free
  initial_makes : Makes b given entry image (Free Initialize) (32 * b.drive)
      (sensed (sense_of 0 b.drive (record { 0 = 0 }))
      (initialized (part 0 10 given) (not (label_holds (medium_of b.drive) image (part 0 10 given))) entry))
  unfolding sense_of addressed pick
  initial_makes = initial

  initialize_ends : LeavesAs (Free Initialize) (do_free b given entry buffer image Initialize)
  unfolding do_free initialize initialized_by good spares_buffer is_quiet
  initialize_ends =
      pick-both (λ (x : Ending). LeavesAs (Free Initialize) (effect x buffer [] image)) _ _ _
      (record { number = refl; bytes = refl; makes = initial_makes; fills = as_was refl; hands = nothing refl; writes = untouched })
      (faulty (Free Initialize) 0x22 b.address (omega arith))

  free_ends : (command : FreeCommand) → LeavesAs (Free command) (do_free b given entry buffer image command)
  unfolding do_free good sense_of addressed pick is_plain spares_buffer is_quiet
  free_ends RequestSense = record { number = refl; bytes = refl; makes = kept; fills = as_was refl; hands = own_sense; writes = untouched }
  free_ends WriteBuffer = record { number = refl; bytes = refl; makes = cleared refl; fills = taken; hands = nothing refl; writes = untouched }
  free_ends ReadBuffer = record { number = refl; bytes = refl; makes = cleared refl; fills = as_was refl; hands = own_buffer; writes = untouched }
  free_ends Initialize = initialize_ends

  -- ---- On the disk
  arm_ends : (command : ArmCommand) → LeavesAs (OnDisk (ArmWork command)) (effect (do_arm b entry command) buffer [] image)
  unfolding do_arm good is_plain spares_buffer is_quiet
  arm_ends TestReady = record { number = refl; bytes = refl; makes = good_makes refl; fills = as_was refl; hands = nothing refl; writes = untouched }
  arm_ends Recalibrate = record { number = refl; bytes = refl; makes = good_makes refl; fills = as_was refl; hands = nothing refl; writes = untouched }
  arm_ends Seek = record { number = refl; bytes = refl; makes = good_makes refl; fills = as_was refl; hands = nothing refl; writes = untouched }

  module _ (p : Params) where
    -- by own checks, of a command that may change the image
    by_own : (command : TrackCommand) (after : Made) {v : Verdict} → Verdicts false v → LeavesAs (OnDisk (TrackWork command)) (as_effect buffer after)
        → LeavesAs (OnDisk (TrackWork command)) (as_effect buffer (unless v b.drive entry (λ e. made e image) after))
    unfolding as_effect
    by_own command after own-checks =
        own (λ (x : Made). LeavesAs (OnDisk (TrackWork command)) (as_effect buffer x)) b.drive entry (λ e. made e image) after own-checks
        (faulty (OnDisk (TrackWork command)))

    track_ends : (command : TrackCommand) → LeavesAs (OnDisk (TrackWork command)) (as_effect buffer (do_track b p buffer given entry image command))
    unfolding do_track as_effect format_drive check_track check_tests format_track alone_tests assign_alternate assign_tests good sense_of addressed pick is_plain spares_buffer is_quiet
    track_ends FormatDrive =
        by_own FormatDrive _ (judged_by (faults some done))
        (record { number = refl; bytes = refl; makes = formatted; fills = as_was refl; hands = nothing refl; writes = drive_format _ })
    track_ends CheckTrack =
        own (λ (x : Ending). LeavesAs (OnDisk (TrackWork CheckTrack)) (effect x buffer [] image)) b.drive entry (λ e. e)
        (good b.drive 0 0 entry)
        (check_judged (check_code p (track_of p b.address) (layout_of p.sectors b.extra) image) b.address)
        (faulty (OnDisk (TrackWork CheckTrack))) (record { number = refl; bytes = refl; makes = cleared refl; fills = as_was refl; hands = nothing refl; writes = untouched })
    track_ends FormatTrack =
        by_own FormatTrack _ (judged_by (faults some (faults some done)))
        (record { number = refl; bytes = refl; makes = cleared refl; fills = as_was refl; hands = nothing refl; writes = track_format _ })
    track_ends FormatBadTrack =
        by_own FormatBadTrack _ (judged_by (faults some (faults some done)))
        (record { number = refl; bytes = refl; makes = cleared refl; fills = as_was refl; hands = nothing refl; writes = bad_format _ })
    track_ends AssignAlternate =
        by_own AssignAlternate _ (assign_judged p (byte given 0) b.address (alternate_of given) _ _ (missing_in b p (track_of p b.address) image))
        (record { number = refl; bytes = refl; makes = cleared refl; fills = as_was refl; hands = nothing refl; writes = alternate _ })

    -- a transfer's end, whatever its code
    Finishes : (bytes : ℕ) → (command : Command) → Ending → Type 0
    Finishes bytes command x = (x.answer.number ≡ 0) × (x.answer.bytes ≡ bytes) × Makes b given entry image command x.answer.status x.entry

    finishes : (sectors code bytes : ℕ) (command : SectorCommand)
        → Finishes bytes (OnDisk (SectorWork command)) (transfer_ending b sectors code bytes entry)
    unfolding Finishes transfer_ending good failed is_plain pick
    finishes sectors code bytes command =
        by (eqb code 0) refl
      where
        by : (none : Bool) → eqb code 0 ≡ none
            → Finishes bytes (OnDisk (SectorWork command))
            (pick none (good b.drive sectors bytes entry) (failed b.drive b.drive code (further b.address sectors) sectors bytes entry))
        by true e = (refl, refl, good_makes refl)
        by false e = (refl, refl, coded code _ (not_zero code (rw e)))

    sectors_end : (command : SectorCommand) → LeavesAs (OnDisk (SectorWork command)) (do_sectors b p given entry buffer image command)
    unfolding do_sectors read write transferred begun Finishes is_quiet
    sectors_end Read =
        let x = reading p (count_of b) b.address (begun image) in
        let ends = finishes x.done x.code (length x.handed) Read in
        record {
          number = ends.0;
          bytes = ends.1;
          makes = ends.2;
          fills = front _;
          hands = read_out _;
          writes = rw (read_image (count_of b) b.address p (begun image)) untouched;
        }
    sectors_end Write =
        let x = writing p (count_of b) b.address given (begun image) in
        let ends = finishes x.done x.code (length x.handed) Write in
        record {
          number = ends.0;
          bytes = ends.1;
          makes = ends.2;
          fills = front _;
          hands = rw (write_handed (count_of b) b.address p given (begun image)) (nothing refl);
          writes = stored _;
        }

    disk_ends : (command : DiskCommand) → LeavesAs (OnDisk command) (do_disk b p given entry buffer image command)
    unfolding do_disk
    disk_ends (ArmWork command) = arm_ends command
    disk_ends (TrackWork command) = track_ends command
    disk_ends (SectorWork command) = sectors_end command

  carried_ends : (s : Setting) (command : Command) → LeavesAs command (carry_out b s given entry buffer image command)
  unfolding carry_out
  carried_ends s (Free command) = free_ends command
  carried_ends None (OnDisk command) = faulty (OnDisk command) 0x0A b.address (omega arith)
  carried_ends (Some p) (OnDisk command) = disk_ends p command
  carried_ends s Unknown = faulty Unknown 0x20 b.address (omega arith)
  carried_ends s Copy = faulty Copy 0x20 b.address (omega arith)

-- ---- So a command is refused with 2 or 3, leaves entry, buffer and image and hands nothing over, or it ends with number 0
pub data Obeyed (b : Block) (given : List ℕ) (entry : Drive) (buffer image : List ℕ) (command : Command) (e : Effect) : Type 0 where
  answered : LeavesBy b given entry buffer image command e → Obeyed b given entry buffer image command e
  denied : (number : ℕ) → 2 ≤ number → number ≤ 3 → e ≡ effect (refused number entry) buffer [] image
      → Obeyed b given entry buffer image command e

module _ (b : Block) (given : List ℕ) (entry : Drive) (buffer image : List ℕ) (command : Command) where
  verdict_obeyed : {v : Verdict} (after : Effect) → Verdicts true v → LeavesBy b given entry buffer image command after
      → Obeyed b given entry buffer image command (unless v b.drive entry (λ e. effect e buffer [] image) after)
  unfolding unless_named
  verdict_obeyed after second h = denied 2 (omega arith) (omega arith) refl
  verdict_obeyed after third h = denied 3 (omega arith) (omega arith) refl
  verdict_obeyed after (fault code at some) h = answered (faulty b given entry buffer image command code at some)
  verdict_obeyed after pass h = answered h

pub obeyed : (b : Block) (given : List ℕ) (area : ℕ) (entry : Drive) (buffer image : List ℕ)
    → Obeyed b given entry buffer image (row_for b.opcode).command (obey b given area entry buffer image)
unfolding obey
obeyed b given area entry buffer image = verdict_obeyed b given entry buffer image _ _ (judge_by b _ _ _) (carried_ends b given entry buffer image _ _)

-- ---- All that a call leaves
-- the images, where a command left the one that it was lent, and the entries likewise
pub images_kept : (drive : ℕ) (images : List (List ℕ)) → set images drive (image_of drive images) ≡ images
unfolding image_of
images_kept drive images = set-get_or images drive []

pub drives_kept : (drive : ℕ) (c : Controller) → set c.drives drive (drive_at c drive) ≡ c.drives
unfolding drive_at
drives_kept drive c = set-get_or c.drives drive blank_drive

-- status, message and counts are 0, and controller, area and images as they were
abbrev pub unmoved : Controller → (area : List ℕ) → (images : List (List ℕ)) → (number : ℕ) → Result
unmoved c area images number = record {
  outcome = record { controller = c; answer = record { number = number; status = 0; message = 0; sectors = 0; bytes = 0 } };
  area = area;
  images = images;
}
