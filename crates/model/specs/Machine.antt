-- Document 01, 'The plain machine': no image, no slot, no byte of a label.
--
-- With the engine it shares what the paper shares: which drives are floppies, validity and geometry of a configuration,
-- presence of a drive, a block's length and fields, the table and the order of checks with the lengths of data and the sectors
-- that a Copy fills, the layout of sense bytes, sameness of bytes. All else is written out here.
use Rattle.std.specs.Prelude.{ℕ, zero, suc, ◌+◌, ◌-◌, ◌*◌, ◌/◌, ◌%◌, Bool, true, false, not, ◌&&◌, ◌||◌, List, [], ◌∷◌, ◌++◌, length, take, drop, replicate, ltb, leb, eqb}
use Rattle.std.proofs.Math.Option.{Option, none, some}
use Rattle.base.specs.Pick.{pick}
use Rattle.base.specs.Same.{same_bytes}
use Rattle.base.specs.Byte.{byte}
use Rattle.geometry.specs.declared.params.Lba.{Lba}
use Rattle.geometry.specs.declared.params.Track.{Track}
use Rattle.geometry.specs.declared.params.Params.{Params}
use Rattle.geometry.specs.declared.medium.Medium.{Medium}
use Rattle.geometry.specs.declared.medium.Medium.TheVariants.{HardDisk, Floppy}
use Rattle.geometry.specs.Config.{Setting}
use Rattle.std.specs.Prelude.{Some, None}
use Rattle.geometry.specs.Params.{track_count, track_of, next, further, track}
use Rattle.geometry.specs.Medium.{medium_of}
use Rattle.geometry.specs.Config.{setting_of, is_valid, precompensation_in}
use Rattle.model.specs.declared.block.Block.{Block}
use Rattle.model.specs.declared.block.CopyBlock.{CopyBlock}
use Rattle.model.specs.declared.table.Command.{Command}
use Rattle.model.specs.declared.table.Command.TheVariants.{Free, OnDisk, Copy, Unknown}
use Rattle.model.specs.declared.table.FreeCommand.{FreeCommand}
use Rattle.model.specs.declared.table.FreeCommand.TheVariants.{RequestSense, WriteBuffer, ReadBuffer, Initialize}
use Rattle.model.specs.declared.table.DiskCommand.{DiskCommand}
use Rattle.model.specs.declared.table.DiskCommand.TheVariants.{ArmWork, TrackWork, SectorWork}
use Rattle.model.specs.declared.table.ArmCommand.{ArmCommand}
use Rattle.model.specs.declared.table.ArmCommand.TheVariants.{TestReady, Recalibrate, Seek}
use Rattle.model.specs.declared.table.TrackCommand.{TrackCommand}
use Rattle.model.specs.declared.table.TrackCommand.TheVariants.{FormatDrive, CheckTrack, FormatTrack, FormatBadTrack, AssignAlternate}
use Rattle.model.specs.declared.table.SectorCommand.{SectorCommand}
use Rattle.model.specs.declared.table.SectorCommand.TheVariants.{Read, Write}
use Rattle.model.specs.Verdicts.{Verdict}
use Rattle.model.specs.Verdicts.{Refused, Faulty, Passed}
use Rattle.model.specs.Block.{block_of, is_copy, is_whole, copy_of, count_of, from_buffer, keeps}
use Rattle.model.specs.Table.{row_for}
use Rattle.model.specs.declared.verdict.View.{View}
use Rattle.model.specs.Checks.{Test, on, judged, present_with, judge, judge_copy}
use Rattle.model.specs.Sense.{sense_of}
use Rattle.model.specs.Feed.{Feed, reset, command, Reply, bare}

-- ---- State
-- Per track sound, bad, moved to a track or taken by one; a track that was never formatted has no state.
pub data Kind : Type 0 where
  stateless sound bad : Kind
  moved taken : Track → Kind

-- Per drive the image length, stored configuration or none, configuration in force or none, pending or not; per track its
-- state and an interleave; for each address on a sound or moved track D bytes (what it gives elsewhere counts for nothing).
pub record Disk : Type 0 where
  pub len : ℕ
  pub stored : Option (List ℕ)
  pub force : Option (List ℕ)
  pub pending : Bool
  pub kind : Track → Kind
  pub inter : Track → ℕ
  pub held : Lba → List ℕ

-- Buffer, four senses, four drives: by their numbers.
pub record Machine : Type 0 where
  pub buffer : List ℕ
  pub senses : ℕ → List ℕ
  pub disks : ℕ → Disk

-- Fresh, no configuration is stored and the map is empty.
unfoldable pub fresh_disk : (len : ℕ) → Disk
fresh_disk len =
    record { len = len; stored = none; force = none; pending = false; kind = λ t. stateless; inter = λ t. 0; held = λ a. [] }

-- It is fed the image lengths.
unfoldable pub fresh_machine : (len : ℕ → ℕ) → Machine
fresh_machine len = record { buffer = replicate 512 0; senses = λ d. replicate 4 0; disks = λ d. fresh_disk (len d) }

-- ---- Changes of the state
unfoldable pub changed {ℓ} : {A : Type ℓ} → (ℕ → A) → ℕ → A → ℕ → A
changed f i x j = pick (eqb j i) x (f j)

unfoldable pub with_sense : (drive : ℕ) → List ℕ → Machine → Machine
with_sense drive sense m = record { buffer = m.buffer; senses = changed m.senses drive sense; disks = m.disks }

unfoldable pub with_buffer : List ℕ → Machine → Machine
with_buffer buffer m = record { buffer = buffer; senses = m.senses; disks = m.disks }

unfoldable pub with_disk : (drive : ℕ) → Disk → Machine → Machine
with_disk drive u m = record { buffer = m.buffer; senses = m.senses; disks = changed m.disks drive u }

-- A configuration or none comes into force, pending or not.
unfoldable pub in_force : Option (List ℕ) → (pending : Bool) → Disk → Disk
in_force config pending u =
    record { len = u.len; stored = u.stored; force = config; pending = pending; kind = u.kind; inter = u.inter; held = u.held }

-- Track t has a state and an interleave from now on.
unfoldable pub becomes : Track → Kind → (inter : ℕ) → Disk → Disk
becomes t kind inter u = record {
  len = u.len;
  stored = u.stored;
  force = u.force;
  pending = u.pending;
  kind = λ v. pick (eqb v.0 t.0) kind (u.kind v);
  inter = λ v. pick (eqb v.0 t.0) inter (u.inter v);
  held = u.held;
}

-- The fill at each address of track t.
unfoldable pub filled : Params → Track → (fill : List ℕ) → Disk → Disk
filled p t fill u = record {
  len = u.len;
  stored = u.stored;
  force = u.force;
  pending = u.pending;
  kind = u.kind;
  inter = u.inter;
  held = λ a. pick (eqb (track_of p a).0 t.0) fill (u.held a);
}

-- D bytes at one address.
unfoldable pub storing : Lba → List ℕ → Disk → Disk
storing at sector u = record {
  len = u.len;
  stored = u.stored;
  force = u.force;
  pending = u.pending;
  kind = u.kind;
  inter = u.inter;
  held = λ a. pick (eqb a.0 at.0) sector (u.held a);
}

-- ---- How a call ends: a reply, and the machine after it. The sense bytes name a drive, of a command of one drive that drive.
unfoldable pub failing_on : (named : ℕ) → Block → (code : ℕ) → Lba → (sectors : ℕ) → (handed : List ℕ) → Machine → Reply × Machine
failing_on named b code at sectors handed m = (
  record { number = 0; status = 2 + 32 * b.drive; message = 0; sectors = sectors; bytes = length handed; handed = handed },
  with_sense b.drive (sense_of code named at) m,
)

abbrev pub failing : Block → (code : ℕ) → Lba → (sectors : ℕ) → (handed : List ℕ) → Machine → Reply × Machine
failing b code at sectors handed m = failing_on b.drive b code at sectors handed m

unfoldable pub well : Block → (sectors : ℕ) → (handed : List ℕ) → Machine → Reply × Machine
well b sectors handed m = (
  record { number = 0; status = 32 * b.drive; message = 0; sectors = sectors; bytes = length handed; handed = handed },
  with_sense b.drive (sense_of 0 b.drive (record { 0 = 0 })) m,
)

unfoldable pub providing_on : (named : ℕ) → Verdict → Block → Machine → Reply × Machine → Reply × Machine
providing_on named (Refused number) b m after = (bare number, m)
providing_on named (Faulty code at) b m after = failing_on named b code at 0 [] m
providing_on named Passed b m after = after

abbrev pub providing : Verdict → Block → Machine → Reply × Machine → Reply × Machine
providing verdict b m after = providing_on b.drive verdict b m after

-- ---- Own checks read the track states
unfoldable pub is_bad : Kind → Bool
is_bad stateless = false
is_bad sound = false
is_bad bad = true
is_bad (moved u) = false
is_bad (taken u) = false

unfoldable pub is_moved : Kind → Bool
is_moved stateless = false
is_moved sound = false
is_moved bad = false
is_moved (moved u) = true
is_moved (taken u) = false

unfoldable pub is_taken : Kind → Bool
is_taken stateless = false
is_taken sound = false
is_taken bad = false
is_taken (moved u) = false
is_taken (taken u) = true

-- Read, Write and Check Track give 19h on a bad track and 1Ch on a taken one.
unfoldable pub denied : Kind → Lba → List Test
denied kind a = on (is_bad kind) 0x19 a ∷ on (is_taken kind) 0x1C a ∷ []

-- Format Track and Format Bad Track. Moved: 1Dh. Taken: 1Ch.
unfoldable pub paired : Kind → Lba → List Test
paired kind a = on (is_moved kind) 0x1D a ∷ on (is_taken kind) 0x1C a ∷ []

-- Format Drive: exactly one of a moved or taken track and its partner is below s.
unfoldable pub parted : (s t u : Track) → Bool
parted s t u = (ltb t.0 s.0 && leb s.0 u.0) || (ltb u.0 s.0 && leb s.0 t.0)

unfoldable pub parted_by : (s t : Track) → Kind → Bool
parted_by s t stateless = false
parted_by s t sound = false
parted_by s t bad = false
parted_by s t (moved u) = parted s t u
parted_by s t (taken u) = parted s t u

-- Some of the first n tracks is such a one.
unfoldable pub some_parted : (Track → Kind) → (s : Track) → (n : ℕ) → Bool
some_parted kind s zero = false
some_parted kind s (suc t) = parted_by s (track t) (kind (track t)) || some_parted kind s t

-- The alternate's address: three bytes, high byte first.
unfoldable pub address_given : (given : List ℕ) → Lba
address_given given = record { 0 = byte given 0 * 65536 + byte given 1 * 256 + byte given 2 }

-- Assign Alternate of track A at address a to track B at address b: first byte above 1Fh, 22h; B out of range, 21h; A moved,
-- 1Dh; A taken, 1Ch; B = A, 22h; B taken, 1Dh; B moved or bad, 1Fh; with keep, A bad, 19h (request E7).
unfoldable pub unassignable : (Track → Kind) → Params → (keep : Bool) → (first : ℕ) → (a b : Lba) → List Test
unassignable kind p keep first a b =
    on (leb 0x20 first) 0x22 a
    ∷ on (leb (track_count p * p.sectors) b.0) 0x21 b
    ∷ on (is_moved (kind (track_of p a))) 0x1D a
    ∷ on (is_taken (kind (track_of p a))) 0x1C a
    ∷ on (eqb (track_of p a).0 (track_of p b).0) 0x22 a
    ∷ on (is_taken (kind (track_of p b))) 0x1D b
    ∷ on (is_moved (kind (track_of p b)) || is_bad (kind (track_of p b))) 0x1F b
    ∷ on (keep && is_bad (kind (track_of p a))) 0x19 a
    ∷ []

-- ---- Read and Write: the sectors done, how it ended, the disk after it
pub record Passage : Type 0 where
  pub sectors : List (List ℕ)
  pub end : Verdict
  pub disk : Disk

unfoldable pub finished : Verdict → Disk → Passage
finished end u = record { sectors = []; end = end; disk = u }

unfoldable pub with_first : List ℕ → Passage → Passage
with_first sector x = record { sectors = sector ∷ x.sectors; end = x.end; disk = x.disk }

-- A sector that is denied ends it; else it goes on.
unfoldable pub passing : Verdict → Disk → Passage → Passage
passing (Refused number) u rest = finished (Refused number) u
passing (Faulty code at) u rest = finished (Faulty code at) u
passing Passed u rest = rest

-- n sectors from address a on. On a track that is neither bad nor taken Read and Write use the map's bytes.
unfoldable pub read_from : Params → (n : ℕ) → Lba → Disk → Passage
read_from p zero a u = finished Passed u
read_from p (suc n) a u =
    passing (judged (denied (u.kind (track_of p a)) a)) u
    (with_first (u.held a) (read_from p n (next a) u))

unfoldable pub write_from : Params → (n : ℕ) → Lba → (given : List ℕ) → Disk → Passage
write_from p zero a given u = finished Passed u
write_from p (suc n) a given u =
    passing (judged (denied (u.kind (track_of p a)) a)) u
    (with_first (take p.size given)
    (write_from p n (next a) (drop p.size given) (storing a (take p.size given) u)))

unfoldable pub inARow : List (List ℕ) → List ℕ
inARow [] = []
inARow (x ∷ xs) = x ++ inARow xs

-- Each sector read or written is left in the buffer's first D bytes.
unfoldable pub leaving : List (List ℕ) → (buffer : List ℕ) → List ℕ
leaving [] buffer = buffer
leaving (x ∷ xs) buffer = leaving xs (x ++ drop (length x) buffer)

-- n sectors done, `handed` handed over; the machine before and after.
unfoldable pub transfer_by : Verdict → Block → (n : ℕ) → (handed : List ℕ) → (before after : Machine) → Reply × Machine
transfer_by (Refused number) b n handed before after = (bare number, before)
transfer_by (Faulty code at) b n handed before after = failing b code at n handed after
transfer_by Passed b n handed before after = well b n handed after

unfoldable pub transfer : Block → Passage → (handed : List ℕ) → Machine → Reply × Machine
transfer b x handed m =
    transfer_by x.end b (length x.sectors) handed m
    (with_disk b.drive x.disk (with_buffer (leaving x.sectors m.buffer) m))

-- ---- Formats: the fill is E5h on a floppy; on a hard disk 6Ch, or with control bit 5 the buffer's first D bytes
unfoldable pub filling_on : Medium → Block → Params → Machine → List ℕ
filling_on HardDisk b p m = pick (from_buffer b) (take p.size m.buffer) (replicate p.size 0x6C)
filling_on Floppy b p m = replicate p.size 0xE5

unfoldable pub filling : Block → Params → Machine → List ℕ
filling b p m = filling_on (medium_of b.drive) b p m

-- Format Drive: tracks from s to the last are sound, with their interleave and fill; the states of tracks past the last are
-- forgotten; the configuration in force is stored; pending ends.
unfoldable pub from_on : Params → (s t : Track) → Bool
from_on p s t = leb s.0 t.0 && ltb t.0 (track_count p)

unfoldable pub reformatted : Params → (s : Track) → (inter : ℕ) → (fill : List ℕ) → Disk → Disk
reformatted p s inter fill u = record {
  len = u.len;
  stored = u.force;
  force = u.force;
  pending = false;
  kind = λ t. pick (ltb t.0 (track_count p)) (pick (leb s.0 t.0) sound (u.kind t)) stateless;
  inter = λ t. pick (from_on p s t) inter (u.inter t);
  held = λ a. pick (from_on p s (track_of p a)) fill (u.held a);
}

-- ---- A command whose checks have passed, up to its own, on a drive with parameters p in force
unfoldable pub format_drive : Block → Params → Machine → Disk → Reply × Machine
format_drive b p m u =
    providing (judged (on (some_parted u.kind (track_of p b.address) (track_count p)) 0x1D b.address ∷ [])) b m
    (well b 0 [] (with_disk b.drive (reformatted p (track_of p b.address) b.extra (filling b p m) u) m))

-- Check Track gives 1Ah exactly when its interleave is not the track's.
unfoldable pub check_track : Block → Params → Machine → Disk → Reply × Machine
check_track b p m u =
    providing
    (judged
    (denied (u.kind (track_of p b.address)) b.address ++ (on (not (eqb b.extra (u.inter (track_of p b.address)))) 0x1A b.address ∷ [])))
    b m (well b 0 [] m)

unfoldable pub format_track : Block → Params → Machine → Disk → Reply × Machine
format_track b p m u =
    providing (judged (paired (u.kind (track_of p b.address)) b.address)) b m
    (well b 0 []
    (with_disk b.drive (filled p (track_of p b.address) (filling b p m) (becomes (track_of p b.address) sound b.extra u)) m))

unfoldable pub format_bad_track : Block → Params → Machine → Disk → Reply × Machine
format_bad_track b p m u =
    providing (judged (paired (u.kind (track_of p b.address)) b.address)) b m
    (well b 0 [] (with_disk b.drive (becomes (track_of p b.address) bad b.extra u) m))

unfoldable pub read : Block → Params → Machine → Disk → Reply × Machine
read b p m u = transfer b (read_from p (count_of b) b.address u) (inARow (read_from p (count_of b) b.address u).sectors) m

unfoldable pub write : Block → Params → (given : List ℕ) → Machine → Disk → Reply × Machine
write b p given m u = transfer b (write_from p (count_of b) b.address given u) [] m

-- An assignment sets both tracks' states and interleaves, and B's fill at each address of A, which it makes moved; with keep A's bytes
-- stay.
unfoldable pub moving : (A B : Track) → (inter : ℕ) → Disk → Disk
moving A B inter u = becomes B (taken A) inter (becomes A (moved B) inter u)

unfoldable pub assign_to : Params → (keep : Bool) → (A B : Track) → (inter : ℕ) → (fill : List ℕ) → Disk → Disk
assign_to p keep A B inter fill u = pick keep (moving A B inter u) (filled p A fill (moving A B inter u))

unfoldable pub assign_alternate : Block → Params → (given : List ℕ) → Machine → Disk → Reply × Machine
assign_alternate b p given m u =
    providing (judged (unassignable u.kind p (keeps b) (byte given 0) b.address (address_given given))) b m
    (well b 0 []
    (with_disk b.drive (assign_to p (keeps b) (track_of p b.address) (track_of p (address_given given)) b.extra (filling b p m) u) m))

-- Initialize: the configuration stored, which is valid, comes into force, not pending (request E1); another, pending, if it is valid
-- with precompensation in its bound (request E8), else 22h.
unfoldable pub is_stored : Option (List ℕ) → (config : List ℕ) → Bool
is_stored none config = false
is_stored (some stored) config = same_bytes stored config

unfoldable pub initialize_by : (held fits : Bool) → Block → (config : List ℕ) → Machine → Disk → Reply × Machine
initialize_by held fits b config m u =
    pick (held || fits)
    (well b 0 [] (with_disk b.drive (in_force (some config) (not held) u) m))
    (failing b 0x22 b.address 0 [] m)

-- ---- The commands, once their checks have passed
unfoldable pub freely : Block → (given : List ℕ) → Machine → Disk → FreeCommand → Reply × Machine
freely b given m u RequestSense = ((well b 0 (m.senses b.drive) m).0, m)
freely b given m u WriteBuffer = well b 0 [] (with_buffer (take 512 given) m)
freely b given m u ReadBuffer = well b 0 m.buffer m
freely b given m u Initialize =
    let medium = medium_of b.drive in
    let config = take 10 given in
    initialize_by (is_stored u.stored config) (is_valid (setting_of medium config u.len) && precompensation_in medium config) b config m u

unfoldable pub seeking : Block → Machine → ArmCommand → Reply × Machine
seeking b m TestReady = well b 0 [] m
seeking b m Recalibrate = well b 0 [] m
seeking b m Seek = well b 0 [] m

unfoldable pub on_tracks : Block → Params → (given : List ℕ) → Machine → Disk → TrackCommand → Reply × Machine
on_tracks b p given m u FormatDrive = format_drive b p m u
on_tracks b p given m u CheckTrack = check_track b p m u
on_tracks b p given m u FormatTrack = format_track b p m u
on_tracks b p given m u FormatBadTrack = format_bad_track b p m u
on_tracks b p given m u AssignAlternate = assign_alternate b p given m u

unfoldable pub on_sectors : Block → Params → (given : List ℕ) → Machine → Disk → SectorCommand → Reply × Machine
on_sectors b p given m u Read = read b p m u
on_sectors b p given m u Write = write b p given m u

unfoldable pub with_parameters : Block → Params → (given : List ℕ) → Machine → Disk → DiskCommand → Reply × Machine
with_parameters b p given m u (ArmWork w) = seeking b m w
with_parameters b p given m u (TrackWork w) = on_tracks b p given m u w
with_parameters b p given m u (SectorWork w) = on_sectors b p given m u w

unfoldable pub carried : Block → Setting → (given : List ℕ) → Machine → Disk → Command → Reply × Machine
carried b setting given m u (Free w) = freely b given m u w
carried b None given m u (OnDisk w) = failing b 0x0A b.address 0 [] m
carried b (Some p) given m u (OnDisk w) = with_parameters b p given m u w
carried b setting given m u Unknown = failing b 0x20 b.address 0 [] m
-- Copy is two drives' command: it does not come here.
carried b setting given m u Copy = failing b 0x20 b.address 0 [] m

-- ---- The order of checks, then the command
unfoldable pub setting_with : Medium → Option (List ℕ) → (len : ℕ) → Setting
setting_with medium none len = None
setting_with medium (some config) len = setting_of medium config len

unfoldable pub seen : Medium → Disk → View
seen medium u =
    record { medium = medium; present = present_with u.len; setting = setting_with medium u.force u.len; pending = u.pending }

unfoldable pub ordered : Block → (given : List ℕ) → (area : ℕ) → Machine → Disk → Reply × Machine
ordered b given area m u =
    let view = seen (medium_of b.drive) u in
    providing (judge b view (length given) area) b m (carried b view.setting given m u (row_for b.opcode).command)

-- ---- Copy (request E5): bytes run on from the source's sectors into the destination's
unfoldable pub has_passed : Verdict → Bool
has_passed (Refused number) = false
has_passed (Faulty code at) = false
has_passed Passed = true

-- As many sectors as the bytes read fill; where all are read, one more for a rest.
unfoldable pub sectors_filled : (all : Bool) → (bytes size : ℕ) → ℕ
sectors_filled all bytes size = pick all ((bytes + (size - 1)) / size) (bytes / size)

-- The source's sectors are read; then what was read, completed with zeros, is written.
unfoldable pub poured : Params → Lba → Passage → Disk → Passage
poured q b r v =
    let bytes = inARow r.sectors in
    write_from q (sectors_filled (has_passed r.end) (length bytes) q.size) b (bytes ++ replicate q.size 0) v

-- A destination sector has its bytes before the source goes on: its fault comes first, then the source's, then 23h for a rest.
unfoldable pub copy_ends : CopyBlock → (end read : Verdict) → (rest done : ℕ) → (before after : Machine) → Reply × Machine
copy_ends k (Refused number) read rest done before after = (bare number, before)
copy_ends k (Faulty code at) read rest done before after = failing_on k.to.drive k.from code at done [] after
copy_ends k Passed (Refused number) rest done before after = (bare number, before)
copy_ends k Passed (Faulty code at) rest done before after = failing k.from code at done [] after
copy_ends k Passed Passed zero done before after = well k.from done [] after
copy_ends k Passed Passed (suc rest) done before after =
    failing_on k.to.drive k.from 0x23 (further k.to.address (done - 1)) done [] after

unfoldable pub copy_over : CopyBlock → (p q : Params) → Machine → Reply × Machine
copy_over k p q m =
    let r = read_from p (count_of k.from) k.from.address (m.disks k.from.drive) in
    let w = poured q k.to.address r (m.disks k.to.drive) in
    copy_ends k w.end r.end (length (inARow r.sectors) % q.size) (length w.sectors) m
    (with_disk k.to.drive w.disk (with_buffer (leaving w.sectors m.buffer) m))

unfoldable pub copy_by : CopyBlock → (from to : Setting) → Machine → Reply × Machine
copy_by k None to m = failing k.from 0x0A k.from.address 0 [] m
copy_by k (Some p) None m = failing_on k.to.drive k.from 0x0A k.to.address 0 [] m
copy_by k (Some p) (Some q) m = copy_over k p q m

unfoldable pub ordered_copy : CopyBlock → Machine → Reply × Machine
ordered_copy k m =
    let v = seen (medium_of k.from.drive) (m.disks k.from.drive) in
    let w = seen (medium_of k.to.drive) (m.disks k.to.drive) in
    let said = judge_copy k v w in
    providing_on said.named said.verdict k.from m (copy_by k v.setting w.setting m)

-- ---- Reset drops pending and returns to the stored configuration, map unchanged; buffer and senses are zero.
unfoldable pub restored : Disk → Disk
restored u = in_force u.stored false u

-- Fed a Reset, or a command's block, given data and data area length.
unfoldable pub step : Machine → Feed → Reply × Machine
step m reset = (bare 0, record { buffer = replicate 512 0; senses = λ d. replicate 4 0; disks = λ d. restored (m.disks d) })
step m (command block given area) =
    pick (is_whole block)
    (pick (is_copy block) (ordered_copy (copy_of block) m) (ordered (block_of block) given area m (m.disks (block_of block).drive)))
    (bare 1, m)
