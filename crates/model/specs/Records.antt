-- No other record changes. Whatever the controller, the block, the data and the images, damaged or not: an address that a
-- command does not name reads after it as it did before; an address that a Write counts as done reads as the data given, and
-- one that a Copy counts as done as the bytes that ran into it.
-- Reset is lent the images for reading only, so that it can change none.
use Rattle.std.specs.Prelude.{ℕ, ◌+◌, ◌*◌, ◌≤◌, ◌<◌, ◌≡◌, Bool, true, false, not, ◌&&◌, ◌||◌, List, ◌++◌, length, get_or, replicate, leb, ltb, eqb}
use Rattle.base.specs.Pick.{pick}
use Rattle.base.specs.Part.{part}
use Rattle.geometry.specs.declared.params.Lba.{Lba}
use Rattle.geometry.specs.declared.params.Track.{Track}
use Rattle.geometry.specs.declared.params.Params.{Params}
use Rattle.std.specs.Prelude.{Some, None}
use Rattle.geometry.specs.Params.{OnDrive, image_length, track_of, further}
use Rattle.geometry.specs.Medium.{medium_of}
use Rattle.track.specs.Find.{Slot}
use Rattle.sectors.specs.Transfer.{begun, found, reading}
use Rattle.contents.specs.Content.{Bytes, content_of}
use Rattle.model.specs.declared.block.Block.{Block}
use Rattle.model.specs.declared.block.CopyBlock.{CopyBlock}
use Rattle.model.specs.declared.table.Command.{Command}
use Rattle.model.specs.declared.table.Command.TheVariants.{Free, OnDisk, Copy, Unknown}
use Rattle.model.specs.declared.table.FreeCommand.TheVariants.{Initialize}
use Rattle.model.specs.declared.table.DiskCommand.TheVariants.{ArmWork, TrackWork, SectorWork}
use Rattle.model.specs.declared.table.TrackCommand.{TrackCommand}
use Rattle.model.specs.declared.table.TrackCommand.TheVariants.{FormatDrive, CheckTrack, FormatTrack, FormatBadTrack, AssignAlternate}
use Rattle.model.specs.declared.table.SectorCommand.TheVariants.{Read, Write}
use Rattle.model.specs.declared.record.Controller.{Controller}
use Rattle.model.specs.declared.record.Answer.{Answer}
use Rattle.model.specs.Block.{block_of, is_copy, is_whole, copy_of, count_of, keeps, alternate_of}
use Rattle.model.specs.Table.{row_for}
use Rattle.model.specs.Record.{drive_at, setting_in}
use Rattle.model.specs.Engine.{image_of, execute}

-- ---- What a command names
-- Good status: number 0, status 32 × drive.
unfoldable pub is_good : (drive : ℕ) → Answer → Bool
is_good drive r = eqb r.number 0 && eqb r.status (32 * drive)

-- Two addresses are of one track.
unfoldable pub one_track : Params → (a b : Lba) → Bool
one_track p a b = eqb (track_of p a).0 (track_of p b).0

-- Of the commands on tracks: by Format Track and Format Bad Track the addresses of the track; by Assign Alternate those of A
-- and B, with keep of B alone; by Format Drive those from track s on; by Check Track none.
unfoldable pub on_tracks : Params → Block → (given : List ℕ) → Lba → TrackCommand → Bool
on_tracks p b given a FormatTrack = one_track p a b.address
on_tracks p b given a FormatBadTrack = one_track p a b.address
on_tracks p b given a AssignAlternate = (not (keeps b) && one_track p a b.address) || one_track p a (alternate_of given)
on_tracks p b given a FormatDrive = leb (track_of p b.address).0 (track_of p a).0
on_tracks p b given a CheckTrack = false

-- On drive d, by a command on tracks these, where it ends with good status; by Write the sectors done; by every other command
-- none. Each names addresses of the drive that its block names, and none of another.
unfoldable pub named_by : (d : ℕ) → Params → Block → (given : List ℕ) → Answer → Lba → Command → Bool
named_by d p b given r a (OnDisk (SectorWork Write)) = eqb b.drive d && (leb b.address.0 a.0 && ltb a.0 (b.address.0 + r.sectors))
named_by d p b given r a (OnDisk (SectorWork Read)) = false
named_by d p b given r a (OnDisk (TrackWork command)) = eqb b.drive d && (is_good b.drive r && on_tracks p b given a command)
named_by d p b given r a (OnDisk (ArmWork command)) = false
named_by d p b given r a (Free command) = false
named_by d p b given r a Copy = false
named_by d p b given r a Unknown = false

-- By Copy the destination sectors done.
unfoldable pub named_by_copy : (d : ℕ) → CopyBlock → Answer → Lba → Bool
named_by_copy d k r a = eqb k.to.drive d && (leb k.to.address.0 a.0 && ltb a.0 (k.to.address.0 + r.sectors))

-- None by a block that is not whole.
unfoldable pub named : (d : ℕ) → Params → (block given : List ℕ) → Answer → Lba → Bool
named d p block given r a =
    let b = block_of block in
    is_whole block && pick (is_copy block) (named_by_copy d (copy_of block) r a) (named_by d p b given r a (row_for b.opcode).command)

-- ---- What it does not name reads as before. p: the parameters in force on drive d before the call.
unfoldable pub NoOtherRecord : Type 0
NoOtherRecord =
    (c : Controller) (block given area : List ℕ) (images : List (List ℕ)) (d : ℕ) (p : Params)
    → setting_in (medium_of d) (drive_at c d) (length (image_of d images)) ≡ Some p
    → let r = execute c block given area images in
    (a : Lba) → OnDrive p a → named d p block given r.outcome.answer a ≡ false
    → content_of p a (image_of d r.images) ≡ content_of p a (image_of d images)

-- Of a drive without parameters no byte changes, whatever the command.
unfoldable pub NoneWithoutParameters : Type 0
NoneWithoutParameters =
    (c : Controller) (block given area : List ℕ) (images : List (List ℕ)) (d : ℕ)
    → setting_in (medium_of d) (drive_at c d) (length (image_of d images)) ≡ None
    → image_of d (execute c block given area images).images ≡ image_of d images

-- ---- What a Write counts as done reads as the data given, sector i of them at the i-th address.
unfoldable pub WrittenReads : Type 0
WrittenReads =
    (c : Controller) (block given area : List ℕ) (images : List (List ℕ)) (p : Params)
    → let b = block_of block in
    length block ≡ 6 → (row_for b.opcode).command ≡ OnDisk (SectorWork Write)
    → setting_in (medium_of b.drive) (drive_at c b.drive) (length (image_of b.drive images)) ≡ Some p
    → let r = execute c block given area images in
    (i : ℕ) → i < r.outcome.answer.sectors
    → content_of p (further b.address i) (image_of b.drive r.images) ≡ Bytes (part (i * p.size) p.size given)

-- A Write with good status had parameters in force, and has done all its sectors.
unfoldable pub GoodWrites : Type 0
GoodWrites =
    (c : Controller) (block given area : List ℕ) (images : List (List ℕ))
    → let b = block_of block in
    length block ≡ 6 → (row_for b.opcode).command ≡ OnDisk (SectorWork Write)
    → let r = execute c block given area images in
    is_good b.drive r.outcome.answer ≡ true
    → (p : Params) × (setting_in (medium_of b.drive) (drive_at c b.drive) (length (image_of b.drive images)) ≡ Some p)
    × (r.outcome.answer.sectors ≡ count_of b)

-- ---- What a Copy counts as done reads as the bytes that a Read of its source handed over before it, run on, with zeros behind them.
unfoldable pub CopiedReads : Type 0
CopiedReads =
    (c : Controller) (block given area : List ℕ) (images : List (List ℕ)) (p q : Params)
    → let k = copy_of block in
    is_whole block ≡ true → is_copy block ≡ true
    → setting_in (medium_of k.from.drive) (drive_at c k.from.drive) (length (image_of k.from.drive images)) ≡ Some p
    → setting_in (medium_of k.to.drive) (drive_at c k.to.drive) (length (image_of k.to.drive images)) ≡ Some q
    → let r = execute c block given area images in
    let source = (reading p (count_of k.from) k.from.address (begun (image_of k.from.drive images))).handed in
    (i : ℕ) → i < r.outcome.answer.sectors
    → content_of q (further k.to.address i) (image_of k.to.drive r.images)
    ≡ Bytes (part (i * q.size) q.size (source ++ replicate q.size 0))

-- A Copy with good status had parameters in force on both drives, and all its source's bytes are in the sectors done.
unfoldable pub GoodCopies : Type 0
GoodCopies =
    (c : Controller) (block given area : List ℕ) (images : List (List ℕ))
    → let k = copy_of block in
    is_whole block ≡ true → is_copy block ≡ true
    → let r = execute c block given area images in
    is_good k.from.drive r.outcome.answer ≡ true
    → (p : Params) × (q : Params)
    × (setting_in (medium_of k.from.drive) (drive_at c k.from.drive) (length (image_of k.from.drive images)) ≡ Some p)
    × (setting_in (medium_of k.to.drive) (drive_at c k.to.drive) (length (image_of k.to.drive images)) ≡ Some q)
    × ((reading p (count_of k.from) k.from.address (begun (image_of k.from.drive images))).done ≡ count_of k.from)
    × (r.outcome.answer.sectors * q.size ≡ count_of k.from * p.size)

-- A Copy after which the source drive's sense has 23h (with an address, A3h): the same, but that the bytes end in the last sector done.
unfoldable pub ShortCopies : Type 0
ShortCopies =
    (c : Controller) (block given area : List ℕ) (images : List (List ℕ))
    → let k = copy_of block in
    is_whole block ≡ true → is_copy block ≡ true
    → let r = execute c block given area images in
    get_or (drive_at r.outcome.controller k.from.drive).sense 0 0 ≡ 0xA3
    → (p : Params) × (q : Params)
    × (setting_in (medium_of k.from.drive) (drive_at c k.from.drive) (length (image_of k.from.drive images)) ≡ Some p)
    × (setting_in (medium_of k.to.drive) (drive_at c k.to.drive) (length (image_of k.to.drive images)) ≡ Some q)
    × ((reading p (count_of k.from) k.from.address (begun (image_of k.from.drive images))).done ≡ count_of k.from)
    × (count_of k.from * p.size < r.outcome.answer.sectors * q.size)
    × (r.outcome.answer.sectors * q.size < count_of k.from * p.size + q.size)

-- ---- Two addresses never share a slot, on any image.
unfoldable pub SlotsApart : Type 0
SlotsApart = (p : Params) (a b : Lba) (image : List ℕ) (u : Track) (k : ℕ) → found p a image ≡ Slot u k → found p b image ≡ Slot u k → a ≡ b

-- ---- What says where records are stays
-- The call is this command of drive d, ended with good status.
unfoldable pub Is : Command → (d : ℕ) → (block : List ℕ) → Answer → Type 0
Is command d block r =
    let b = block_of block in
    (length block ≡ 6) × (b.drive ≡ d) × ((row_for b.opcode).command ≡ command) × (is_good d r ≡ true)

-- The label stays but by Format Drive of its drive.
unfoldable pub LabelStays : Type 0
LabelStays =
    (c : Controller) (block given area : List ℕ) (images : List (List ℕ)) (d : ℕ)
    → let r = execute c block given area images in
    (Is (OnDisk (TrackWork FormatDrive)) d block r.outcome.answer → ⊥) → part 0 16 (image_of d r.images) ≡ part 0 16 (image_of d images)

-- The parameters in force stay but by Initialize of the drive (and by Reset, which loads them from the label).
unfoldable pub ParametersStay : Type 0
ParametersStay =
    (c : Controller) (block given area : List ℕ) (images : List (List ℕ)) (d : ℕ)
    → let r = execute c block given area images in
    let now = drive_at r.outcome.controller d in
    (Is (Free Initialize) d block r.outcome.answer → ⊥) → (now.config ≡ (drive_at c d).config) × (now.known ≡ (drive_at c d).known)

-- The bytes past a drive's last track stay, and the length of every image.
unfoldable pub PastStays : Type 0
PastStays =
    (c : Controller) (block given area : List ℕ) (images : List (List ℕ)) (d : ℕ)
    → let after = image_of d (execute c block given area images).images in
    (length after ≡ length (image_of d images))
    × ((p : Params) → setting_in (medium_of d) (drive_at c d) (length (image_of d images)) ≡ Some p
    → (at size : ℕ) → image_length p ≤ at → part at size after ≡ part at size (image_of d images))
