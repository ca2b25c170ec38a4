-- Request E7, power failure: while Assign Alternate moves a track A to a track B with its contents, power may fail at any point. Whatever
-- the controller, the images, damaged or not, and the point, if the drive's label holds the parameters in force: after a Reset every Read
-- of that drive outside B answers as it would have before the command, and the console can go on: either the command can be sent again,
-- or A is moved.
use Rattle.std.specs.Prelude.{ℕ, ◌<◌, ◌≡◌, true, List, length, set}
use Rattle.geometry.specs.declared.params.Lba.{Lba}
use Rattle.geometry.specs.declared.params.Track.{Track}
use Rattle.geometry.specs.declared.params.Params.{Params}
use Rattle.std.specs.Prelude.{Some}
use Rattle.geometry.specs.Params.{OnDrive, track_of, further}
use Rattle.geometry.specs.Medium.{medium_of}
use Rattle.geometry.specs.Config.{label_holds}
use Rattle.interleave.specs.Layout.{layout_of}
use Rattle.track.specs.Find.{Slot}
use Rattle.track.specs.Image.{first_id}
use Rattle.sectors.specs.Transfer.{found}
use Rattle.contents.specs.Content.{content_of}
use Rattle.keeping.specs.Keep.{kept}
use Rattle.keeping.specs.Power.{Interrupted}
use Rattle.model.specs.declared.table.Command.TheVariants.{OnDisk}
use Rattle.model.specs.declared.table.DiskCommand.TheVariants.{TrackWork, SectorWork}
use Rattle.model.specs.declared.table.TrackCommand.TheVariants.{AssignAlternate}
use Rattle.model.specs.declared.table.SectorCommand.TheVariants.{Read}
use Rattle.model.specs.declared.record.Controller.{Controller}
use Rattle.model.specs.Block.{block_of, count_of, keeps, alternate_of}
use Rattle.model.specs.Table.{row_for}
use Rattle.model.specs.Record.{drive_at, setting_in}
use Rattle.model.specs.Engine.{image_of, execute, reset_of}
use Rattle.model.specs.Records.{Is}
use Rattle.model.specs.Claim.{Call, begin, engine_at_end}

-- ---- The command: Assign Alternate of drive d with keep, which would end well; parameters p are in force, and the drive's label holds them.
pub record Keeping (c : Controller) (block given area : List ℕ) (images : List (List ℕ)) (d : ℕ) (p : Params) : Type 0 where
  pub is : Is (OnDisk (TrackWork AssignAlternate)) d block (execute c block given area images).outcome.answer
  pub keep : keeps (block_of block) ≡ true
  pub force : setting_in (medium_of d) (drive_at c d) (length (image_of d images)) ≡ Some p
  pub label : label_holds (medium_of d) (image_of d images) (drive_at c d).config ≡ true

-- A is the track of the block's address, B that of the address given.
abbrev pub first_track : Params → (block : List ℕ) → Track
first_track p block = track_of p (block_of block).address

abbrev pub second_track : Params → (given : List ℕ) → Track
second_track p given = track_of p (alternate_of given)

-- ---- Power fails while it runs: drive d's image is cut short at one of its writes, the other images are as they were. Then a Reset.
abbrev pub CutShort : Params → (block given image cut : List ℕ) → Type 0
CutShort p block given image cut =
    Interrupted p (first_track p block) (second_track p given) (layout_of p.sectors (block_of block).extra) image cut

abbrev pub left_images : (d : ℕ) → (images : List (List ℕ)) → (cut : List ℕ) → List (List ℕ)
left_images d images cut = set images d cut

abbrev pub restarted : (images : List (List ℕ)) → Controller
restarted images = (reset_of images).controller

-- Where power does not fail the command leaves the image after all these writes, the last that a cut can leave.
unfoldable pub RunsToTheEnd : Type 0
RunsToTheEnd =
    (c : Controller) (block given area : List ℕ) (images : List (List ℕ)) (d : ℕ) (p : Params) → Keeping c block given area images d p
    → let left = image_of d (execute c block given area images).images in
    (left ≡ kept p (first_track p block) (second_track p given) (layout_of p.sectors (block_of block).extra) (image_of d images))
    × CutShort p block given (image_of d images) left

-- From every fresh start, on any images, the label holds the parameters in force wherever the command runs.
unfoldable pub FromFresh : Type 0
FromFresh =
    (images : List (List ℕ)) (calls : List Call) (block given area : List ℕ) (d : ℕ) → d < 4
    → let s = engine_at_end (begin images) calls in
    Is (OnDisk (TrackWork AssignAlternate)) d block (execute s.controller block given area s.images).outcome.answer → keeps (block_of block) ≡ true
    → (p : Params) × Keeping s.controller block given area s.images d p

-- ---- A Read of drive d, of sectors outside track B. It may run past the end of the drive (21h); its other fields are not asked.
pub record ReadOutside (block : List ℕ) (d : ℕ) (p : Params) (B : Track) : Type 0 where
  pub six : length block ≡ 6
  pub command : (row_for (block_of block).opcode).command ≡ OnDisk (SectorWork Read)
  pub drive : (block_of block).drive ≡ d
  pub outside : (i : ℕ) → i < count_of (block_of block) → (track_of p (further (block_of block).address i)).0 ≡ B.0 → ⊥

-- ---- The theorem. The same parameters are in force again; and such a Read answers as it would have before the command: number, status,
-- message, counts and the whole data area; and the same sense after it, but where the Read is refused, since a refusal leaves the sense
-- as it was.
unfoldable pub ReadsAsBefore : Type 0
ReadsAsBefore =
    (c : Controller) (block given area : List ℕ) (images : List (List ℕ)) (d : ℕ) (p : Params) → Keeping c block given area images d p
    → (cut : List ℕ) → CutShort p block given (image_of d images) cut
    → let left = left_images d images cut in
    ((drive_at (restarted left) d).config ≡ (drive_at c d).config)
    × (setting_in (medium_of d) (drive_at (restarted left) d) (length cut) ≡ Some p)
    × ((read sent room : List ℕ) → ReadOutside read d p (second_track p given)
    → let before = execute c read sent room images in
    let after = execute (restarted left) read sent room left in
    (after.outcome.answer ≡ before.outcome.answer)
    × (after.area ≡ before.area)
    × (before.outcome.answer.number ≡ 0 → (drive_at after.outcome.controller d).sense ≡ (drive_at before.outcome.controller d).sense))

-- ---- How the console goes on: the request's 'can be sent again', and more
-- As long as A's slot 0 is as it was, the command can be sent again, as often as power fails: it would end well, on the same parameters
-- held by the label, with the same answer, and it leaves the very image that it would have left uncut.
unfoldable pub SentAgain : Type 0
SentAgain =
    (c : Controller) (block given area : List ℕ) (images : List (List ℕ)) (d : ℕ) (p : Params) → Keeping c block given area images d p
    → (cut : List ℕ) → CutShort p block given (image_of d images) cut
    → first_id p (first_track p block) cut ≡ first_id p (first_track p block) (image_of d images)
    → let left = left_images d images cut in
    Keeping (restarted left) block given area left d p
    × ((execute (restarted left) block given area left).outcome.answer ≡ (execute c block given area images).outcome.answer)
    × (image_of d (execute (restarted left) block given area left).images ≡ image_of d (execute c block given area images).images)

-- Once it is another, A is moved: its addresses are found on B, and have the contents that they had.
unfoldable pub MovedOn : Type 0
MovedOn =
    (c : Controller) (block given area : List ℕ) (images : List (List ℕ)) (d : ℕ) (p : Params) → Keeping c block given area images d p
    → (cut : List ℕ) → CutShort p block given (image_of d images) cut
    → (first_id p (first_track p block) cut ≡ first_id p (first_track p block) (image_of d images) → ⊥)
    → (a : Lba) → OnDrive p a → track_of p a ≡ first_track p block
    → (k : ℕ) × (found p a cut ≡ Slot (second_track p given) k) × (content_of p a cut ≡ content_of p a (image_of d images))
