-- The same of any call: the block may be wrong, the drive another, the command refused or failed.
use Prim.Native.Nat.{ℕ, ◌*◌, ◌<◌}
use mathlib.Core.Path.{◌≡◌, refl, sym, ap, ◌∙◌}
use mathlib.Core.Bool.{Bool, true, false, ◌&&◌, true≢false}
use mathlib.Core.List.{List, []}
use native.Mathlib.Omega.{arith}
use lib.ListN.{length}
use lib.Dec.{eqb}
use borrow.Author.Tests.{eq-eqb, eqb-true, eqb-false}
use Rattle.base.specs.Part.{part}
use Rattle.base.proofs.Decide.{pick_true, pick-false}
use Rattle.geometry.specs.declared.params.Lba.{Lba}
use Rattle.geometry.specs.declared.params.Params.{Params}
use Rattle.geometry.specs.Config.{Setting}
use Rattle.std.specs.Prelude.{Some, None}
use Rattle.geometry.specs.Params.{track_count, track_of, OnDrive, further}
use Rattle.geometry.specs.Medium.{medium_of}
use Rattle.track.specs.Image.{Fits}
use Rattle.sectors.specs.Transfer.{begun}
use Rattle.contents.specs.Content.{Bytes, content_of}
use Rattle.contents.proofs.Laws.{Given}
use Rattle.contents.proofs.Laws
use Rattle.model.specs.declared.block.Block.{Block}
use Rattle.model.specs.declared.table.Command.{Command}
use Rattle.model.specs.declared.table.Command.TheVariants.{Free, OnDisk, Copy, Unknown}
use Rattle.model.specs.declared.table.FreeCommand.{FreeCommand}
use Rattle.model.specs.declared.table.FreeCommand.TheVariants.{RequestSense, WriteBuffer, ReadBuffer, Initialize}
use Rattle.model.specs.declared.table.DiskCommand.{DiskCommand}
use Rattle.model.specs.declared.table.DiskCommand.TheVariants.{ArmWork, TrackWork, SectorWork}
use Rattle.model.specs.declared.table.TrackCommand.{TrackCommand}
use Rattle.model.specs.declared.table.TrackCommand.TheVariants.{FormatDrive, CheckTrack, FormatTrack, FormatBadTrack, AssignAlternate}
use Rattle.model.specs.declared.table.SectorCommand.{SectorCommand}
use Rattle.model.specs.declared.table.SectorCommand.TheVariants.{Read, Write}
use Rattle.model.specs.declared.record.Drive.{Drive}
use Rattle.model.specs.declared.record.Ending.{Ending}
use Rattle.model.specs.declared.record.Controller.{Controller}
use Rattle.model.specs.Verdicts.{Verdict}
use Rattle.model.specs.Verdicts.{Passed}
use Rattle.model.specs.Block.{block_of, count_of, is_whole, is_copy, copy_of}
use Rattle.model.specs.Table.{check_number, is_among, row_for}
use Rattle.model.specs.Checks.{bytes_of, size_in, judge}
use Rattle.model.specs.Record.{drive_at, setting_in, refused, failed, unless, Effect, effect, unless_named}
use Rattle.model.specs.Commands.{transferred, read, do_free, do_track, do_sectors, as_effect, do_disk, carry_out}
use Rattle.model.specs.Engine.{view_of, obey, Result, image_of, left, on_drive, left_by_copy, on_drives, execute}
use Rattle.model.specs.Records.{is_good, on_tracks, named_by, named_by_copy, named, NoOtherRecord, NoneWithoutParameters, PastStays, WrittenReads, GoodWrites, SlotsApart}
use Rattle.model.proofs.engine.Checked.{opcode_for, track_cleared, count_cleared}
use Rattle.model.proofs.engine.Leaving.{Verdicts, second, third, fault, pass, judge_by, read_image}
use Rattle.model.proofs.engine.Beyond.{clear, w, fits, ten, outside_kept}
use Rattle.model.proofs.engine.Outside.{Outside, outside_self, outside_less}
use Rattle.model.proofs.engine.Assembled.{other_image, own_image}
use Rattle.model.proofs.engine.Blocks.{by_block, of_one_drive, six_whole, other_row}
use Rattle.model.proofs.engine.CopyLeaves.{by_copy, copy_leaves}
use Rattle.model.proofs.records.Commands.{format_track_other, format_bad_track_other, format_drive_other, assign_alternate_other}
use Rattle.model.proofs.records.Commands.{not_good, write_other, write_given, write_whole}
use Rattle.model.proofs.records.Copies.{copy_spares}

-- ---- A command that has not passed counts no sector, leaves the image, and does not end with good status
pub record NotDone (drive : ℕ) (x : Ending) : Type 0 where
  pub none : x.answer.sectors ≡ 0
  pub bad : is_good drive x.answer ≡ false

pub by_verdict : (P : Effect → Type 0) (drive : ℕ) (entry : Drive) (buffer image : List ℕ) (after : Effect) {v : Verdict} → Verdicts true v
    → ((x : Ending) → NotDone drive x → P (effect x buffer [] image)) → (v ≡ Passed → P after)
    → P (unless v drive entry (λ e. effect e buffer [] image) after)
unfolding unless_named refused failed is_good
by_verdict P drive entry buffer image after second old new = old _ (record { none = refl; bad = refl })
by_verdict P drive entry buffer image after third old new = old _ (record { none = refl; bad = refl })
by_verdict P drive entry buffer image after (fault code at some) old new = old _ (record { none = refl; bad = not_good drive 0 0 })
by_verdict P drive entry buffer image after pass old new = new refl

-- ---- What a Write counts as done reads as given; with good status all are done
abbrev Reads : Block → (given : List ℕ) → Params → Effect → Type 0
Reads b given p e =
    ((i : ℕ) → i < e.ending.answer.sectors → content_of p (further b.address i) e.image ≡ Bytes (part (i * p.size) p.size given))
    × (is_good b.drive e.ending.answer ≡ true → e.ending.answer.sectors ≡ count_of b)

-- what is not named on the drive of the block
own_off : (n : ℕ) (x : Bool) → (eqb n n && x) ≡ false → x ≡ false
own_off n x e = rw (eq-eqb n n refl) at e

-- ---- A command whose checks have passed, with parameters p
module _ (b : Block) (given : List ℕ) (area : ℕ) (entry : Drive) (buffer image : List ℕ)
    (passed : judge b (view_of (medium_of b.drive) entry (length image)) (length given) area ≡ Passed)
    (p : Params) (valid : setting_in (medium_of b.drive) entry (length image) ≡ Some p) where
  pub good_image : Fits p image
  good_image = record { within = w b given area entry buffer image passed p valid; long = fits b given area entry buffer image passed p valid }

  on_track : (command : TrackCommand) → (row_for b.opcode).command ≡ OnDisk (TrackWork command) → (track_of p b.address).0 < track_count p
  unfolding row_for opcode_for is_among check_number
  on_track FormatDrive is = track_cleared good_image.within (clear b given area entry buffer image passed p valid _ is) refl refl
  on_track CheckTrack is = track_cleared good_image.within (clear b given area entry buffer image passed p valid _ is) refl refl
  on_track FormatTrack is = track_cleared good_image.within (clear b given area entry buffer image passed p valid _ is) refl refl
  on_track FormatBadTrack is = track_cleared good_image.within (clear b given area entry buffer image passed p valid _ is) refl refl
  on_track AssignAlternate is = track_cleared good_image.within (clear b given area entry buffer image passed p valid _ is) refl refl

  pub to_write : (row_for b.opcode).command ≡ OnDisk (SectorWork Write) → Given p (count_of b) b.address given
  unfolding row_for opcode_for is_among check_number bytes_of size_in
  to_write is =
      let ours = clear b given area entry buffer image passed p valid (OnDisk (SectorWork Write)) is in
      record { on_drive_lem = count_cleared good_image.within ours refl refl; enough = ours.enough }

  module _ (a : Lba) (ha : OnDrive p a) where
    -- not named, it reads as before
    abbrev Spared : Command → Effect → Type 0
    Spared command e = named_by b.drive p b given e.ending.answer a command ≡ false → content_of p a e.image ≡ content_of p a image

    track_spares : (command : TrackCommand) → (row_for b.opcode).command ≡ OnDisk (TrackWork command)
        → Spared (OnDisk (TrackWork command)) (as_effect buffer (do_track b p buffer given entry image command))
    unfolding as_effect do_track named_by on_tracks
    track_spares FormatDrive is off =
        format_drive_other p image good_image b buffer entry (on_track FormatDrive is) a ha (ten b given area entry buffer image passed p valid) (own_off b.drive _ off)
    track_spares CheckTrack is off = refl
    track_spares FormatTrack is off = format_track_other p image good_image b buffer entry (on_track FormatTrack is) a ha (own_off b.drive _ off)
    track_spares FormatBadTrack is off = format_bad_track_other p image good_image b buffer entry (on_track FormatBadTrack is) a ha (own_off b.drive _ off)
    track_spares AssignAlternate is off =
        assign_alternate_other p image good_image b buffer entry (on_track AssignAlternate is) a ha given (own_off b.drive _ off)

    sectors_spare : (command : SectorCommand) → (row_for b.opcode).command ≡ OnDisk (SectorWork command)
        → Spared (OnDisk (SectorWork command)) (do_sectors b p given entry buffer image command)
    unfolding do_sectors read transferred named_by begun
    sectors_spare Read is off = ap (content_of p a) (read_image (count_of b) b.address p (begun image))
    sectors_spare Write is off = write_other p image good_image b given (to_write is) entry buffer a ha (own_off b.drive _ off)

    free_spares : (command : FreeCommand) → Spared (Free command) (do_free b given entry buffer image command)
    unfolding do_free
    free_spares RequestSense off = refl
    free_spares WriteBuffer off = refl
    free_spares ReadBuffer off = refl
    free_spares Initialize off = refl

    disk_spares : (command : DiskCommand) → (row_for b.opcode).command ≡ OnDisk command
        → Spared (OnDisk command) (do_disk b p given entry buffer image command)
    unfolding do_disk
    disk_spares (ArmWork command) is off = refl
    disk_spares (TrackWork command) is off = track_spares command is off
    disk_spares (SectorWork command) is off = sectors_spare command is off

    carried_spares : (command : Command) → (row_for b.opcode).command ≡ command → Spared command (carry_out b (Some p) given entry buffer image command)
    unfolding carry_out
    carried_spares (Free command) is off = free_spares command off
    carried_spares (OnDisk command) is off = disk_spares command is off
    carried_spares Unknown is off = refl
    carried_spares Copy is off = refl

  -- ---- what a Write counts as done
  written_given : (row_for b.opcode).command ≡ OnDisk (SectorWork Write)
      → Reads b given p (carry_out b (Some p) given entry buffer image (OnDisk (SectorWork Write)))
  unfolding carry_out do_disk do_sectors
  written_given is =
      (write_given p image good_image b given (to_write is) entry buffer, write_whole p image good_image b given (to_write is) entry buffer)

-- ---- Any command of six bytes on its drive
module _ (b : Block) (given : List ℕ) (area : ℕ) (entry : Drive) (buffer image : List ℕ)
    (p : Params) (valid : setting_in (medium_of b.drive) entry (length image) ≡ Some p) where
  abbrev Done : Effect → Type 0
  Done e = (a : Lba) → OnDrive p a → named_by b.drive p b given e.ending.answer a (row_for b.opcode).command ≡ false
      → content_of p a e.image ≡ content_of p a image

  pub obey_spares : Done (obey b given area entry buffer image)
  unfolding obey view_of
  obey_spares =
      by_verdict Done b.drive entry buffer image _ (judge_by b _ (length given) area) (λ x n a ha off. refl)
      (λ passed.
      rw valid
      (λ a ha off. carried_spares b given area entry buffer image passed p valid a ha (row_for b.opcode).command refl off))

  pub obey_writes : (row_for b.opcode).command ≡ OnDisk (SectorWork Write) → Reads b given p (obey b given area entry buffer image)
  unfolding obey view_of
  obey_writes is =
      by_verdict (Reads b given p) b.drive entry buffer image _ (judge_by b _ (length given) area)
      (λ x n. (λ i l. absurd (omega (arith, n.none)), λ ok. absurd (true≢false (sym ok ∙ n.bad))))
      (λ passed. rw (valid, is) (written_given b given area entry buffer image passed p valid is))

-- ---- A command on the disk with good status had parameters
module _ (b : Block) (given : List ℕ) (area : ℕ) (entry : Drive) (buffer image : List ℕ) (command : DiskCommand)
    (is : (row_for b.opcode).command ≡ OnDisk command) where
  never_good : setting_in (medium_of b.drive) entry (length image) ≡ None
      → is_good b.drive (obey b given area entry buffer image).ending.answer ≡ false
  unfolding obey view_of carry_out failed
  never_good none =
      by_verdict (λ (e : Effect). is_good b.drive e.ending.answer ≡ false) b.drive entry buffer image _ (judge_by b _ (length given) area)
      (λ x n. n.bad) (λ passed. rw (none, is) (not_good b.drive 0 0))

  by_setting : (s : Setting) → setting_in (medium_of b.drive) entry (length image) ≡ s
      → is_good b.drive (obey b given area entry buffer image).ending.answer ≡ true
      → (p : Params) × (setting_in (medium_of b.drive) entry (length image) ≡ Some p)
  by_setting None e ok = absurd (true≢false (sym ok ∙ never_good e))
  by_setting (Some p) e ok = (p, e)

  pub good_setting : is_good b.drive (obey b given area entry buffer image).ending.answer ≡ true
      → (p : Params) × (setting_in (medium_of b.drive) entry (length image) ≡ Some p)
  good_setting = by_setting _ refl

-- ---- Any call
module _ (c : Controller) (block given area : List ℕ) (images : List (List ℕ)) where
  abbrev b : Block
  b = block_of block

  abbrev image : List ℕ
  image = image_of b.drive images

  abbrev done : Effect
  done = obey b given (length area) (drive_at c b.drive) c.buffer image

  abbrev result : Result
  result = left b.drive done c area images

  pub one_drive : is_whole block ≡ true → is_copy block ≡ false → execute c block given area images ≡ result
  unfolding on_drive
  one_drive whole other = of_one_drive c block given area images whole other

  pub its_image : image_of b.drive result.images ≡ done.image
  its_image =
      own_image b.drive done c area images
      (outside_kept b given (length area) (drive_at c b.drive) c.buffer image 0 (omega arith) (λ is. refl)).len

  pub its_answer : result.outcome.answer ≡ done.ending.answer
  unfolding left
  its_answer = refl

  module _ (d : ℕ) (p : Params) (valid : setting_in (medium_of d) (drive_at c d) (length (image_of d images)) ≡ Some p) (a : Lba) (ha : OnDrive p a) where
    abbrev Same : Result → Type 0
    Same r = content_of p a (image_of d r.images) ≡ content_of p a (image_of d images)

    on_its_drive : (own : Bool) → eqb b.drive d ≡ own
        → named_by d p b given result.outcome.answer a (row_for b.opcode).command ≡ false → Same result
    on_its_drive false e off = ap (content_of p a) (other_image b.drive done c area images d (λ z. eqb-false _ _ e (sym z)))
    on_its_drive true e off =
        let z : b.drive ≡ d = eqb-true _ _ e in
        rw (← z)
        (ap (content_of p a) its_image
        ∙ obey_spares b given (length area) (drive_at c b.drive) c.buffer image p (rw (← z) at valid) a ha (rw (← z, its_answer) at off))

    -- a Copy names the destination sectors done
    by_copies : (copy : is_copy block ≡ true) → named_by_copy d (copy_of block) (on_drives (copy_of block) c area images).outcome.answer a ≡ false
        → Same (on_drives (copy_of block) c area images)
    unfolding left_by_copy
    by_copies copy =
        by_copy c block area images copy (λ (r : Result). named_by_copy d (copy_of block) r.outcome.answer a ≡ false → Same r)
        (λ named code at some off. refl) (λ q s copies off. copy_spares c block area images copy d p valid a ha q s copies off)

    by_call : named d p block given (execute c block given area images).outcome.answer a ≡ false → Same (execute c block given area images)
    unfolding named on_drive
    by_call =
        by_block c block given area images (λ (r : Result). named d p block given r.outcome.answer a ≡ false → Same r)
        (λ whole copy off. by_copies copy (rw (whole, copy, pick_true true _ _ refl) at off))
        (λ whole other off. on_its_drive (eqb b.drive d) refl (rw (whole, other, pick-false false _ _ refl) at off)) (λ off none. refl)

  -- bytes outside a drive's tracks
  module _ (d : ℕ) where
    abbrev Beyond : Result → Type 0
    Beyond r = Outside 0 (setting_in (medium_of d) (drive_at c d) (length (image_of d images))) (image_of d images) (image_of d r.images)

    beyond_drive : (own : Bool) → eqb b.drive d ≡ own → Beyond result
    beyond_drive false e = rw (other_image b.drive done c area images d (λ z. eqb-false _ _ e (sym z))) (outside_self 0 _ (image_of d images))
    beyond_drive true e =
        let z : b.drive ≡ d = eqb-true _ _ e in
        rw (← z, its_image) (outside_kept b given (length area) (drive_at c b.drive) c.buffer image 0 (omega arith) (λ is. refl))

    beyond : Beyond (execute c block given area images)
    unfolding on_drive
    beyond =
        by_block c block given area images Beyond
        (λ whole copy. outside_less 0 _ 16 (omega arith) _ _ ((copy_leaves c block area images copy).outside d))
        (λ whole other. beyond_drive (eqb b.drive d) refl) (λ none. outside_self 0 _ (image_of d images))

-- What a command does not name reads as before.
pub no_other_record : NoOtherRecord
unfolding NoOtherRecord
no_other_record c block given area images d p valid a ha off = by_call c block given area images d p valid a ha off

-- What a Write counts as done reads as the data given.
pub written_reads : WrittenReads
unfolding WrittenReads
written_reads c block given area images p six is valid =
    let b = block_of block in
    let other = other_row block _ is (λ e. let z : ◌≡◌ {A = ℕ} 0 1 = cc in omega arith) in
    let r = obey_writes b given (length area) (drive_at c b.drive) c.buffer (image_of b.drive images) p valid is in
    rw (one_drive c block given area images (six_whole block other six) other, its_answer c block given area images, its_image c block given area images) r.0

-- A Write with good status had parameters, and has done all its sectors.
pub good_writes : GoodWrites
unfolding GoodWrites
good_writes c block given area images six is ok =
    let b = block_of block in
    let entry = drive_at c b.drive in
    let image = image_of b.drive images in
    let other = other_row block _ is (λ e. let z : ◌≡◌ {A = ℕ} 0 1 = cc in omega arith) in
    let left_it = one_drive c block given area images (six_whole block other six) other in
    let good = rw (left_it, its_answer c block given area images) at ok in
    let r = good_setting b given (length area) entry c.buffer image (SectorWork Write) is good in
    (r.0, r.1, rw (left_it, its_answer c block given area images) ((obey_writes b given (length area) entry c.buffer image r.0 r.1 is).1 good))

-- Of a drive without parameters no byte changes.
pub none_without_parameters : NoneWithoutParameters
unfolding NoneWithoutParameters
none_without_parameters c block given area images d none = (beyond c block given area images d).all none

-- The bytes past a drive's last track stay, and the length.
pub past_stays : PastStays
unfolding PastStays
past_stays c block given area images d =
    let r = beyond c block given area images d in (r.len, r.past)

-- Two addresses never share a slot.
pub slots_apart : SlotsApart
unfolding SlotsApart
slots_apart = Laws.slots_apart
