-- Copy: what it does not name reads as before, what it counts as done reads as its source's bytes, and with good status, or 23h, all are there.
use Prim.Native.Nat.{ℕ, ◌+◌, ◌*◌, ◌≤◌, ◌<◌}
use mathlib.Core.Path.{◌≡◌, refl, sym, ap, ◌∙◌}
use mathlib.Core.Bool.{true, false, true≢false}
use mathlib.Core.List.{List, ◌++◌}
use native.Mathlib.Omega.{arith}
use native.Mathlib.Decide.{ℕ_discrete, dec_lt}
use lib.ListN.{length, get_or, replicate, get_or-eq_default}
use lib.Dec.{eqb}
use borrow.Author.Tests.{eq-eqb}
use Rattle.base.specs.Part.{part}
use Rattle.geometry.specs.declared.params.Lba.{Lba}
use Rattle.geometry.specs.declared.params.Params.{Params}
use Rattle.std.specs.Prelude.{Some}
use Rattle.geometry.specs.Params.{OnDrive, further}
use Rattle.geometry.specs.Medium.{medium_of}
use Rattle.sectors.specs.Transfer.{begun, reading}
use Rattle.contents.specs.Content.{Bytes, content_of}
use Rattle.copying.specs.declared.route.Route.{Route}
use Rattle.copying.specs.Ends.{End}
use Rattle.copying.specs.Ends.{Going, SourceFault, TargetFault, Short}
use Rattle.copying.specs.Copying.{copied}
use Rattle.copying.proofs.Laws.{copied_others, copied_given, copied_elsewhere, going_whole, short_whole, EndedBy, going, by_source, by_target, short, copied_ended}
use Rattle.model.specs.declared.block.CopyBlock.{CopyBlock}
use Rattle.model.specs.declared.record.Drive.{Drive}
use Rattle.model.specs.declared.record.Controller.{Controller}
use Rattle.model.specs.Block.{is_copy, copy_of, count_of}
use Rattle.model.specs.Record.{blank_drive, drive_at, sensed, setting_in, failed, good}
use Rattle.model.specs.Copies.{CopyEffect, copy_effect, route_of, copy_ending, copy_left}
use Rattle.model.specs.Engine.{image_of, Result, left_by_copy, on_drives}
use Rattle.model.specs.Records.{is_good, named_by_copy, CopiedReads, GoodCopies, ShortCopies}
use Rattle.model.proofs.engine.Blocks.{copies}
use Rattle.model.proofs.engine.CopyLeaves.{Carried, by_copy, ending_sectors, copy_drives, copy_own_entry}
use Rattle.model.proofs.records.Commands.{not_done, not_good}
use Rattle.model.proofs.records.Codes.{reading_low, writing_low, sense_low}

-- the same parameters
one_valid : (p q : Params) → Some p ≡ Some q → p ≡ q
one_valid p q e = cc

module _ (c : Controller) (block area : List ℕ) (images : List (List ℕ)) (copy : is_copy block ≡ true) where
  abbrev k : CopyBlock
  k = copy_of block

  abbrev n : ℕ
  n = count_of k.from

  abbrev done_by : (p q : Params) → Result
  done_by p q = left_by_copy k.from.drive (copy_left k (drive_at c k.from.drive) c.buffer (copied (route_of k p q) n images)) c area

  -- the sectors counted, and the images
  its_sectors : (p q : Params) → (done_by p q).outcome.answer.sectors ≡ (copied (route_of k p q) n images).done
  unfolding left_by_copy copy_left
  its_sectors p q = let x = copied (route_of k p q) n images in ending_sectors k x.read x.done x.end (drive_at c k.from.drive)

  its_images : (p q : Params) → (done_by p q).images ≡ (copied (route_of k p q) n images).images
  unfolding left_by_copy copy_left
  its_images p q = refl

  pub copy_spares : (d : ℕ) (p : Params) → setting_in (medium_of d) (drive_at c d) (length (image_of d images)) ≡ Some p
      → (a : Lba) → OnDrive p a → (s q : Params) → Carried c block area images copy s q
      → named_by_copy d k (done_by s q).outcome.answer a ≡ false
      → content_of p a (image_of d (done_by s q).images) ≡ content_of p a (image_of d images)
  unfolding named_by_copy
  copy_spares d p valid a ha s q carried off = rw (its_images s q) (by (ℕ_discrete d k.to.drive))
    where
      r : Route
      r = route_of k s q

      by : Dec (d ≡ k.to.drive) → content_of p a (image_of d (copied r n images).images) ≡ content_of p a (image_of d images)
      by (no ne) = ap (content_of p a) (copied_others r n images carried.fitting d ne)
      by (yes e) =
          let same : p ≡ q = one_valid p q (sym valid ∙ rw e carried.target_valid) in
          let own : eqb k.to.drive d ≡ true = eq-eqb _ _ (sym e) in
          let out = not_done a.0 k.to.address.0 (done_by s q).outcome.answer.sectors (rw own at off) in
          rw (e, same) (copied_elsewhere r n images carried.fitting a (rw same at ha) (rw (its_sectors s q) at out))

  -- one that has failed before its first sector has none done, and does not end well
  abbrev failed_by : (named code : ℕ) → Lba → Result
  failed_by named code at =
      left_by_copy k.from.drive (copy_effect (failed k.from.drive named code at 0 0 (drive_at c k.from.drive)) c.buffer images) c area

  none_done : (named code : ℕ) (at : Lba) → (failed_by named code at).outcome.answer.sectors ≡ 0
  unfolding left_by_copy failed
  none_done named code at = refl

  failed_bad : (named code : ℕ) (at : Lba) → is_good k.from.drive (failed_by named code at).outcome.answer ≡ false
  unfolding left_by_copy failed
  failed_bad named code at = not_good k.from.drive 0 0

  -- ---- what is done reads as the bytes that ran into it
  module _ (p q : Params)
      (sp : setting_in (medium_of k.from.drive) (drive_at c k.from.drive) (length (image_of k.from.drive images)) ≡ Some p)
      (sq : setting_in (medium_of k.to.drive) (drive_at c k.to.drive) (length (image_of k.to.drive images)) ≡ Some q) where
    abbrev DoneReads : Result → Type 0
    DoneReads r =
        (i : ℕ) → i < r.outcome.answer.sectors
        → content_of q (further k.to.address i) (image_of k.to.drive r.images)
        ≡ Bytes (part (i * q.size) q.size
        ((reading p n k.from.address (begun (image_of k.from.drive images))).handed ++ replicate q.size 0))

    pub copy_reads : DoneReads (on_drives k c area images)
    copy_reads =
        by_copy c block area images copy DoneReads (λ named code at some i l. absurd (omega (arith, l, none_done named code at)))
        (λ s t carried.
        let ep : p ≡ s = one_valid p s (sym sp ∙ carried.source_valid) in
        let eq : q ≡ t = one_valid q t (sym sq ∙ carried.target_valid) in
        rw (ep, eq, its_images s t, its_sectors s t) (copied_given (route_of k s t) n images carried.fitting))

  -- ---- with good status all are there
  good_going : (read done : ℕ) (end : End) (entry : Drive) → is_good k.from.drive (copy_ending k read done end entry).answer ≡ true → end ≡ Going
  unfolding copy_ending failed
  good_going read done Going entry ok = refl
  good_going read done (SourceFault code) entry ok = absurd (true≢false (sym ok ∙ not_good k.from.drive done 0))
  good_going read done (TargetFault code) entry ok = absurd (true≢false (sym ok ∙ not_good k.from.drive done 0))
  good_going read done Short entry ok = absurd (true≢false (sym ok ∙ not_good k.from.drive done 0))

  done_going : (p q : Params) → is_good k.from.drive (done_by p q).outcome.answer ≡ true → (copied (route_of k p q) n images).end ≡ Going
  unfolding left_by_copy copy_left
  done_going p q ok = let x = copied (route_of k p q) n images in good_going x.read x.done x.end (drive_at c k.from.drive) ok

  abbrev Whole : Result → Type 0
  Whole r =
      (p : Params) × (q : Params)
      × (setting_in (medium_of k.from.drive) (drive_at c k.from.drive) (length (image_of k.from.drive images)) ≡ Some p)
      × (setting_in (medium_of k.to.drive) (drive_at c k.to.drive) (length (image_of k.to.drive images)) ≡ Some q)
      × ((reading p n k.from.address (begun (image_of k.from.drive images))).done ≡ n)
      × (r.outcome.answer.sectors * q.size ≡ n * p.size)

  pub copy_good : is_good k.from.drive (on_drives k c area images).outcome.answer ≡ true → Whole (on_drives k c area images)
  copy_good =
      by_copy c block area images copy (λ (r : Result). is_good k.from.drive r.outcome.answer ≡ true → Whole r)
      (λ named code at some ok. absurd (true≢false (sym ok ∙ failed_bad named code at)))
      (λ p q carried ok.
      let whole = going_whole (route_of k p q) n images carried.fitting (done_going p q ok) in
      (p, q, carried.source_valid, carried.target_valid, whole.read, rw (its_sectors p q) whole.bytes))

  -- ---- with 23h too
  -- the source drive's sense after the call; a record without that drive has none
  its_sense : (e : CopyEffect) → get_or (drive_at (left_by_copy k.from.drive e c area).outcome.controller k.from.drive).sense 0 0 ≡ 0xA3
      → get_or e.ending.entry.sense 0 0 ≡ 0xA3
  unfolding drive_at blank_drive
  its_sense e is = by (dec_lt k.from.drive (length c.drives))
    where
      after : Controller
      after = (left_by_copy k.from.drive e c area).outcome.controller

      by : Dec (k.from.drive < length c.drives) → get_or e.ending.entry.sense 0 0 ≡ 0xA3
      by (yes l) = ap (λ (x : Drive). get_or x.sense 0 0) (sym (copy_own_entry k.from.drive e c area l)) ∙ is
      by (no l) =
          let past : length after.drives ≤ k.from.drive = omega (arith, l, copy_drives k.from.drive e c area) in
          let none : get_or (drive_at after k.from.drive).sense 0 0 ≡ 0 =
          ap (λ (x : Drive). get_or x.sense 0 0) (get_or-eq_default after.drives blank_drive past) in
          absurd (omega (arith, none, is))

  short_ended : (read done source target : ℕ) (end : End) (entry : Drive) → EndedBy source target end → source ≤ 0x22 → target ≤ 0x22
      → get_or (copy_ending k read done end entry).entry.sense 0 0 ≡ 0xA3 → end ≡ Short
  unfolding copy_ending failed good sensed
  short_ended read done source target _ entry going hs ht is = absurd (sense_low 0 _ _ (omega arith) is)
  short_ended read done source target _ entry by_source hs ht is = absurd (sense_low source _ _ hs is)
  short_ended read done source target _ entry by_target hs ht is = absurd (sense_low target _ _ ht is)
  short_ended read done source target _ entry short hs ht is = refl

  abbrev InShort : Result → Type 0
  InShort r =
      (p : Params) × (q : Params)
      × (setting_in (medium_of k.from.drive) (drive_at c k.from.drive) (length (image_of k.from.drive images)) ≡ Some p)
      × (setting_in (medium_of k.to.drive) (drive_at c k.to.drive) (length (image_of k.to.drive images)) ≡ Some q)
      × ((reading p n k.from.address (begun (image_of k.from.drive images))).done ≡ n)
      × (n * p.size < r.outcome.answer.sectors * q.size)
      × (r.outcome.answer.sectors * q.size < n * p.size + q.size)

  failed_other : (named code : ℕ) (at : Lba) → code ≤ 0x22
      → get_or (failed k.from.drive named code at 0 0 (drive_at c k.from.drive)).entry.sense 0 0 ≡ 0xA3 → ⊥
  unfolding failed sensed
  failed_other named code at l is = sense_low code named at l is

  done_short : (p q : Params) → Carried c block area images copy p q
      → get_or (copy_left k (drive_at c k.from.drive) c.buffer (copied (route_of k p q) n images)).ending.entry.sense 0 0 ≡ 0xA3
      → (copied (route_of k p q) n images).end ≡ Short
  unfolding copy_left
  done_short p q carried is =
      let r = route_of k p q in
      let x = copied r n images in
      short_ended x.read x.done _ _ x.end (drive_at c k.from.drive) (copied_ended r n images carried.fitting)
      (reading_low p n k.from.address (image_of k.from.drive images)) (writing_low q _ k.to.address _ (image_of k.to.drive images)) is

  pub copy_short : get_or (drive_at (on_drives k c area images).outcome.controller k.from.drive).sense 0 0 ≡ 0xA3 → InShort (on_drives k c area images)
  copy_short =
      by_copy c block area images copy
      (λ (r : Result). get_or (drive_at r.outcome.controller k.from.drive).sense 0 0 ≡ 0xA3 → InShort r)
      (λ named code at coded is. absurd (failed_other named code at coded.1 (its_sense _ is)))
      (λ p q carried is.
      let whole = short_whole (route_of k p q) n images carried.fitting (done_short p q carried (its_sense _ is)) in
      (p, q, carried.source_valid, carried.target_valid, whole.read, rw (its_sectors p q) whole.enough, rw (its_sectors p q) whole.no_more))

-- What a Copy counts as done reads as its source's bytes, run on.
pub copied_reads : CopiedReads
unfolding CopiedReads
copied_reads c block given area images p q whole copy sp sq =
    rw (copies c block given area images whole copy) (copy_reads c block area images copy p q sp sq)

-- With good status all of its source is there.
pub good_copies : GoodCopies
unfolding GoodCopies
good_copies c block given area images whole copy =
    rw (copies c block given area images whole copy) (copy_good c block area images copy)

-- With 23h too, the last sector filled in part.
pub short_copies : ShortCopies
unfolding ShortCopies
short_copies c block given area images whole copy =
    rw (copies c block given area images whole copy) (copy_short c block area images copy)
