-- What a call with a Copy leaves, drive by drive: of the entries only the source's sense changes, of the images only the
-- destination's, and there neither the label nor a byte past the last track, and nothing where no sector is done; of the buffer only
-- the front, by the last sector done.
use Prim.Native.Nat.{ℕ, suc, ◌≤◌, ◌<◌}
use mathlib.Core.Path.{◌≡◌, refl, sym, ap, ◌∙◌}
use mathlib.Core.Bool.{true}
use mathlib.Core.List.{List, [], ◌++◌}
use native.Mathlib.Omega.{arith}
use native.Mathlib.Decide.{ℕ_discrete, dec_lt}
use lib.ListN.{length, get_or, set, replicate, length-set, get_or-eq_default}
use lib.Seq.{get_or-set_same, get_or-set_other}
use borrow.Author.Tests.{eqb-true}
use Rattle.base.specs.Part.{splice}
use Rattle.geometry.specs.declared.params.Lba.{Lba}
use Rattle.geometry.specs.declared.params.Params.{Params}
use Rattle.std.specs.Prelude.{Some}
use Rattle.geometry.specs.Params.{further}
use Rattle.geometry.specs.Medium.{medium_of}
use Rattle.sectors.specs.Transfer.{Transfer, begun}
use Rattle.contents.specs.Content.{Bytes, content_of}
use Rattle.contents.proofs.Laws.{put_all, writing_puts}
use Rattle.copying.specs.declared.route.Route.{Route}
use Rattle.copying.specs.Ends.{End}
use Rattle.copying.specs.Ends.{Going, SourceFault, TargetFault, Short}
use Rattle.copying.specs.Copying.{Copying, copied}
use Rattle.copying.specs.Listwise.{read_all, sectors_for, Fitting}
use Rattle.copying.proofs.Laws.{copied_listwise, copied_target, copied_others, last_none, last_reads, given_all}
use Rattle.model.specs.declared.block.CopyBlock.{CopyBlock}
use Rattle.model.specs.declared.record.Drive.{Drive}
use Rattle.model.specs.declared.record.Controller.{Controller}
use Rattle.model.specs.Block.{block_of, is_copy, copy_of, count_of}
use Rattle.model.specs.Record.{blank_drive, drive_at, setting_in, sensed, failed, good}
use Rattle.model.specs.Copies.{CopyEffect, copy_effect, route_of, copy_ending, copy_left}
use Rattle.model.specs.Engine.{image_of, Result, left_by_copy, on_drives}
use Rattle.model.proofs.engine.Assembled.{drive_below}
use Rattle.model.proofs.engine.Outside.{Outside, outside_self}
use Rattle.model.proofs.engine.Written.{writes}
use Rattle.model.proofs.engine.Copies.{CheckCode, Copies, CopyObeyed, copy_failed, copy_done, copy_obeyed}

-- ---- The block
module _ (block : List ℕ) where
  pub from_copy : is_copy block ≡ true → (copy_of block).from.opcode ≡ 0x20
  unfolding is_copy copy_of block_of
  from_copy e = eqb-true _ _ e

  pub to_copy : is_copy block ≡ true → (copy_of block).to.opcode ≡ 0x20
  unfolding is_copy copy_of block_of
  to_copy e = eqb-true _ _ e

  pub from_below : (copy_of block).from.drive < 4
  unfolding copy_of
  from_below = drive_below _

  pub to_below : (copy_of block).to.drive < 4
  unfolding copy_of
  to_below = drive_below _

-- ---- Either it fails before its first sector, or it is carried out
module _ (c : Controller) (block area : List ℕ) (images : List (List ℕ)) (copy : is_copy block ≡ true) where
  abbrev k : CopyBlock
  k = copy_of block

  abbrev source : Drive
  source = drive_at c k.from.drive

  abbrev target : Drive
  target = drive_at c k.to.drive

  pub one_drive : k.from.drive ≡ k.to.drive → source ≡ target
  one_drive e = ap (drive_at c) e

  abbrev pub Carried : (p q : Params) → Type 0
  Carried p q = Copies k source target images (from_copy block copy) (to_copy block copy) one_drive p q

  pub by_copy : (P : Result → Type 0)
      → ((named code : ℕ) (at : Lba) → CheckCode code
      → P (left_by_copy k.from.drive (copy_effect (failed k.from.drive named code at 0 0 source) c.buffer images) c area))
      → ((p q : Params) → Carried p q
      → P (left_by_copy k.from.drive (copy_left k source c.buffer (copied (route_of k p q) (count_of k.from) images)) c area))
      → P (on_drives k c area images)
  unfolding on_drives
  by_copy P failing done = by _ (copy_obeyed k source target images (from_copy block copy) (to_copy block copy) one_drive c.buffer)
    where
      by : (e : CopyEffect) → CopyObeyed k source target images (from_copy block copy) (to_copy block copy) one_drive c.buffer e
          → P (left_by_copy k.from.drive e c area)
      by _ (copy_failed named code at some) = failing named code at some
      by _ (copy_done p q copies) = done p q copies

-- ---- The answer
-- the destination sectors done are counted
pub ending_sectors : (k : CopyBlock) (read done : ℕ) (end : End) (entry : Drive) → (copy_ending k read done end entry).answer.sectors ≡ done
unfolding copy_ending good failed
ending_sectors k read done Going entry = refl
ending_sectors k read done (SourceFault code) entry = refl
ending_sectors k read done (TargetFault code) entry = refl
ending_sectors k read done Short entry = refl

-- ---- Entries
-- all but the sense is as before
pub record OnlySensed (before after : Drive) : Type 0 where
  pub config : after.config ≡ before.config
  pub known : after.known ≡ before.known
  pub pending : after.pending ≡ before.pending

only_self : (entry : Drive) → OnlySensed entry entry
only_self entry = record { config = refl; known = refl; pending = refl }

failed_only : (drive named code : ℕ) (at : Lba) (sectors bytes : ℕ) (entry : Drive) → OnlySensed entry (failed drive named code at sectors bytes entry).entry
unfolding failed sensed
failed_only drive named code at sectors bytes entry = record { config = refl; known = refl; pending = refl }

ending_only : (k : CopyBlock) (read done : ℕ) (end : End) (entry : Drive) → OnlySensed entry (copy_ending k read done end entry).entry
unfolding copy_ending good sensed
ending_only k read done Going entry = record { config = refl; known = refl; pending = refl }
ending_only k read done (SourceFault code) entry = failed_only _ _ _ _ _ _ entry
ending_only k read done (TargetFault code) entry = failed_only _ _ _ _ _ _ entry
ending_only k read done Short entry = failed_only _ _ _ _ _ _ entry

-- stored in its place; where the record has no such drive, it has none before and after
only_stored : (l : List Drive) (d : ℕ) (x : Drive) → OnlySensed (get_or l d blank_drive) x → (j : ℕ)
    → OnlySensed (get_or l j blank_drive) (get_or (set l d x) j blank_drive)
only_stored l d x only j = by (ℕ_discrete j d) (dec_lt d (length l))
  where
    by : Dec (j ≡ d) → Dec (d < length l) → OnlySensed (get_or l j blank_drive) (get_or (set l d x) j blank_drive)
    by (no ne) h = rw (get_or-set_other l d j x blank_drive ne) (only_self _)
    by (yes e) (yes h) = rw (e, get_or-set_same l d x blank_drive h) only
    by (yes e) (no h) =
        let past : length l ≤ d = omega (arith, h) in
        let still : length (set l d x) ≤ d = rw (length-set l d x) past in
        rw (e, get_or-eq_default l blank_drive past, get_or-eq_default (set l d x) blank_drive still) (only_self blank_drive)

module _ (drive : ℕ) (e : CopyEffect) (c : Controller) (area : List ℕ) where
  pub copy_drives : length (left_by_copy drive e c area).outcome.controller.drives ≡ length c.drives
  unfolding left_by_copy
  copy_drives = length-set c.drives drive e.ending.entry

  left_only : OnlySensed (drive_at c drive) e.ending.entry → (d : ℕ)
      → OnlySensed (drive_at c d) (drive_at (left_by_copy drive e c area).outcome.controller d)
  unfolding drive_at left_by_copy
  left_only only d = only_stored c.drives drive e.ending.entry only d

  pub copy_own_entry : drive < length c.drives → drive_at (left_by_copy drive e c area).outcome.controller drive ≡ e.ending.entry
  unfolding drive_at left_by_copy
  copy_own_entry h = get_or-set_same c.drives drive e.ending.entry blank_drive h

  pub copy_other_entry : (d : ℕ) → (d ≡ drive → ⊥) → drive_at (left_by_copy drive e c area).outcome.controller d ≡ drive_at c d
  unfolding drive_at left_by_copy
  copy_other_entry d ne = get_or-set_other c.drives drive d e.ending.entry blank_drive ne

-- ---- Images
module _ (r : Route) (n : ℕ) (images : List (List ℕ)) (fit : Fitting r n images) where
  abbrev x : Transfer
  x = read_all r n images

  -- the destination's: outside its tracks all is as before
  target_outside : Outside 16 (Some r.q) (image_of r.target images) (image_of r.target (copied r n images).images)
  unfolding begun
  target_outside =
      let enough = given_all r n images fit in
      rw (copied_target r n images fit)
      (writes r.q fit.target_fits.within (sectors_for r n x.done) r.b (x.handed ++ replicate r.q.size 0) (begun (image_of r.target images))
      fit.target_fits.long enough.on_drive_lem enough.enough
      ).outside

  -- no sector done: no byte of the destination's image has changed
  target_none : (copied r n images).done ≡ 0 → image_of r.target (copied r n images).images ≡ image_of r.target images
  unfolding put_all
  target_none e =
      let given = x.handed ++ replicate r.q.size 0 in
      let none = sym (ap (λ (y : Copying). y.done) (copied_listwise r n images fit)) ∙ e in
      copied_target r n images fit
      ∙ writing_puts r.q (sectors_for r n x.done) r.b (image_of r.target images) given
      ∙ ap (λ (m : ℕ). put_all r.q m r.b given (image_of r.target images)) none

splice_none : (buffer : List ℕ) → splice 0 [] buffer ≡ buffer
unfolding splice
splice_none buffer = refl

-- ---- All of it
pub record CopyLeaves (k : CopyBlock) (c : Controller) (area : List ℕ) (images : List (List ℕ)) (r : Result) : Type 0 where
  pub number : r.outcome.answer.number ≡ 0
  pub bytes : r.outcome.answer.bytes ≡ 0
  pub untouched : r.area ≡ area
  pub drives : length r.outcome.controller.drives ≡ length c.drives
  pub entries : (d : ℕ) → OnlySensed (drive_at c d) (drive_at r.outcome.controller d)
  pub other_entries : (d : ℕ) → (d ≡ k.from.drive → ⊥) → drive_at r.outcome.controller d ≡ drive_at c d
  pub outside : (d : ℕ)
      → Outside 16 (setting_in (medium_of d) (drive_at c d) (length (image_of d images))) (image_of d images) (image_of d r.images)
  pub other_images : (d : ℕ) → (d ≡ k.to.drive → ⊥) → image_of d r.images ≡ image_of d images
  -- no sector done: every image stays, byte for byte, and the buffer; else the last one done, as it now reads, is at the buffer's front
  pub images_none : r.outcome.answer.sectors ≡ 0 → (d : ℕ) → image_of d r.images ≡ image_of d images
  pub buffer_none : r.outcome.answer.sectors ≡ 0 → r.outcome.controller.buffer ≡ c.buffer
  pub buffer_front : (m : ℕ) → r.outcome.answer.sectors ≡ suc m
      → (q : Params) × (last : List ℕ)
      × (setting_in (medium_of k.to.drive) (drive_at c k.to.drive) (length (image_of k.to.drive images)) ≡ Some q)
      × (content_of q (further k.to.address m) (image_of k.to.drive r.images) ≡ Bytes last)
      × (r.outcome.controller.buffer ≡ splice 0 last c.buffer)

module _ (c : Controller) (block area : List ℕ) (images : List (List ℕ)) (copy : is_copy block ≡ true) where
  abbrev from : ℕ
  from = (copy_of block).from.drive

  abbrev to : ℕ
  to = (copy_of block).to.drive

  failed_leaves : (named code : ℕ) (at : Lba)
      → CopyLeaves (copy_of block) c area images (left_by_copy from (copy_effect (failed from named code at 0 0 (drive_at c from)) c.buffer images) c area)
  unfolding left_by_copy failed
  failed_leaves named code at =
      let e = copy_effect (failed from named code at 0 0 (drive_at c from)) c.buffer images in
      record {
        number = refl;
        bytes = refl;
        untouched = refl;
        drives = copy_drives from e c area;
        entries = left_only from e c area (failed_only from named code at 0 0 (drive_at c from));
        other_entries = copy_other_entry from e c area;
        outside = λ d. outside_self 16 _ (image_of d images);
        other_images = λ d ne. refl;
        images_none = λ z d. refl;
        buffer_none = λ z. refl;
        buffer_front = λ m some. absurd (omega (arith, some));
      }

  ending_number : (read done : ℕ) (end : End) (entry : Drive) → (copy_ending (copy_of block) read done end entry).answer.number ≡ 0
  unfolding copy_ending good failed
  ending_number read done Going entry = refl
  ending_number read done (SourceFault code) entry = refl
  ending_number read done (TargetFault code) entry = refl
  ending_number read done Short entry = refl

  ending_bytes : (read done : ℕ) (end : End) (entry : Drive) → (copy_ending (copy_of block) read done end entry).answer.bytes ≡ 0
  unfolding copy_ending good failed
  ending_bytes read done Going entry = refl
  ending_bytes read done (SourceFault code) entry = refl
  ending_bytes read done (TargetFault code) entry = refl
  ending_bytes read done Short entry = refl

  done_leaves : (p q : Params) → Carried c block area images copy p q
      → CopyLeaves (copy_of block) c area images
      (left_by_copy from (copy_left (copy_of block) (drive_at c from) c.buffer (copied (route_of (copy_of block) p q) (count_of (copy_of block).from) images)) c area)
  unfolding left_by_copy copy_left
  done_leaves p q copies =
      let r = route_of (copy_of block) p q in
      let n = count_of (copy_of block).from in
      let x = copied r n images in
      let e = copy_left (copy_of block) (drive_at c from) c.buffer x in
      let count = ending_sectors (copy_of block) x.read x.done x.end (drive_at c from) in
      record {
        number = ending_number x.read x.done x.end (drive_at c from);
        bytes = ending_bytes x.read x.done x.end (drive_at c from);
        untouched = refl;
        drives = copy_drives from e c area;
        entries = left_only from e c area (ending_only (copy_of block) x.read x.done x.end (drive_at c from));
        other_entries = copy_other_entry from e c area;
        outside = λ d. by d (ℕ_discrete d to);
        other_images = copied_others r n images copies.fitting;
        images_none = λ z d. still d (sym count ∙ z) (ℕ_discrete d to);
        buffer_none = λ z. ap (λ (last : List ℕ). splice 0 last c.buffer) (last_none r n images copies.fitting (sym count ∙ z)) ∙ splice_none c.buffer;
        buffer_front = λ m some. (q, x.last, copies.target_valid, last_reads r n images copies.fitting m (sym count ∙ some), refl);
      }
    where
      r : Route
      r = route_of (copy_of block) p q

      n : ℕ
      n = count_of (copy_of block).from

      by : (d : ℕ) → Dec (d ≡ to)
          → Outside 16 (setting_in (medium_of d) (drive_at c d) (length (image_of d images))) (image_of d images) (image_of d (copied r n images).images)
      by d (yes e) = rw (e, copies.target_valid) (target_outside r n images copies.fitting)
      by d (no ne) = rw (copied_others r n images copies.fitting d ne) (outside_self 16 _ (image_of d images))

      still : (d : ℕ) → (copied r n images).done ≡ 0 → Dec (d ≡ to) → image_of d (copied r n images).images ≡ image_of d images
      still d none (yes e) = rw e (target_none r n images copies.fitting none)
      still d none (no ne) = copied_others r n images copies.fitting d ne

  pub copy_leaves : CopyLeaves (copy_of block) c area images (on_drives (copy_of block) c area images)
  copy_leaves = by_copy c block area images copy (CopyLeaves (copy_of block) c area images) (λ named code at some. failed_leaves named code at) done_leaves
