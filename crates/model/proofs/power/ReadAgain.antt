-- Request E7's theorem: after a power failure and a Reset every Read outside B answers as before.
use Prim.Native.Nat.{ℕ, ◌<◌}
use mathlib.Core.Path.{◌≡◌, sym, ap, subst, ◌∙◌}
use mathlib.Core.Bool.{true, false}
use mathlib.Core.List.{List}
use native.Mathlib.Omega.{arith}
use lib.ListN.{length}
use Rattle.base.specs.Part.{splice}
use Rattle.geometry.specs.declared.params.Track.{Track}
use Rattle.geometry.specs.declared.params.Params.{Params}
use Rattle.std.specs.Prelude.{Some}
use Rattle.geometry.specs.Params.{further}
use Rattle.geometry.specs.Medium.{medium_of}
use Rattle.geometry.specs.Config.{label_holds}
use Rattle.model.specs.declared.record.Drive.{Drive}
use Rattle.model.specs.declared.record.Controller.{Controller}
use Rattle.model.specs.declared.record.Answer.{Answer}
use Rattle.model.specs.Block.{block_of, is_copy, is_whole}
use Rattle.model.specs.Record.{drive_at, setting_in}
use Rattle.model.specs.Engine.{image_of, obey, execute, fresh, reset_of}
use Rattle.model.specs.Power.{second_track, left_images, restarted, ReadOutside, ReadsAsBefore}
use Rattle.model.proofs.engine.Blocks.{six_whole, other_row}
use Rattle.model.proofs.power.Reading.{SameRead, read_same}
use Rattle.model.proofs.power.Restarted.{left_image, loaded_again, again_force, again_view}
use Rattle.model.proofs.power.Calls.{call_answer, call_area, call_entry, has_entry}
use Rattle.model.proofs.power.Facts.{Facts, facts}

abbrev ReadsAlike : Controller → (images : List (List ℕ)) → (d : ℕ) → (cut read sent room : List ℕ) → Type 0
ReadsAlike c images d cut read sent room =
    let left = left_images d images cut in
    let before = execute c read sent room images in
    let after = execute (restarted left) read sent room left in
    (after.outcome.answer ≡ before.outcome.answer)
    × (after.area ≡ before.area)
    × (before.outcome.answer.number ≡ 0 → (drive_at after.outcome.controller d).sense ≡ (drive_at before.outcome.controller d).sense)

module _ (c : Controller) (images : List (List ℕ)) (p : Params) (B : Track) (cut read sent room : List ℕ) (o : ReadOutside read (block_of read).drive p B)
    (force : setting_in (medium_of (block_of read).drive) (drive_at c (block_of read).drive) (length (image_of (block_of read).drive images)) ≡ Some p)
    (label : label_holds (medium_of (block_of read).drive) (image_of (block_of read).drive images) (drive_at c (block_of read).drive).config ≡ true)
    (f : Facts c images (block_of read).drive p B cut) where
  abbrev here : ℕ
  here = (block_of read).drive

  abbrev after_cut : List (List ℕ)
  after_cut = left_images here images cut

  single : is_copy read ≡ false
  single = other_row read _ o.command (λ e. let z : ◌≡◌ {A = ℕ} 0 1 = cc in omega arith)

  entire : is_whole read ≡ true
  entire = six_whole read single o.six

  same_effect : SameRead (obey (block_of read) sent (length room) (drive_at (fresh after_cut) here) (fresh after_cut).buffer (image_of here after_cut))
      (obey (block_of read) sent (length room) (drive_at c here) c.buffer (image_of here images))
  same_effect =
      rw (
        loaded_again here f.below images cut (drive_at c here) p f.long f.label force label,
        left_image here f.below images cut (drive_at c here) p f.long f.label force label,
      )
      (read_same (block_of read) sent (length room) _ _ _ _ _ cut p f.within o.command
      (again_view here f.below images cut (drive_at c here) p f.long f.label force label f.calm) force
      (λ i l on. f.reads (further (block_of read).address i) on (o.outside i l)))

  four : here < length (fresh after_cut).drives
  unfolding fresh
  four = f.below

  its_read : ReadsAlike c images here cut read sent room
  unfolding reset_of
  its_read =
      let s = same_effect in (
        call_answer (fresh after_cut) read sent room after_cut entire single ∙ s.answer ∙ sym (call_answer c read sent room images entire single),
        call_area (fresh after_cut) read sent room after_cut entire single ∙ ap (λ (l : List ℕ). splice 0 l room) s.handed ∙ sym (call_area c read sent room images entire single),
        λ zero.
            ap (λ (x : Drive). x.sense) (call_entry (fresh after_cut) read sent room after_cut entire single four)
            ∙ s.sense (sym (ap (λ (r : Answer). r.number) (call_answer c read sent room images entire single)) ∙ zero)
            ∙ sym (ap (λ (x : Drive). x.sense) (call_entry c read sent room images entire single (has_entry c here _ p force))),
      )

read_alike : (c : Controller) (images : List (List ℕ)) (d : ℕ) (p : Params) (B : Track) (cut read sent room : List ℕ) → ReadOutside read d p B
    → setting_in (medium_of d) (drive_at c d) (length (image_of d images)) ≡ Some p → label_holds (medium_of d) (image_of d images) (drive_at c d).config ≡ true
    → Facts c images d p B cut → ReadsAlike c images d cut read sent room
read_alike c images d p B cut read sent room o =
    subst
    (λ (d : ℕ). ReadOutside read d p B → setting_in (medium_of d) (drive_at c d) (length (image_of d images)) ≡ Some p
    → label_holds (medium_of d) (image_of d images) (drive_at c d).config ≡ true → Facts c images d p B cut → ReadsAlike c images d cut read sent room)
    o.drive (its_read c images p B cut read sent room) o

pub reads_as_before : ReadsAsBefore
unfolding ReadsAsBefore reset_of
reads_as_before c block given area images d p k cut x =
    let f = facts c block given area images d p k cut x in
    let again = loaded_again d f.below images cut (drive_at c d) p f.long f.label k.force k.label in (
      ap (λ (e : Drive). e.config) again,
      rw again (again_force d f.below images cut (drive_at c d) p f.long f.label k.force k.label),
      λ read sent room o. read_alike c images d p (second_track p given) cut read sent room o k.force k.label f,
    )
