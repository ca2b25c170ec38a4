-- While A's slot 0 is as it was, the command can be sent again, and ends as if it had not been cut.
use Prim.Native.Nat.{ℕ}
use mathlib.Core.Path.{◌≡◌, refl, sym, ap, subst, ◌∙◌}
use mathlib.Core.Bool.{true, false}
use mathlib.Core.List.{List}
use lib.ListN.{length, replicate}
use Rattle.base.specs.Byte.{byte}
use Rattle.geometry.specs.declared.params.Params.{Params}
use Rattle.geometry.specs.Medium.{medium_of}
use Rattle.interleave.specs.Layout.{layout_of}
use Rattle.track.specs.Image.{first_id}
use Rattle.track.specs.Pair.{state_of}
use Rattle.keeping.specs.Keep.{Mapped, Keepable, kept as kept_of}
use Rattle.keeping.proofs.Laws.{again}
use Rattle.model.specs.declared.record.Drive.{Drive}
use Rattle.model.specs.declared.record.Controller.{Controller}
use Rattle.model.specs.Verdicts.{Passed}
use Rattle.model.specs.Block.{block_of, alternate_of}
use Rattle.model.specs.Checks.{judged, judge}
use Rattle.model.specs.Commands.{assign_tests, missing_in}
use Rattle.model.specs.Record.{drive_at, good_answer}
use Rattle.model.specs.Engine.{image_of, view_of, obey, execute, fresh, reset_of}
use Rattle.model.specs.Records.{is_good, Is}
use Rattle.model.specs.Power.{Keeping, first_track, second_track, CutShort, left_images, SentAgain}
use Rattle.model.proofs.engine.Assignable.{assignable, first_low, assign_passes, kept_passes}
use Rattle.model.proofs.power.Passed.{leaves}
use Rattle.model.proofs.power.Restarted.{left_image, loaded_again, again_force, again_label, again_view}
use Rattle.model.proofs.power.Calls.{call_answer, call_image}
use Rattle.model.proofs.power.Facts.{Facts, is, one, whole, passed, own_passed, fits, may, maps, its_facts}

-- on the drive of the block
module _ (c : Controller) (block given area : List ℕ) (images : List (List ℕ)) (p : Params) (k : Keeping c block given area images (block_of block).drive p)
    (cut : List ℕ) (x : CutShort p block given (image_of (block_of block).drive images) cut)
    (old : first_id p (first_track p block) cut ≡ first_id p (first_track p block) (image_of (block_of block).drive images)) where
  abbrev drive : ℕ
  drive = (block_of block).drive

  abbrev before : Drive
  before = drive_at c drive

  abbrev then : List (List ℕ)
  then = left_images drive images cut

  abbrev f : Facts c images drive p (second_track p given) cut
  f = its_facts c block given area images p k cut x

  abbrev restart : Drive
  restart = record { sense = replicate 4 0; config = before.config; known = true; pending = false }

  -- the move can be made from the image that was cut, and ends as from the old one
  renewed : Keepable p (first_track p block) (second_track p given) cut
      × ((map : List ℕ) → Mapped p.sectors map → kept_of p (first_track p block) (second_track p given) map cut ≡ kept_of p (first_track p block) (second_track p given) map (image_of drive images))
  renewed =
      again p (first_track p block) (second_track p given) _ (image_of drive images) (fits c block given area images p k) (maps c block given area images p k)
      (may c block given area images p k) cut x old

  -- its checks pass again
  order_again : judge (block_of block) (view_of (medium_of drive) restart (length cut)) (length given) (length area) ≡ Passed
  order_again =
      rw (again_view drive f.below images cut before p f.long f.label k.force k.label f.calm) (passed c block given area images p k)

  own_again : judged (assign_tests p (byte given 0) (block_of block).address (alternate_of given)
      (state_of p (first_track p block) cut) (state_of p (second_track p given) cut) (missing_in (block_of block) p (first_track p block) cut)) ≡ Passed
  own_again =
      assign_passes p (byte given 0) (block_of block).address (alternate_of given) _ _ _
      (first_low p (byte given 0) (block_of block).address (alternate_of given) _ _ _ (own_passed c block given area images p k))
      (kept_passes (block_of block) p (block_of block).address (alternate_of given) cut renewed.0
      (assignable p (byte given 0) (block_of block).address (alternate_of given) _ _ _ (own_passed c block given area images p k)).on_drive_lem)

  -- what it leaves then, and what it would have left
  abbrev Leaves : (entry : Drive) → (buffer image : List ℕ) → Type 0
  Leaves entry buffer image =
      ((obey (block_of block) given (length area) entry buffer image).image ≡ kept_of p (first_track p block) (second_track p given) (layout_of p.sectors (block_of block).extra) image)
      × ((obey (block_of block) given (length area) entry buffer image).ending.answer ≡ good_answer drive 0 0)

  uncut : Leaves before c.buffer (image_of drive images)
  uncut =
      leaves (block_of block) given (length area) before c.buffer (image_of drive images) p (is c block given area images p k) k.force
      (passed c block given area images p k) (own_passed c block given area images p k) k.keep

  second_time : Leaves (drive_at (fresh then) drive) (fresh then).buffer (image_of drive then)
  second_time =
      rw (
        loaded_again drive f.below images cut before p f.long f.label k.force k.label,
        left_image drive f.below images cut before p f.long f.label k.force k.label,
      )
      (leaves (block_of block) given (length area) restart _ cut p (is c block given area images p k)
      (again_force drive f.below images cut before p f.long f.label k.force k.label) order_again own_again k.keep)

  same_answer : (execute (fresh then) block given area then).outcome.answer ≡ (execute c block given area images).outcome.answer
  same_answer =
      call_answer (fresh then) block given area then (whole c block given area images p k) (one c block given area images p k) ∙ second_time.1
      ∙ sym (call_answer c block given area images (whole c block given area images p k) (one c block given area images p k) ∙ uncut.1)

  same_image : image_of drive (execute (fresh then) block given area then).images ≡ image_of drive (execute c block given area images).images
  same_image =
      call_image (fresh then) block given area then (whole c block given area images p k) (one c block given area images p k) ∙ second_time.0
      ∙ ap (kept_of p (first_track p block) (second_track p given) _) (left_image drive f.below images cut before p f.long f.label k.force k.label)
      ∙ renewed.1 _ (maps c block given area images p k)
      ∙ sym (call_image c block given area images (whole c block given area images p k) (one c block given area images p k) ∙ uncut.0)

  keeping_again : Keeping (fresh then) block given area then drive p
  unfolding Is
  keeping_again =
      let entry = loaded_again drive f.below images cut before p f.long f.label k.force k.label in
      let lent = left_image drive f.below images cut before p f.long f.label k.force k.label in
      record {
        is = (k.is.0, refl, k.is.2, ap (is_good drive) same_answer ∙ k.is.3);
        keep = k.keep;
        force = rw (entry, lent) (again_force drive f.below images cut before p f.long f.label k.force k.label);
        label = rw (entry, lent) (again_label drive f.below images cut before p f.long f.label k.force k.label);
      }

pub sent_again : SentAgain
unfolding SentAgain reset_of Is
sent_again c block given area images d p k =
    subst
    (λ (d : ℕ). Keeping c block given area images d p → (cut : List ℕ) → CutShort p block given (image_of d images) cut
    → first_id p (first_track p block) cut ≡ first_id p (first_track p block) (image_of d images)
    → Keeping (fresh (left_images d images cut)) block given area (left_images d images cut) d p
    × ((execute (fresh (left_images d images cut)) block given area (left_images d images cut)).outcome.answer ≡ (execute c block given area images).outcome.answer)
    × (image_of d (execute (fresh (left_images d images cut)) block given area (left_images d images cut)).images ≡ image_of d (execute c block given area images).images))
    k.is.1
    (λ k cut x old. (
      keeping_again c block given area images p k cut x old,
      same_answer c block given area images p k cut x old,
      same_image c block given area images p k cut x old,
    ))
    k
