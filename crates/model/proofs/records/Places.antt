-- What says where records are: the label, and the parameters in force.
use Prim.Native.Nat.{ℕ, ◌≤◌, ◌<◌}
use mathlib.Core.Path.{◌≡◌, refl, sym, ap, ◌∙◌}
use mathlib.Core.Bool.{Bool, true, false, true≢false}
use mathlib.Core.List.{List, []}
use native.Mathlib.Omega.{arith}
use native.Mathlib.Decide.{dec_lt}
use lib.Seq.{get_or-set_same}
use lib.ListN.{length, get_or, set, get_or-eq_default, length-set}
use lib.Dec.{eqb}
use borrow.Author.Tests.{eqb-true, eqb-false}
use Rattle.base.specs.Part.{part}
use Rattle.base.proofs.Decide.{pick-both}
use Rattle.geometry.specs.declared.params.Params.{Params}
use Rattle.geometry.specs.Config.{Setting}
use Rattle.std.specs.Prelude.{Some, None}
use Rattle.model.specs.declared.block.Block.{Block}
use Rattle.model.specs.declared.table.Command.{Command}
use Rattle.model.specs.declared.table.Command.TheVariants.{Free, OnDisk, Copy, Unknown}
use Rattle.model.specs.declared.table.FreeCommand.TheVariants.{RequestSense, WriteBuffer, ReadBuffer, Initialize}
use Rattle.model.specs.declared.table.DiskCommand.TheVariants.{ArmWork, TrackWork, SectorWork}
use Rattle.model.specs.declared.table.TrackCommand.TheVariants.{FormatDrive, CheckTrack, FormatTrack, FormatBadTrack, AssignAlternate}
use Rattle.model.specs.declared.record.Drive.{Drive}
use Rattle.model.specs.declared.record.Controller.{Controller}
use Rattle.model.specs.declared.record.Ending.{Ending}
use Rattle.model.specs.Verdicts.{Verdict}
use Rattle.model.specs.Verdicts.{Refused, Faulty, Passed}
use Rattle.model.specs.Block.{block_of}
use Rattle.model.specs.Table.{row_for}
use Rattle.model.specs.Record.{drive_at, blank_drive, sensed, failed, good, refused, unless, Effect, effect, Made, made, unless_named}
use Rattle.model.specs.Commands.{pending_ended, format_drive, initialized, initialized_by, initialize, do_free, do_track, as_effect, do_disk, carry_out}
use Rattle.model.specs.Engine.{obey, Result, image_of, left, on_drive, execute}
use Rattle.model.specs.Records.{is_good, Is, LabelStays, ParametersStay}
use Rattle.model.proofs.engine.Leaving.{Makes, coded, cleared, kept, initial, formatted, Obeyed, answered, denied, obeyed}
use Rattle.model.proofs.engine.Beyond.{unless_left, outside_kept}
use Rattle.model.proofs.engine.Assembled.{other_entry, other_image}
use Rattle.model.proofs.engine.Blocks.{by_block, whole_six}
use Rattle.model.proofs.engine.CopyLeaves.{copy_leaves}
use Rattle.model.proofs.records.Commands.{is_good_lem}
use Rattle.model.proofs.records.Calls.{its_image, its_answer}

-- ---- Which command it is
is_format : (command : Command) → Dec (command ≡ OnDisk (TrackWork FormatDrive))
is_format (OnDisk (TrackWork FormatDrive)) = yes refl
is_format (OnDisk (TrackWork CheckTrack)) = no (λ e. let z : ◌≡◌ {A = ℕ} 0 1 = cc in omega arith)
is_format (OnDisk (TrackWork FormatTrack)) = no (λ e. let z : ◌≡◌ {A = ℕ} 0 1 = cc in omega arith)
is_format (OnDisk (TrackWork FormatBadTrack)) = no (λ e. let z : ◌≡◌ {A = ℕ} 0 1 = cc in omega arith)
is_format (OnDisk (TrackWork AssignAlternate)) = no (λ e. let z : ◌≡◌ {A = ℕ} 0 1 = cc in omega arith)
is_format (OnDisk (ArmWork command)) = no (λ e. let z : ◌≡◌ {A = ℕ} 0 1 = cc in omega arith)
is_format (OnDisk (SectorWork command)) = no (λ e. let z : ◌≡◌ {A = ℕ} 0 1 = cc in omega arith)
is_format (Free command) = no (λ e. let z : ◌≡◌ {A = ℕ} 0 1 = cc in omega arith)
is_format Unknown = no (λ e. let z : ◌≡◌ {A = ℕ} 0 1 = cc in omega arith)
is_format Copy = no (λ e. let z : ◌≡◌ {A = ℕ} 0 1 = cc in omega arith)

is_initialize : (command : Command) → Dec (command ≡ Free Initialize)
is_initialize (Free Initialize) = yes refl
is_initialize (Free RequestSense) = no (λ e. let z : ◌≡◌ {A = ℕ} 0 1 = cc in omega arith)
is_initialize (Free WriteBuffer) = no (λ e. let z : ◌≡◌ {A = ℕ} 0 1 = cc in omega arith)
is_initialize (Free ReadBuffer) = no (λ e. let z : ◌≡◌ {A = ℕ} 0 1 = cc in omega arith)
is_initialize (OnDisk command) = no (λ e. let z : ◌≡◌ {A = ℕ} 0 1 = cc in omega arith)
is_initialize Unknown = no (λ e. let z : ◌≡◌ {A = ℕ} 0 1 = cc in omega arith)
is_initialize Copy = no (λ e. let z : ◌≡◌ {A = ℕ} 0 1 = cc in omega arith)

not-true : (x : Bool) → (x ≡ true → ⊥) → x ≡ false
not-true true h = absurd (h refl)
not-true false h = refl

-- ---- Format Drive that does not end well leaves the image
module _ (b : Block) (given : List ℕ) (area : ℕ) (entry : Drive) (buffer image : List ℕ) where
  abbrev Left : Effect → Type 0
  Left e = is_good b.drive e.ending.answer ≡ false → e.image ≡ image

  format_left : (p : Params) → Left (as_effect buffer (format_drive b p buffer entry image))
  unfolding as_effect format_drive good
  format_left p =
      unless_left (λ (x : Made). Left (as_effect buffer x)) _ b.drive entry (λ e. made e image) _ (λ e bad. refl)
      (λ passed bad. absurd (true≢false (sym (is_good_lem b.drive 0 0) ∙ bad)))

  carried_left : (s : Setting) → Left (carry_out b s given entry buffer image (OnDisk (TrackWork FormatDrive)))
  unfolding carry_out do_disk do_track
  carried_left (Some p) bad = format_left p bad
  carried_left None bad = refl

  failed_format : (row_for b.opcode).command ≡ OnDisk (TrackWork FormatDrive) → Left (obey b given area entry buffer image)
  unfolding obey
  failed_format is =
      unless_left Left _ b.drive entry (λ e. effect e buffer [] image) _ (λ e bad. refl) (λ passed. rw is (carried_left _))

  -- so the label stays, or it is Format Drive and ends well
  label_kept : ((row_for b.opcode).command ≡ OnDisk (TrackWork FormatDrive) → is_good b.drive (obey b given area entry buffer image).ending.answer ≡ true → ⊥)
      → part 0 16 (obey b given area entry buffer image).image ≡ part 0 16 image
  label_kept h = by (is_format (row_for b.opcode).command)
    where
      by : Dec ((row_for b.opcode).command ≡ OnDisk (TrackWork FormatDrive)) → part 0 16 (obey b given area entry buffer image).image ≡ part 0 16 image
      by (yes is) = ap (part 0 16) (failed_format is (not-true _ (h is)))
      by (no other) = (outside_kept b given area entry buffer image 16 (omega arith) (λ is. absurd (other is))).below 0 16 (omega arith)

-- ---- The parameters in force stay but by Initialize that ends well
record Keeps (before after : Drive) : Type 0 where
  config : after.config ≡ before.config
  known : after.known ≡ before.known

keeps_self : (entry : Drive) → Keeps entry entry
keeps_self entry = record { config = refl; known = refl }

module _ (b : Block) (given : List ℕ) (area : ℕ) (entry : Drive) (buffer image : List ℕ) where
  abbrev Kept : Effect → Type 0
  Kept e = is_good b.drive e.ending.answer ≡ false → Keeps entry e.ending.entry

  configured : (held fits : Bool) (config : List ℕ) → Kept (effect (initialized_by held fits b config entry) buffer [] image)
  unfolding initialized_by failed good sensed
  configured held fits config =
      pick-both (λ (x : Ending). Kept (effect x buffer [] image)) _ _ _ (λ bad. absurd (true≢false (sym (is_good_lem b.drive 0 0) ∙ bad)))
      (λ bad. record { config = refl; known = refl })

  failing : (v : Verdict) (after : Effect) → Kept after → Kept (unless v b.drive entry (λ e. effect e buffer [] image) after)
  unfolding unless_named refused failed sensed
  failing (Refused number) after h bad = record { config = refl; known = refl }
  failing (Faulty code at) after h bad = record { config = refl; known = refl }
  failing Passed after h bad = h bad

  failed_initialize : (row_for b.opcode).command ≡ Free Initialize → Kept (obey b given area entry buffer image)
  unfolding obey carry_out do_free initialize
  failed_initialize is = failing _ _ (rw is (configured _ _ _))

  -- of every other command
  by_makes : {command : Command} {status : ℕ} {after : Drive} → (command ≡ Free Initialize → ⊥) → Makes b given entry image command status after → Keeps entry after
  unfolding sensed initialized pending_ended
  by_makes h (coded code at some) = record { config = refl; known = refl }
  by_makes h (cleared only) = record { config = refl; known = refl }
  by_makes h kept = keeps_self entry
  by_makes h initial = absurd (h refl)
  by_makes h formatted = record { config = refl; known = refl }

  by_obeyed : (command : Command) (e : Effect) → (command ≡ Free Initialize → ⊥) → Obeyed b given entry buffer image command e → Keeps entry e.ending.entry
  unfolding refused
  by_obeyed command e h (answered r) = by_makes h r.makes
  by_obeyed command e h (denied number l m is) = rw is (keeps_self entry)

  entry_kept : ((row_for b.opcode).command ≡ Free Initialize → is_good b.drive (obey b given area entry buffer image).ending.answer ≡ true → ⊥)
      → Keeps entry (obey b given area entry buffer image).ending.entry
  entry_kept h = by (is_initialize (row_for b.opcode).command)
    where
      by : Dec ((row_for b.opcode).command ≡ Free Initialize) → Keeps entry (obey b given area entry buffer image).ending.entry
      by (yes is) = failed_initialize is (not-true _ (h is))
      by (no other) = by_obeyed _ _ other (obeyed b given area entry buffer image)

-- an entry stored in the place of one that it keeps; where the record has no such drive, it has none before and after
stored_kept : (l : List Drive) (d : ℕ) (x : Drive) → Keeps (get_or l d blank_drive) x → Keeps (get_or l d blank_drive) (get_or (set l d x) d blank_drive)
stored_kept l d x k = by (dec_lt d (length l))
  where
    by : Dec (d < length l) → Keeps (get_or l d blank_drive) (get_or (set l d x) d blank_drive)
    by (yes h) = rw (get_or-set_same l d x blank_drive h) k
    by (no h) =
        let past : length l ≤ d = omega (arith, h) in
        let still : length (set l d x) ≤ d = rw (length-set l d x) past in
        rw (get_or-eq_default l blank_drive past, get_or-eq_default (set l d x) blank_drive still) (keeps_self blank_drive)

-- ---- Any call
module _ (c : Controller) (block given area : List ℕ) (images : List (List ℕ)) (d : ℕ) where
  abbrev b : Block
  b = block_of block

  abbrev done : Effect
  done = obey b given (length area) (drive_at c b.drive) c.buffer (image_of b.drive images)

  abbrev result : Result
  result = left b.drive done c area images

  label_by : (own : Bool) → eqb b.drive d ≡ own → length block ≡ 6
      → (Is (OnDisk (TrackWork FormatDrive)) d block result.outcome.answer → ⊥) → part 0 16 (image_of d result.images) ≡ part 0 16 (image_of d images)
  unfolding Is
  label_by false e six h = ap (part 0 16) (other_image b.drive done c area images d (λ z. eqb-false _ _ e (sym z)))
  label_by true e six h =
      let z : b.drive ≡ d = eqb-true _ _ e in
      rw (← z)
      (ap (part 0 16) (its_image c block given area images)
      ∙ label_kept b given (length area) (drive_at c b.drive) c.buffer (image_of b.drive images)
      (λ is ok. h (six, z, is, rw (← z) (rw (its_answer c block given area images) ok))))

  label_at : (Is (OnDisk (TrackWork FormatDrive)) d block (execute c block given area images).outcome.answer → ⊥)
      → part 0 16 (image_of d (execute c block given area images).images) ≡ part 0 16 (image_of d images)
  unfolding on_drive
  label_at =
      by_block c block given area images
      (λ (r : Result). (Is (OnDisk (TrackWork FormatDrive)) d block r.outcome.answer → ⊥) → part 0 16 (image_of d r.images) ≡ part 0 16 (image_of d images))
      (λ whole copy h. ((copy_leaves c block area images copy).outside d).below 0 16 (omega arith))
      (λ whole other h. label_by (eqb b.drive d) refl (whole_six block other whole) h) (λ none h. refl)

  own_kept : Keeps (drive_at c b.drive) done.ending.entry → Keeps (drive_at c b.drive) (drive_at result.outcome.controller b.drive)
  unfolding drive_at left
  own_kept k = stored_kept c.drives b.drive done.ending.entry k

  entry_by : (own : Bool) → eqb b.drive d ≡ own → length block ≡ 6
      → (Is (Free Initialize) d block result.outcome.answer → ⊥) → Keeps (drive_at c d) (drive_at result.outcome.controller d)
  unfolding Is
  entry_by false e six h = rw (other_entry b.drive done c area images d (λ z. eqb-false _ _ e (sym z))) (keeps_self (drive_at c d))
  entry_by true e six h =
      let z : b.drive ≡ d = eqb-true _ _ e in
      rw (← z)
      (own_kept
      (entry_kept b given (length area) (drive_at c b.drive) c.buffer (image_of b.drive images)
      (λ is ok. h (six, z, is, rw (← z) (rw (its_answer c block given area images) ok)))))

  entry_at : (Is (Free Initialize) d block (execute c block given area images).outcome.answer → ⊥)
      → Keeps (drive_at c d) (drive_at (execute c block given area images).outcome.controller d)
  unfolding on_drive
  entry_at =
      by_block c block given area images
      (λ (r : Result). (Is (Free Initialize) d block r.outcome.answer → ⊥) → Keeps (drive_at c d) (drive_at r.outcome.controller d))
      (λ whole copy h. let x = (copy_leaves c block area images copy).entries d in record { config = x.config; known = x.known })
      (λ whole other h. entry_by (eqb b.drive d) refl (whole_six block other whole) h) (λ none h. keeps_self (drive_at c d))

pub label_stays : LabelStays
unfolding LabelStays
label_stays c block given area images d h = label_at c block given area images d h

pub parameters_stay : ParametersStay
unfolding ParametersStay
parameters_stay c block given area images d h = let k = entry_at c block given area images d h in (k.config, k.known)
