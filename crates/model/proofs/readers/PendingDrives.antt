-- A drive whose parameters are pending exactly when its label does not hold them: whatever the command, it stays one.
use Prim.Native.Nat.{ℕ}
use mathlib.Core.Path.{◌≡◌, refl, sym, ap, ◌∙◌}
use mathlib.Core.Bool.{true, not, false≢true}
use mathlib.Core.List.{List, [], ◌++◌}
use native.Mathlib.Omega.{arith}
use native.Mathlib.Decide.{ℕ_discrete}
use lib.ListN.{length}
use Rattle.base.specs.Part.{part}
use Rattle.geometry.specs.declared.params.Lba.{Lba}
use Rattle.geometry.specs.declared.params.Params.{Params}
use Rattle.geometry.specs.declared.medium.Medium.{Medium}
use Rattle.geometry.specs.Config.{Setting}
use Rattle.std.specs.Prelude.{Some, None}
use Rattle.geometry.specs.Medium.{medium_of}
use Rattle.geometry.specs.Config.{setting_of, label_config, label_rest, label_setting, label_holds}
use Rattle.geometry.proofs.Labels.{holds_own, label_made}
use Rattle.model.specs.declared.block.Block.{Block}
use Rattle.model.specs.declared.table.Command.{Command}
use Rattle.model.specs.declared.table.Command.TheVariants.{OnDisk}
use Rattle.model.specs.declared.table.DiskCommand.TheVariants.{TrackWork}
use Rattle.model.specs.declared.table.TrackCommand.TheVariants.{FormatDrive}
use Rattle.model.specs.declared.record.Drive.{Drive}
use Rattle.model.specs.declared.record.Ending.{Ending}
use Rattle.model.specs.Verdicts.{Verdict}
use Rattle.model.specs.Verdicts.{Refused, Faulty, Passed}
use Rattle.model.specs.Table.{TableRow, row_for}
use Rattle.model.specs.Checks.{judge}
use Rattle.model.specs.Record.{blank_drive, sensed, setting_in, refused, failed, good, unless, Effect, effect, made, unless_named}
use Rattle.model.specs.Commands.{pending_ended, format_drive, initialized, do_track, as_effect, do_disk, carry_out}
use Rattle.model.specs.Engine.{view_of, obey, loaded}
use Rattle.model.proofs.engine.Checked.{opcode_for, row_of}
use Rattle.model.proofs.engine.Known.{setting_known}
use Rattle.model.proofs.engine.Leaving.{Makes, coded, cleared, kept, initial, formatted, Obeyed, answered, denied, obeyed}
use Rattle.model.proofs.engine.Beyond.{format_label, outside_kept}
use Rattle.model.proofs.claim.Mirrors.{KeepsLabel}
use Rattle.model.proofs.claim.Current.{label_same}
use Rattle.model.proofs.claim.Restarted.{loaded_blank, loaded_known}

abbrev pub PendingByLabel : Medium → Drive → (image : List ℕ) → Type 0
PendingByLabel medium entry image = entry.known ≡ true → entry.pending ≡ not (label_holds medium image entry.config)

-- ---- Without parameters, and after Reset
pub blank_pending : (medium : Medium) (image : List ℕ) → PendingByLabel medium blank_drive image
unfolding blank_drive
blank_pending medium image known = absurd (false≢true known)

pub loaded_pending : (drive : ℕ) (image : List ℕ) → PendingByLabel (medium_of drive) (loaded drive image) image
loaded_pending drive image = by (label_setting (medium_of drive) image) refl
  where
    by : (s : Setting) → label_setting (medium_of drive) image ≡ s → PendingByLabel (medium_of drive) (loaded drive image) image
    by None e = rw (loaded_blank drive image e) (blank_pending (medium_of drive) image)
    by (Some p) e = rw (loaded_known drive image p e) (λ known. sym (ap not (holds_own (medium_of drive) image (label_config image) p e refl)))

-- ---- Labels
-- the label that Format Drive makes holds what is in force
format_holds : (medium : Medium) (config after : List ℕ) (p : Params) → part 0 16 after ≡ config ++ label_rest
    → setting_of medium config (length after) ≡ Some p → label_holds medium after config ≡ true
format_holds medium config after p is valid =
    let made = label_made medium config after p is valid in
    holds_own medium after config p made.1 made.0

-- the same label holds the same
holds_kept : (medium : Medium) (image after config : List ℕ) → KeepsLabel image after → label_holds medium after config ≡ label_holds medium image config
unfolding label_holds
holds_kept medium image after config keeps = rw (label_same medium image after keeps, keeps.label 0 10 (omega arith))

-- an entry of which only the sense has changed, and the same label
pub pending_kept : (medium : Medium) (before after : Drive) (image now : List ℕ) → after.config ≡ before.config → after.known ≡ before.known
    → after.pending ≡ before.pending → KeepsLabel image now → PendingByLabel medium before image → PendingByLabel medium after now
pending_kept medium before after image now config known pending keeps told on =
    pending ∙ told (sym known ∙ on) ∙ rw config (ap not (sym (holds_kept medium image now before.config keeps)))

-- ---- Commands
format? : (opcode : ℕ) → Dec ((row_for opcode).command ≡ OnDisk (TrackWork FormatDrive))
unfolding row_for opcode_for
format? opcode = by (ℕ_discrete (opcode_for (row_for opcode).command) 4)
  where
    by : Dec (opcode_for (row_for opcode).command ≡ 4) → Dec ((row_for opcode).command ≡ OnDisk (TrackWork FormatDrive))
    by (yes e) = yes (ap (λ (r : TableRow). r.command) (row_of opcode ∙ ap row_for e))
    by (no ne) = no (λ is. ne (ap opcode_for is))

module _ (b : Block) (given : List ℕ) (area : ℕ) (entry : Drive) (buffer image : List ℕ)
    (told : PendingByLabel (medium_of b.drive) entry image) where
  abbrev medium : Medium
  medium = medium_of b.drive

  -- one but Format Drive: the entry, by the label as it was
  makes_pending : {command : Command} {status : ℕ} {d : Drive} → (command ≡ OnDisk (TrackWork FormatDrive) → ⊥) → Makes b given entry image command status d
      → PendingByLabel medium d image
  unfolding sensed initialized
  makes_pending other kept = told
  makes_pending other (coded code at some) = told
  makes_pending other (cleared only) = told
  makes_pending other initial = λ known. refl
  makes_pending other formatted = absurd (other refl)

  obeyed_pending : {command : Command} {e : Effect} → (command ≡ OnDisk (TrackWork FormatDrive) → ⊥) → Obeyed b given entry buffer image command e
      → PendingByLabel medium e.ending.entry image
  unfolding refused
  obeyed_pending other (answered ends) = makes_pending other ends.makes
  obeyed_pending other (denied number least most is) = rw is told

  -- entry and image
  abbrev AfterIt : Effect → Type 0
  AfterIt e = PendingByLabel medium e.ending.entry e.image

  failed_leaves : (code : ℕ) (at : Lba) → AfterIt (effect (failed b.drive b.drive code at 0 0 entry) buffer [] image)
  unfolding failed sensed
  failed_leaves code at = told

  unless_leaves : {A : Type 0} (run : A → Effect) (v : Verdict) (keep : Ending → A) (after : A) → ((e : Ending) → run (keep e) ≡ effect e buffer [] image)
      → (v ≡ Passed → AfterIt (run after)) → AfterIt (run (unless v b.drive entry keep after))
  unfolding unless_named refused
  unless_leaves run (Refused number) keep after is new = rw (is (refused number entry)) told
  unless_leaves run (Faulty code at) keep after is new = rw (is (failed b.drive b.drive code at 0 0 entry)) (failed_leaves code at)
  unless_leaves run Passed keep after is new = new refl

  -- Format Drive
  format_leaves : (after : List ℕ) → label_holds medium after entry.config ≡ true
      → AfterIt (as_effect buffer (made (good b.drive 0 0 (pending_ended entry)) after))
  unfolding as_effect good sensed pending_ended
  format_leaves after holds known = sym (ap not holds)

  carried_leaves : (row_for b.opcode).command ≡ OnDisk (TrackWork FormatDrive)
      → judge b (view_of medium entry (length image)) (length given) area ≡ Passed
      → (s : Setting) → setting_in medium entry (length image) ≡ s → AfterIt (carry_out b s given entry buffer image (OnDisk (TrackWork FormatDrive)))
  unfolding carry_out do_disk do_track format_drive as_effect
  carried_leaves is passed None e = failed_leaves 0x0A b.address
  carried_leaves is passed (Some p) e =
      let whole = format_label b given area entry buffer image passed p e is in
      let valid = ap (setting_of medium entry.config) whole.0 ∙ setting_known medium entry (length image) p e in
      unless_leaves (as_effect buffer) _ (λ x. made x image) _ (λ x. refl) (λ ok. format_leaves _ (format_holds medium entry.config _ p whole.1 valid))

  obey_leaves : Dec ((row_for b.opcode).command ≡ OnDisk (TrackWork FormatDrive)) → AfterIt (obey b given area entry buffer image)
  unfolding obey view_of
  obey_leaves (yes is) =
      unless_leaves (λ (x : Effect). x) _ (λ x. effect x buffer [] image) _ (λ x. refl) (λ passed. rw is (carried_leaves is passed _ refl))
  obey_leaves (no other) =
      let made = obeyed_pending other (obeyed b given area entry buffer image) in
      let kept = outside_kept b given area entry buffer image 16 (omega arith) (λ is. absurd (other is)) in
      λ known. made known ∙ ap not (sym (holds_kept medium image _ _ (record { len = kept.len; label = kept.below })))

  pub obey_pending : AfterIt (obey b given area entry buffer image)
  obey_pending = obey_leaves (format? b.opcode)
