-- From every fresh start the label holds the parameters in force wherever a track is moved with its contents.
use Prim.Native.Nat.{ℕ}
use mathlib.Core.Path.{◌≡◌, sym, ap, subst, ◌∙◌}
use mathlib.Core.Bool.{true}
use mathlib.Core.List.{List}
use native.Mathlib.Omega.{arith}
use lib.ListN.{length}
use Rattle.geometry.specs.declared.params.Params.{Params}
use Rattle.geometry.specs.Medium.{medium_of}
use Rattle.model.specs.declared.table.Command.TheVariants.{OnDisk}
use Rattle.model.specs.declared.table.DiskCommand.TheVariants.{TrackWork}
use Rattle.model.specs.declared.table.TrackCommand.TheVariants.{AssignAlternate}
use Rattle.model.specs.Block.{block_of, keeps}
use Rattle.model.specs.Record.{drive_at}
use Rattle.model.specs.Engine.{image_of, execute}
use Rattle.model.specs.Records.{is_good, Is}
use Rattle.model.specs.Power.{Keeping, FromFresh}
use Rattle.model.proofs.engine.Blocks.{six_whole, other_row}
use Rattle.model.proofs.power.Passed.{good_passed, on_track}
use Rattle.model.proofs.power.Calls.{call_answer}
use Rattle.model.specs.Claim.{System, Call, begin, engine_at_end}
use Rattle.model.proofs.engine.Known.{setting_has}
use Rattle.model.proofs.records.Calls.{good_setting}
use Rattle.model.proofs.readers.Labels.{settled_labels}

-- on the drive of the block
module _ (images : List (List ℕ)) (calls : List Call) (block given area : List ℕ) where
  abbrev s : System
  s = engine_at_end (begin images) calls

  abbrev d : ℕ
  d = (block_of block).drive

  abbrev Fresh : ℕ → Type 0
  Fresh d = Is (OnDisk (TrackWork AssignAlternate)) d block (execute s.controller block given area s.images).outcome.answer → keeps (block_of block) ≡ true
      → (p : Params) × Keeping s.controller block given area s.images d p

  its_label : Fresh d
  unfolding Is
  its_label is keep =
      let entry = drive_at s.controller d in
      let image = image_of d s.images in
      let one = other_row block _ is.2 (λ e. let z : ◌≡◌ {A = ℕ} 0 1 = cc in omega arith) in
      let ok = ap (is_good d) (sym (call_answer s.controller block given area s.images (six_whole block one is.0) one)) ∙ is.3 in
      let r = good_setting (block_of block) given (length area) entry s.controller.buffer image _ is.2 ok in
      let both = good_passed (block_of block) given (length area) entry s.controller.buffer image r.0 is.2 r.1 ok in
      let calm = (on_track (block_of block) given (length area) entry s.controller.buffer image r.0 is.2 r.1 both.0 both.1 keep).calm in
      (r.0, record { is = is; keep = keep; force = r.1; label = settled_labels images calls d (setting_has (medium_of d) entry (length image) r.0 r.1) calm })

pub from_fresh : FromFresh
unfolding FromFresh Is
from_fresh images calls block given area d h is =
    subst (λ (d : ℕ). Fresh images calls block given area d) is.1 (its_label images calls block given area) is
