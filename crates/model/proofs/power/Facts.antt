-- What a move that would end well, and power that fails while it runs, leave of the drive: all but B reads as before.
use Prim.Native.Nat.{ℕ, ◌+◌, ◌≤◌, ◌<◌}
use mathlib.Core.Path.{◌≡◌, sym, ap, subst, ◌∙◌}
use mathlib.Core.Logic.{inl}
use mathlib.Core.Bool.{true, false}
use mathlib.Core.List.{List}
use native.Mathlib.Omega.{arith}
use lib.ListN.{length}
use Rattle.base.specs.Byte.{byte}
use Rattle.base.specs.Part.{part}
use Rattle.geometry.specs.declared.params.Lba.{Lba}
use Rattle.geometry.specs.declared.params.Track.{Track}
use Rattle.geometry.specs.declared.params.Params.{Params}
use Rattle.geometry.specs.Params.{Within, OnDrive, track_of}
use Rattle.geometry.specs.Medium.{medium_of}
use Rattle.interleave.specs.Layout.{layout_of}
use Rattle.track.specs.Image.{Fits}
use Rattle.track.specs.Pair.{state_of}
use Rattle.contents.specs.Content.{content_of}
use Rattle.keeping.specs.Keep.{Mapped, Keepable}
use Rattle.keeping.proofs.Laws.{layout_maps, same_length, same_beyond, power}
use Rattle.model.specs.declared.table.Command.TheVariants.{OnDisk}
use Rattle.model.specs.declared.table.DiskCommand.TheVariants.{TrackWork}
use Rattle.model.specs.declared.table.TrackCommand.TheVariants.{AssignAlternate}
use Rattle.model.specs.declared.record.Drive.{Drive}
use Rattle.model.specs.declared.record.Controller.{Controller}
use Rattle.model.specs.Verdicts.{Passed}
use Rattle.model.specs.Block.{block_of, is_copy, is_whole, alternate_of}
use Rattle.model.specs.Table.{row_for}
use Rattle.model.specs.Checks.{judged, judge}
use Rattle.model.specs.Commands.{assign_tests, missing_in}
use Rattle.model.specs.Record.{drive_at}
use Rattle.model.specs.Engine.{image_of, view_of, obey}
use Rattle.model.specs.Records.{is_good, Is}
use Rattle.model.specs.Power.{Keeping, first_track, second_track, CutShort}
use Rattle.model.proofs.engine.Assembled.{drive_below}
use Rattle.model.proofs.engine.Blocks.{six_whole, other_row}
use Rattle.model.proofs.power.Passed.{good_passed, fit, on_track, may_move}
use Rattle.model.proofs.power.Calls.{call_answer}

-- of drive d
pub record Facts (c : Controller) (images : List (List ℕ)) (d : ℕ) (p : Params) (B : Track) (cut : List ℕ) : Type 0 where
  pub below : d < 4
  pub within : Within p
  pub long : length cut ≡ length (image_of d images)
  pub label : (at size : ℕ) → at + size ≤ 16 → part at size cut ≡ part at size (image_of d images)
  pub calm : (drive_at c d).pending ≡ false
  pub reads : (a : Lba) → OnDrive p a → ((track_of p a).0 ≡ B.0 → ⊥) → content_of p a cut ≡ content_of p a (image_of d images)

-- on the drive of the block
module _ (c : Controller) (block given area : List ℕ) (images : List (List ℕ)) (p : Params) (k : Keeping c block given area images (block_of block).drive p) where
  abbrev d : ℕ
  d = (block_of block).drive

  abbrev entry : Drive
  entry = drive_at c d

  abbrev image : List ℕ
  image = image_of d images

  abbrev A : Track
  A = first_track p block

  abbrev B : Track
  B = second_track p given

  abbrev map : List ℕ
  map = layout_of p.sectors (block_of block).extra

  pub is : (row_for (block_of block).opcode).command ≡ OnDisk (TrackWork AssignAlternate)
  unfolding Is
  is = k.is.2

  pub one : is_copy block ≡ false
  one = other_row block _ is (λ e. let z : ◌≡◌ {A = ℕ} 0 1 = cc in omega arith)

  pub whole : is_whole block ≡ true
  unfolding Is
  whole = six_whole block one k.is.0

  ends_well : is_good d (obey (block_of block) given (length area) entry c.buffer image).ending.answer ≡ true
  unfolding Is
  ends_well = ap (is_good d) (sym (call_answer c block given area images whole one)) ∙ k.is.3

  pub passed : judge (block_of block) (view_of (medium_of d) entry (length image)) (length given) (length area) ≡ Passed
  passed = (good_passed (block_of block) given (length area) entry c.buffer image p is k.force ends_well).0

  pub own_passed : judged (assign_tests p (byte given 0) (block_of block).address (alternate_of given) (state_of p A image) (state_of p B image) (missing_in (block_of block) p A image)) ≡ Passed
  own_passed = (good_passed (block_of block) given (length area) entry c.buffer image p is k.force ends_well).1

  pub fits : Fits p image
  fits = fit (block_of block) given (length area) entry c.buffer image p is k.force passed own_passed k.keep

  pub may : Keepable p A B image
  may = may_move (block_of block) given (length area) entry c.buffer image p is k.force passed own_passed k.keep

  pub maps : Mapped p.sectors map
  maps = layout_maps p.sectors (block_of block).extra (omega (arith, fits.within.sectors_some))

  quiet : entry.pending ≡ false
  quiet = (on_track (block_of block) given (length area) entry c.buffer image p is k.force passed own_passed k.keep).calm

  module _ (cut : List ℕ) (x : CutShort p block given image cut) where
    pub its_facts : Facts c images d p B cut
    its_facts = record {
      below = drive_below block;
      within = fits.within;
      long = same_length p A B map image fits maps may cut x;
      label = λ at size h. same_beyond p A B map image fits maps may cut x at size (inl h);
      calm = quiet;
      reads = power p A B map image fits maps may cut x;
    }

-- on drive d
pub facts : (c : Controller) (block given area : List ℕ) (images : List (List ℕ)) (d : ℕ) (p : Params) → Keeping c block given area images d p
    → (cut : List ℕ) → CutShort p block given (image_of d images) cut → Facts c images d p (second_track p given) cut
unfolding Is
facts c block given area images d p k =
    subst (λ (d : ℕ). Keeping c block given area images d p → (cut : List ℕ) → CutShort p block given (image_of d images) cut → Facts c images d p (second_track p given) cut)
    k.is.1 (its_facts c block given area images p) k
