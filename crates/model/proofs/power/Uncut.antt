-- Where power does not fail the command leaves the image after all its writes.
use Prim.Native.Nat.{ℕ}
use mathlib.Core.Path.{◌≡◌, subst, ◌∙◌}
use mathlib.Core.List.{List}
use lib.ListN.{length}
use Rattle.geometry.specs.declared.params.Params.{Params}
use Rattle.interleave.specs.Layout.{layout_of}
use Rattle.keeping.specs.Keep.{kept}
use Rattle.keeping.proofs.Laws.{kept_late}
use Rattle.model.specs.declared.record.Controller.{Controller}
use Rattle.model.specs.Block.{block_of}
use Rattle.model.specs.Engine.{image_of, execute}
use Rattle.model.specs.Records.{Is}
use Rattle.model.specs.Power.{Keeping, first_track, second_track, CutShort, RunsToTheEnd}
use Rattle.model.proofs.power.Passed.{leaves}
use Rattle.model.proofs.power.Calls.{call_image}
use Rattle.model.proofs.power.Facts.{is, one, whole, passed, own_passed, fits, may, maps}

-- all its writes are made, which a cut can leave too
abbrev Whole : Params → (block given image left : List ℕ) → Type 0
Whole p block given image left =
    (left ≡ kept p (first_track p block) (second_track p given) (layout_of p.sectors (block_of block).extra) image) × CutShort p block given image left

-- on the drive of the block
module _ (c : Controller) (block given area : List ℕ) (images : List (List ℕ)) (p : Params) (k : Keeping c block given area images (block_of block).drive p) where
  its_end : Whole p block given (image_of (block_of block).drive images) (image_of (block_of block).drive (execute c block given area images).images)
  its_end =
      let all = leaves (block_of block) given (length area) _ c.buffer _ p (is c block given area images p k) k.force (passed c block given area images p k) (own_passed c block given area images p k) k.keep in
      let left = call_image c block given area images (whole c block given area images p k) (one c block given area images p k) ∙ all.0 in
      (left, rw left (kept_late p _ _ _ _ (fits c block given area images p k) (maps c block given area images p k) (may c block given area images p k)))

pub runs_to_the_end : RunsToTheEnd
unfolding RunsToTheEnd Is
runs_to_the_end c block given area images d p k =
    subst (λ (d : ℕ). Keeping c block given area images d p → Whole p block given (image_of d images) (image_of d (execute c block given area images).images))
    k.is.1 (its_end c block given area images p) k
