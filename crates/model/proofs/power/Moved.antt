-- Once A's slot 0 is another, A is moved: its addresses are found on B.
use Prim.Native.Nat.{ℕ}
use mathlib.Core.Path.{◌≡◌, subst}
use mathlib.Core.List.{List}
use Rattle.geometry.specs.declared.params.Lba.{Lba}
use Rattle.geometry.specs.declared.params.Params.{Params}
use Rattle.geometry.specs.Params.{OnDrive, track_of}
use Rattle.track.specs.Image.{first_id}
use Rattle.contents.specs.Content.{content_of}
use Rattle.track.specs.Find.{Slot}
use Rattle.sectors.specs.Transfer.{found}
use Rattle.keeping.proofs.Laws.{moved_found}
use Rattle.model.specs.declared.record.Controller.{Controller}
use Rattle.model.specs.Block.{block_of}
use Rattle.model.specs.Engine.{image_of}
use Rattle.model.specs.Records.{Is}
use Rattle.model.specs.Power.{Keeping, first_track, second_track, CutShort, MovedOn}
use Rattle.model.proofs.power.Facts.{fits, may, maps}

-- on the drive of the block
module _ (c : Controller) (block given area : List ℕ) (images : List (List ℕ)) (p : Params) (k : Keeping c block given area images (block_of block).drive p)
    (cut : List ℕ) (x : CutShort p block given (image_of (block_of block).drive images) cut)
    (new : first_id p (first_track p block) cut ≡ first_id p (first_track p block) (image_of (block_of block).drive images) → ⊥)
    (a : Lba) (ha : OnDrive p a) (its : track_of p a ≡ first_track p block) where
  its_moved : (j : ℕ) × (found p a cut ≡ Slot (second_track p given) j) × (content_of p a cut ≡ content_of p a (image_of (block_of block).drive images))
  its_moved =
      moved_found p (first_track p block) (second_track p given) _ (image_of (block_of block).drive images) (fits c block given area images p k) (maps c block given area images p k)
      (may c block given area images p k) cut x new a ha its

pub moved_on : MovedOn
unfolding MovedOn Is
moved_on c block given area images d p k =
    subst
    (λ (d : ℕ). Keeping c block given area images d p → (cut : List ℕ) → CutShort p block given (image_of d images) cut
    → (first_id p (first_track p block) cut ≡ first_id p (first_track p block) (image_of d images) → ⊥)
    → (a : Lba) → OnDrive p a → track_of p a ≡ first_track p block
    → (j : ℕ) × (found p a cut ≡ Slot (second_track p given) j) × (content_of p a cut ≡ content_of p a (image_of d images)))
    k.is.1 (λ k cut x new a ha its. its_moved c block given area images p k cut x new a ha its) k
