-- What a Copy leaves: each destination sector done reads its bytes, every other address reads as before.
use mathlib.Core.Path.{◌≡◌, ap, ◌∙◌}
use mathlib.Core.Logic.{◌⊎◌}
use mathlib.Core.List.{List, ◌++◌}
use Prim.Native.Nat.{ℕ, ◌+◌, ◌*◌, ◌≤◌, ◌<◌}
use native.Mathlib.Omega.{arith}
use lib.ListN.{length, set, replicate}
use Rattle.base.specs.Part.{part}
use Rattle.geometry.specs.declared.params.Lba.{Lba}
use Rattle.geometry.specs.Params.{OnDrive, further}
use Rattle.track.specs.Image.{Fits}
use Rattle.sectors.specs.Transfer.{Transfer}
use Rattle.contents.specs.Content.{Bytes, content_of}
use Rattle.contents.proofs.Laws.{Given, writing_length, writing_fits, writing_given, writing_elsewhere}
use Rattle.copying.specs.declared.route.Route.{Route}
use Rattle.copying.specs.Images.{image_of}
use Rattle.copying.specs.Copying.{Copying, copied}
use Rattle.copying.specs.Listwise.{read_all, sectors_for, write_all, Fitting}
use Rattle.copying.proofs.Drives.{image_same, image_other, fits_there}
use Rattle.copying.proofs.Sources.{given_all}
use Rattle.copying.proofs.AtOnce.{copied_listwise}

module _ (r : Route) (n : ℕ) (images : List (List ℕ)) (fit : Fitting r n images) where
  abbrev x : Transfer
  x = read_all r n images

  abbrev w : Transfer
  w = write_all r n images x

  abbrev given : List ℕ
  given = x.handed ++ replicate r.q.size 0

  abbrev T : List ℕ
  T = image_of r.target images

  abbrev m : ℕ
  m = sectors_for r n x.done

  enough : Given r.q m r.b given
  enough = given_all r n images fit

  now : (drive : ℕ) → image_of drive (copied r n images).images ≡ image_of drive (set images r.target w.image)
  now drive = ap (λ (y : Copying). image_of drive y.images) (copied_listwise r n images fit)

  -- the target's image is the one that the Write leaves
  pub copied_target : image_of r.target (copied r n images).images ≡ w.image
  copied_target =
      now r.target ∙ image_same r.target images w.image (fits_there r.q r.target images fit.target_fits)

  -- the image of every other drive stays
  pub copied_others : (drive : ℕ) → (drive ≡ r.target → ⊥) → image_of drive (copied r n images).images ≡ image_of drive images
  copied_others drive ne = now drive ∙ image_other r.target drive images w.image ne

  pub copied_fits : Fits r.q (image_of r.target (copied r n images).images)
  copied_fits = rw copied_target (writing_fits r.q m r.b T given fit.target_fits enough)

  pub copied_length : length (image_of r.target (copied r n images).images) ≡ length T
  copied_length = ap length copied_target ∙ writing_length r.q m r.b T given fit.target_fits enough

  its_done : (copied r n images).done ≡ w.done
  its_done = ap (λ (y : Copying). y.done) (copied_listwise r n images fit)

  -- each destination sector done reads its bytes
  pub copied_given : (i : ℕ) → i < (copied r n images).done
      → content_of r.q (further r.b i) (image_of r.target (copied r n images).images) ≡ Bytes (part (i * r.q.size) r.q.size given)
  copied_given i l =
      ap (content_of r.q (further r.b i)) copied_target
      ∙ writing_given r.q m r.b T given fit.target_fits enough i (omega (arith, its_done))

  -- every other address of the target drive reads as before
  pub copied_elsewhere : (c : Lba) → OnDrive r.q c → (c.0 < r.b.0) ⊎ (r.b.0 + (copied r n images).done ≤ c.0)
      → content_of r.q c (image_of r.target (copied r n images).images) ≡ content_of r.q c T
  copied_elsewhere c on out =
      ap (content_of r.q c) copied_target
      ∙ writing_elsewhere r.q m r.b T given fit.target_fits enough c on (rw its_done at out)
